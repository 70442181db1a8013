-- `plan::draft` meets its contract: with one sector a block the map is its only position; else every position is noted first.
-- Assumes nothing.
use mathlib.Core.Path.{sym, ◌∙◌, ap}
use Prim.Native.Nat.{ℕ}
use native.Mathlib.Omega.{arith}
use Rattle.stripes.specs.Erased.{erasures}
use Rattle.model.specs.Sheet.{narrow}
use Rattle.model.specs.Plan.{sheet_layout, loss_outcome}
use Rattle.tally.proofs.Column.{one-fits}
use Rattle.plan.specs.Drafted.{draft_sheets}
use Rattle.plan.proofs.Answers.{one_outcome, one_draft}
use Rattle.plan.proofs.draft.Goals as goal

pub draft_column-requires-clause-column_value : goal.draft_column-requires-clause-column_value
draft_column-requires-clause-column_value c =
    let p = c.requires in
    one-fits {p = 0} (record { size = p.size_value; sectors = p.sectors_value; place = omega arith; map = p.map_value }) c.if-sectors-eq1.true

pub returns-then-sectors-eq1 : goal.returns-then-sectors-eq1
returns-then-sectors-eq1 c =
    let one = c.if-sectors-eq1.true in
    let a = c.args in
    record {
      outcome = c.draft_column.ensures.outcome ∙ one_outcome (sheet_layout a.size) (erasures a.map.now)
          ∙ ap (λ (n : ℕ). loss_outcome n (sheet_layout a.size) (erasures a.map.now)) (sym one);
      sheets = c.draft_column.ensures.sheet ∙ one_draft (sheet_layout a.size) (erasures a.map.now) a.limit
          ∙ ap (λ (n : ℕ). draft_sheets n (sheet_layout a.size) narrow (erasures a.map.now) a.limit) (sym one);
    }
