-- `demands::rebuild_once` meets its contract: what rebuild promises is what the theorems about one turn are proved of.
-- Assumes nothing.
use mathlib.Core.Path.{◌≡◌, sym, ◌∙◌, ap, subst}
use Prim.Native.Nat.{◌/◌}
use Rattle.model.specs.Plan.{sheet_layout, outcome_status}
use Rattle.model.specs.Sheet.{narrow}
use Rattle.model.specs.Turn.{Turn}
use Rattle.model.specs.Rebuild.{rebuild_turn}
use Rattle.model.specs.Demand3.{TurnKeeps}
use Rattle.model.proofs.Demand3.{turn_keeps}
use Rattle.model.proofs.Single.{rebuild_single}
use Rattle.model.proofs.Tidy.{turn_reads}
use Rattle.model.proofs.ByPosition.{turn_alone}
use Rattle.demands.proofs.rebuild_once.Goals as goal

pub returns : goal.returns
returns c =
    let a = c.args in
    let record { outcome = outcome; array = array; map = map; sheets = sheets } = c.rebuild.ensures in
    let t : Turn = rebuild_turn a.size a.block a.sector a.array.now a.map.now a.sheets.now a.limit in
    let is : ◌≡◌ {A = Turn} (record { answer = _; array = _; map = _; sheets = _ }) t =
    λ i. record { answer = outcome i; array = array i; map = map i; sheets = sheets i } in
    record {
      outcome = outcome;
      array = array;
      map = map;
      sheets = sheets;
      keeps = λ ok b r.
          subst (TurnKeeps (a.block / a.sector) (sheet_layout a.size) narrow a.sector a.limit b a.map.now) (sym is)
          (turn_keeps a.size a.block a.sector a.array.now a.map.now a.sheets.now a.limit ok b r);
      single = λ one. is ∙ (rw one (rebuild_single a.size a.block a.array.now a.map.now a.sheets.now a.limit));
      read = λ accepted.
          rw sheets
          (turn_reads a.size a.block a.sector a.array.now a.map.now a.sheets.now a.limit
          (sym (ap outcome_status outcome) ∙ accepted));
      alone = λ accepted.
          rw array
          (turn_alone a.size a.block a.sector a.array.now a.map.now a.sheets.now a.limit
          (sym (ap outcome_status outcome) ∙ accepted));
    }
