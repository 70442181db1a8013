-- `plan::draft_column` meets its contract: the repairs, or the cycle of what is left.
-- Assumes nothing.
use mathlib.Core.Path.{subst}
use Prim.Native.Nat.{◌≤◌}
use native.Mathlib.Omega.{arith}
use lib.ListN.{length}
use Rattle.stripes.specs.Erased.{erasures}
use Rattle.model.specs.Plan.{sheet_layout}
use Rattle.layout.proofs.Numbers.{numbered}
use Rattle.solve.specs.Solved.{Solves}
use Rattle.solve.specs.declared.Solved.{Solved}
use Rattle.solve.specs.declared.Solved.TheVariants.{Repairs, Cycle}
use Rattle.solve.proofs.Fitting.{repairs_fit, cycle-fits}
use Rattle.sheet.proofs.Fitting.{listed-fits}
use Rattle.model.specs.Answers.{verdict_of}
use Rattle.plan.proofs.Answers.{drafts_repairs, drafts_fatal}
use Rattle.plan.proofs.draft_column.Goals.{After-solve-answer, In-Cycle, In-Repairs}
use Rattle.plan.proofs.draft_column.Goals as goal

-- The list has room after it was solved.
room : (c : goal.After-solve-answer) → 32 ≤ length c.solve-answer.new.list
room c = let same = c.solve-answer.auto.list in omega arith

-- What is solved, in each case.
fine : (c : goal.In-Repairs) →
    Solves (sheet_layout c.args.size) (erasures c.args.column.now) (Repairs c.in-Repairs.count) c.solve-answer.new.list
fine c =
    subst (λ (r : Solved). Solves (sheet_layout c.args.size) (erasures c.args.column.now) r c.solve-answer.new.list)
    c.in-Repairs.is c.solve-answer.ensures

lossy : (c : goal.In-Cycle) →
    Solves (sheet_layout c.args.size) (erasures c.args.column.now) (Cycle c.in-Cycle.disks c.in-Cycle.lost) c.solve-answer.new.list
lossy c =
    subst (λ (r : Solved). Solves (sheet_layout c.args.size) (erasures c.args.column.now) r c.solve-answer.new.list)
    c.in-Cycle.is c.solve-answer.ensures

pub invariant_of-grid : goal.invariant_of-grid
invariant_of-grid c = record { numbered = numbered _ c.requires.size_value }

pub write-requires : goal.write-requires
write-requires c =
    let small = listed-fits (repairs_fit _ c.requires.size_value _) _ _ (fine (goal.at.write-requires c).In-Repairs).entries in
    let few = small.few in
    let long = room (goal.at.write-requires c).After-solve-answer in
    let made = c.at_most.ensures in
    record {
      sheet_len = c.requires.sheet_len;
      count_le_records = omega arith;
      count_in_bounds = omega arith;
      by_index = λ i h. small.stripe i (omega arith);
    }

pub write-requires-in-Cycle : goal.write-requires-in-Cycle
write-requires-in-Cycle c =
    let small = listed-fits (cycle-fits _ c.requires.size_value _ (lossy (goal.at.write-requires-in-Cycle c).In-Cycle).lossy) _ _ (lossy (goal.at.write-requires-in-Cycle c).In-Cycle).entries in
    let long = room (goal.at.write-requires-in-Cycle c).After-solve-answer in
    record {
      sheet_len = c.requires.sheet_len;
      count_le_records = small.few;
      count_in_bounds = omega arith;
      by_index = small.stripe;
    }

pub returns-in-Repairs : goal.returns-in-Repairs
unfolding verdict_of
returns-in-Repairs c =
    let (h0, h1) = drafts_repairs _ _ _ _ _ _ (fine (goal.at.returns-in-Repairs c).In-Repairs) c.at_most.ensures c.write.ensures in
    record {
      outcome = h0;
      sheet = h1;
    }

pub returns-in-Cycle : goal.returns-in-Cycle
unfolding verdict_of
returns-in-Cycle c =
    let (h0, h1) = drafts_fatal _ _ _ _ _ _ (lossy (goal.at.returns-in-Cycle c).In-Cycle) c.write-in-Cycle.ensures in
    record {
      outcome = h0;
      sheet = h1;
    }
