-- `demands::tidy_each` meets its contract: each sheet is tidied in its turn.
-- Assumes nothing.
use mathlib.Core.Path.{ap}
use mathlib.Core.List.{List, ◌++◌}
use Prim.Native.Nat.{ℕ, ◌+◌, ◌*◌}
use native.Mathlib.Omega.{arith}
use borrow.Rule.Slice.PartMut.{Post-is}
use lib.ListN.{take}
use Rattle.model.specs.Sheet.{narrow}
use Rattle.sheet.proofs.Part.{part_sheet}
use Rattle.demands.proofs.Each.{tidying_none, tidying_next, tidying_all}
use Rattle.demands.proofs.tidy_each.Goals as goal

pub loop-p-init : goal.loop-p-init
loop-p-init c = tidying_none _

pub overflow_mul-at : goal.overflow_mul-at
overflow_mul-at c = omega arith

pub overflow_add-at : goal.overflow_add-at
overflow_add-at c = omega arith

pub slice_bounds-tidy-count : goal.slice_bounds-tidy-count
slice_bounds-tidy-count c = omega arith

pub slice_bounds-tidy-start : goal.slice_bounds-tidy-start
slice_bounds-tidy-start c = omega arith

pub slice_bounds-tidy-end : goal.slice_bounds-tidy-end
slice_bounds-tidy-end c = omega arith

pub loop-p-preserved : goal.loop-p-preserved
loop-p-preserved c =
    let l = c.loop-p in
    let at : ℕ = 98 * l.p in
    let more = c.loop-p-test.true in
    let record { status = status; sheet = sheet } = c.tidy.ensures in
    tidying_next l.invariant (omega arith) (part_sheet narrow l.p l.sheets) sheet
    (ap (λ (r : List ℕ). take at l.sheets ++ (c.tidy.new.sheet ++ r)) (Post-is at (at + 98) l.sheets (omega arith)))

pub returns : goal.returns
returns c = tidying_all c.loop-p.invariant (omega arith)
