-- `order::peel` meets its contract: each turn makes the next repair.
-- Assumes nothing.
use mathlib.Core.Path.{◌≡◌, sym, ◌∙◌, ap}
use Prim.Native.Nat.{◌<◌, ℕ}
use native.Mathlib.Omega.{arith}
use borrow.Author.Rules.{rules}
use lib.ListN.{length}
use Rattle.stripes.specs.Erased.{erasures, without}
use Rattle.stripes.specs.Repair.{any_disk}
use Rattle.stripes.proofs.Peel.{Allowed, peel_peels}
use Rattle.stripes.proofs.Degree.{on-bound}
use Rattle.stripes.specs.Fold.{count}
use Rattle.model.specs.Grid.{layout_of}
use Rattle.model.proofs.Grid.{disks-bound, size_fits_lem, layout-disks}
use Rattle.model.proofs.Limits.{grid-repairs-bound}
use Rattle.std.proofs.Common.{Some}
use Rattle.order.specs.Pick.{picked, held_repairs}
use Rattle.order.proofs.Turns.{turn_none, turn_next, turn_stuck, turn_done, turn_ends, picked-allowed}
use Rattle.layout.proofs.Runs.{stripes_few, numbered_two}
use Rattle.order.proofs.peel.Goals.{At-loop-k, In-Some}
use Rattle.order.proofs.peel.Goals as goal

pub loop-k-init : goal.loop-k-init
loop-k-init c = (turn_none _ c.requires.tallied_2, search rules, search rules, search rules)

-- There are fewer repairs than the list has room for.
room : (c : At-loop-k) → (c.loop-k.k < 32) × (c.loop-k.k < length c.loop-k.list)
room c =
    let a = c.args in
    let e = erasures a.work.now in
    let w = held_repairs (layout_of a.grid.size a.grid.base) a.held e in
    let few = grid-repairs-bound a.grid.size a.grid.base c.args.grid.numbered.above c.args.grid.numbered.fits e w (peel_peels (layout_of a.grid.size a.grid.base) _ _ e) in
    let made = c.loop-k.invariant.0.within in
    (omega arith, omega (arith, c.loop-k.invariant.3, c.requires.capacity_in_bounds))

-- The answer is the next repair, so it is allowed, and both its numbers are small.
answered : (c : In-Some) → Some c.in-Some.next ≡ picked (layout_of c.args.grid.size c.args.grid.base) (without any_disk c.args.held) (erasures c.loop-k.work)
answered c = c.in-Some.ensures

may : (c : In-Some) → Allowed (layout_of c.args.grid.size c.args.grid.base) (erasures c.loop-k.work) c.in-Some.next.disk c.in-Some.next.stripe
may c = picked-allowed _ _ _ _ _ (answered c)

small : (c : In-Some) → (c.in-Some.next.disk < 65536) × (c.in-Some.next.stripe < 65536)
small c =
    let a = may c in
    let most = disks-bound c.args.grid.size (size_fits_lem c.args.grid.size c.args.grid.numbered.fits) in
    let same = layout-disks c.args.grid.size c.args.grid.base in
    let few = stripes_few c.args.grid.numbered in
    (omega (arith, a.disk), omega (arith, on-bound (layout_of c.args.grid.size c.args.grid.base) (numbered_two c.args.grid.numbered) _ a.disk _ a.here))

pub take-requires-clause-disk_value : goal.take-requires-clause-disk_value
take-requires-clause-disk_value c = (may (goal.at.take-requires-clause-disk_value c).In-Some).erased

pub put-requires : goal.put-requires
put-requires c =
    let (disk, stripe) = small (goal.at.put-requires c).In-Some in
    record { k_in_bounds = (room (goal.at.put-requires c).At-loop-k).1; disk_bound = disk; stripe_bound = stripe }

pub loop-k-preserved : goal.loop-k-preserved
loop-k-preserved c =
    let take = c.take in
    let n = small (goal.at.loop-k-preserved c).In-Some in (
      turn_next c.loop-k.invariant.0 _ _ (answered (goal.at.loop-k-preserved c).In-Some) (room (goal.at.loop-k-preserved c).At-loop-k).1 n.0 n.1 take.ensures.tallied take.ensures.erased c.put.ensures,
      search rules,
      search rules,
      search rules,
    )

pub returns : goal.returns
returns c =
    let same = ap (λ (n : ℕ). count n (erasures c.args.work.now)) (layout-disks c.args.grid.size c.args.grid.base) in
    let (number, (left, (list, tallied))) = turn_ends c.loop-k.invariant.0 (turn_done c.loop-k.invariant.0 _ (c.requires.erased_value ∙ sym same) (omega arith)) in
    let end : c.args.erased ≡ c.loop-k.k = omega arith in
    record { number = end ∙ number; left = left; list = rw end list; tallied = tallied }

pub returns-in_default : goal.returns-in_default
returns-in_default c =
    let (number, (left, (list, tallied))) = turn_ends c.loop-k.invariant.0 (turn_stuck c.loop-k.invariant.0 c.in_default.ensures) in
    record { number = number; left = left; list = list; tallied = tallied }
