-- `parts::lost::undetermined_count` meets its contract: each turn of the loop judges one erased disk.
-- Assumes nothing.
use mathlib.Core.Path.{◌≡◌, refl}
use mathlib.Core.Logic.{inl, inr}
use native.Mathlib.Nat.{le_refl}
use native.Mathlib.Omega.{arith}
use Rattle.model.specs.Grid.{layout_of}
use Rattle.model.proofs.Grid.{layout-disks, disks-bound, size_fits_lem}
use Rattle.layout.proofs.Runs.{stripes_few}
use Rattle.tally.proofs.Scanned.{Turned, turned, ended}
use Rattle.tally.proofs.Counted.{erased-inside}
use Rattle.parts.proofs.Judged.{Judged, judged_none, judged_over, judged_few, judged_all, judged_next}
use Rattle.parts.proofs.lost.undetermined_count.Goals.{In-Some}
use Rattle.parts.proofs.lost.undetermined_count.Goals as goal

pub link_all-closed-requires : goal.link_all-closed-requires
link_all-closed-requires c =
    let few = stripes_few c.args.grid.numbered in
    record {
      table = c.requires.table;
      base_in_bounds = omega arith;
      base_in_bounds_2 = omega arith;
    }

pub loop-d-init : goal.loop-d-init
loop-d-init c =
    let begun : c.into_iter-d-iterator.result ≡ c.erased-d-items.result = c.into_iter-d-iterator.ensures.into_iter_gives in
    let first : c.into_iter-d-iterator.result.from ≡ 0 = cc (begun, c.erased-d-items.ensures.start) in
    (tt, tt, cc (begun, c.erased-d-items.ensures.map), rw first (judged_none _ _))

-- The turn of the loop.
turn : (c : goal.In-Some) → Turned c.args.work.now c.loop-d.d-iterator.from c.in-Some.d c.next.new.self.from
turn c = turned c.loop-d.invariant.2 c.in-Some.ensures.steps.1

over : (c : goal.In-Some) →
    let a = c.args in
    Judged (layout_of a.grid.size a.grid.base) a.work.now c.in-Some.d c.loop-d.count
over c = judged_over c.loop-d.invariant.3 (turn c).passed

pub overflow_add-count : goal.overflow_add-count
overflow_add-count c =
    let at = goal.at.overflow_add-count c in
    let inside = erased-inside c.requires.table _ (turn at.In-Some).erased in
    let same = layout-disks c.args.grid.size c.args.grid.base in
    let most = disks-bound c.args.grid.size (size_fits_lem c.args.grid.size c.args.grid.numbered.fits) in
    omega (arith, judged_few (over at.In-Some))

pub loop-d-preserved-then-is_undetermined : goal.loop-d-preserved-then-is_undetermined
loop-d-preserved-then-is_undetermined c =
    let at = goal.at.loop-d-preserved-then-is_undetermined c in
    let now = judged_next (over at.In-Some) c.is_undetermined.ensures (inl (c.if-is_undetermined.true, refl)) in
    (tt, tt, cc (c.next.ensures.steps.0, c.loop-d.invariant.2), rw (turn at.In-Some).goes now)

pub loop-d-preserved : goal.loop-d-preserved
loop-d-preserved c =
    let at = goal.at.loop-d-preserved c in
    let now = judged_next (over at.In-Some) c.is_undetermined.ensures (inr (c.if-is_undetermined.false, refl)) in
    (tt, tt, cc (c.next.ensures.steps.0, c.loop-d.invariant.2), rw (turn at.In-Some).goes now)

pub returns : goal.returns
returns c =
    let p = ended c.loop-d.invariant.2 c.in-None.ensures.steps.1 in
    judged_all (judged_over c.loop-d.invariant.3 p) c.requires.table (le_refl _)
