-- `order::pick` meets its contract: the loop passes the erased disks that are held back or alone on no stripe.
-- Assumes nothing.
use mathlib.Core.Path.{◌≡◌, ◌∙◌, ap}
use mathlib.Core.Bool.{true}
use native.Mathlib.Omega.{arith}
use Rattle.stripes.specs.Erased.{erasures, without}
use Rattle.stripes.specs.Repair.{any_disk}
use Rattle.stripes.proofs.Peel.{without_at, without_other}
use Rattle.model.specs.Grid.{layout_of}
use Rattle.tally.proofs.Scanned.{Turned, turned, ended}
use Rattle.tally.proofs.Counted.{Crossed, erased_crossed, low_held, high_held}
use Rattle.order.proofs.Picked.{Crowded, crowded_over, crowded_held, crowded_next, picked_none, picked_low, picked_high}
use Rattle.layout.proofs.Runs.{numbered_two}
use Rattle.order.proofs.pick.Goals.{In-Some, After-stripes_of-pair, Then-d-held}
use Rattle.order.proofs.pick.Goals as goal

-- The turn of the loop, and the disks that it passes over.
turn : (c : goal.In-Some) → Turned c.args.work.now c.loop-d.d-iterator.from c.in-Some.d c.next.new.self.from
turn c = turned c.loop-d.invariant.2 c.in-Some.ensures.steps.1

crowded : (c : goal.In-Some) →
    let a = c.args in
    Crowded (layout_of a.grid.size a.grid.base) (without any_disk a.held) (erasures a.work.now) c.in-Some.d
crowded c = crowded_over c.loop-d.invariant.3 (turn c).passed

pub returns : goal.returns
returns c =
    let past = ended c.loop-d.invariant.2 c.in-None.ensures.steps.1 in
    picked_none (crowded_over c.loop-d.invariant.3 past) (omega (arith, c.requires.tallied.table.disks_fit))

-- Its stripes.
pair : (c : goal.After-stripes_of-pair) →
    let a = c.args in
    Crossed (layout_of a.grid.size a.grid.base) c.in-Some.d c.stripes_of-pair.result.low c.stripes_of-pair.result.high
pair c =
    erased_crossed c.requires.tallied.table _ (turned c.loop-d.invariant.2 c.in-Some.ensures.steps.1).erased (numbered_two c.args.grid.numbered) c.stripes_of-pair.ensures

-- It is not held back.
chosen : (c : goal.Then-d-held) →
    without any_disk c.args.held c.in-Some.d ≡ true
chosen c = without_other any_disk _ _ c.if-d-held.true

pub bounds-counts-low : goal.bounds-counts-low
bounds-counts-low c = (low_held (pair (goal.at.bounds-counts-low c).After-stripes_of-pair) c.requires.tallied.counted).0

pub returns-then-counts-low-eq1 : goal.returns-then-counts-low-eq1
returns-then-counts-low-eq1 c =
    picked_low (crowded (goal.at.returns-then-counts-low-eq1 c).In-Some) (turn (goal.at.returns-then-counts-low-eq1 c).In-Some).erased c.requires.tallied.counted (pair (goal.at.returns-then-counts-low-eq1 c).After-stripes_of-pair) (chosen (goal.at.returns-then-counts-low-eq1 c).Then-d-held) c.if-counts-low-eq1.true

pub bounds-counts-high : goal.bounds-counts-high
bounds-counts-high c =
    (high_held (pair (goal.at.bounds-counts-high c).After-stripes_of-pair) c.requires.tallied.counted).0

pub returns-then-counts-high-eq1 : goal.returns-then-counts-high-eq1
returns-then-counts-high-eq1 c =
    picked_high (crowded (goal.at.returns-then-counts-high-eq1 c).In-Some) (turn (goal.at.returns-then-counts-high-eq1 c).In-Some).erased c.requires.tallied.counted (pair (goal.at.returns-then-counts-high-eq1 c).After-stripes_of-pair) (chosen (goal.at.returns-then-counts-high-eq1 c).Then-d-held) c.if-counts-low-eq1.false c.if-counts-high-eq1.true

pub loop-d-preserved-else-counts-high-eq1 : goal.loop-d-preserved-else-counts-high-eq1
loop-d-preserved-else-counts-high-eq1 c =
    let at = goal.at.loop-d-preserved-else-counts-high-eq1 c in
    let t = turn at.In-Some in (
      tt,
      tt,
      cc (c.next.ensures.steps.0, c.loop-d.invariant.2),
      rw t.goes (crowded_next (crowded at.In-Some) t.erased c.requires.tallied.counted (pair at.After-stripes_of-pair) c.if-counts-low-eq1.false c.if-counts-high-eq1.false),
    )

pub loop-d-preserved : goal.loop-d-preserved
loop-d-preserved c =
    let t = turn (goal.at.loop-d-preserved c).In-Some in (
      tt,
      tt,
      cc (c.next.ensures.steps.0, c.loop-d.invariant.2),
      rw t.goes (crowded_held (crowded (goal.at.loop-d-preserved c).In-Some) (ap (without any_disk _) c.if-d-held.false ∙ without_at any_disk _)),
    )
