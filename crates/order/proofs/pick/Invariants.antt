-- `order::pick` meets its contract: the loop passes the erased disks that are held back or alone on no stripe.
-- Assumes nothing.
use mathlib.Core.Path.{◌≡◌}
use Rattle.stripes.specs.Erased.{erasures, without}
use Rattle.stripes.specs.Repair.{any_disk}
use Rattle.model.specs.Grid.{layout_of}
use Rattle.order.proofs.Picked.{Crowded}
use Rattle.order.proofs.pick.Given as goal

abbrev pub invariant-loop-d : goal.invariant-loop-d
invariant-loop-d l =
    (goal.iterator-loop-d).can_next l.d-iterator × (goal.iterator-loop-d).is_finite l.d-iterator × (l.d-iterator.map.now ≡ l.work)
    × Crowded (layout_of l.grid.size l.grid.base) (without any_disk l.held) (erasures l.work) l.d-iterator.from
