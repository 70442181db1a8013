-- `parts::join::join_all` meets its contract: each turn of the loop joins the stripes of one erased disk.
-- Assumes nothing.
use mathlib.Core.Path.{◌≡◌}
use lib.ListN.{length}
use Rattle.stripes.specs.Erased.{erasures}
use Rattle.model.specs.Grid.{layout_of}
use Rattle.parts.specs.Parted.{Parted}
use Rattle.parts.proofs.join.join_all.Given as goal

abbrev pub invariant-loop-d : goal.invariant-loop-d
invariant-loop-d l =
    (goal.iterator-loop-d).can_next l.d-iterator × (goal.iterator-loop-d).is_finite l.d-iterator
    × (l.d-iterator.map.now ≡ l.work) × Parted (layout_of l.grid.size l.grid.base) (erasures l.work) l.d-iterator.from l.parts
    × (length l.parts ≡ length l.initial.parts)
