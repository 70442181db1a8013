-- `parts::link::link_all` meets its contract: each turn of the loop links one erased disk.
-- Assumes nothing.
use mathlib.Core.Path.{◌≡◌}
use lib.ListN.{length}
use Rattle.stripes.specs.Erased.{erasures}
use Rattle.model.specs.Grid.{layout_of}
use Rattle.parts.proofs.Parted.{Linking}
use Rattle.parts.proofs.link.link_all.Given as goal

abbrev pub invariant-loop-d : goal.invariant-loop-d
invariant-loop-d l =
    (goal.iterator-loop-d).can_next l.d-iterator × (goal.iterator-loop-d).is_finite l.d-iterator
    × (l.d-iterator.map.now ≡ l.work)
    × Linking (layout_of l.grid.size l.grid.base) (erasures l.work) l.d-iterator.from l.parts l.ways l.closed
    × (length l.parts ≡ length l.initial.parts) × (length l.ways ≡ length l.initial.ways)
