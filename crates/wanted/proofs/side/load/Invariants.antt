-- `wanted::side::load` meets its contract: the map is copied, and each turn of the loop looks one of the others up.
-- Assumes nothing.
use mathlib.Core.Path.{◌≡◌}
use lib.ListN.{length}
use Rattle.model.specs.Grid.{layout_of}
use Rattle.wanted.proofs.Sided.{Sided}
use Rattle.wanted.proofs.side.load.Given as goal

abbrev pub invariant-loop-d : goal.invariant-loop-d
invariant-loop-d l =
    (goal.iterator-loop-d).can_next l.d-iterator × (goal.iterator-loop-d).is_finite l.d-iterator × (l.d-iterator.map.now ≡ l.others)
    × Sided (layout_of l.grid.size l.grid.base) l.map l.others l.parts l.name l.d-iterator.from l.work
    × (length l.work ≡ length l.initial.work)
