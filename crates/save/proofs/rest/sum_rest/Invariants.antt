-- `save::rest::sum_rest` meets its contract: each turn of the loop judges one erased disk, and sums it if it is determined.
-- Assumes nothing.
use mathlib.Core.Path.{◌≡◌}
use lib.ListN.{length}
use Rattle.model.specs.Grid.{layout_of}
use Rattle.save.proofs.Summed.{Rest}
use Rattle.save.proofs.rest.sum_rest.Given as goal

abbrev pub invariant-loop-d : goal.invariant-loop-d
invariant-loop-d l =
    (goal.iterator-loop-d).can_next l.d-iterator × (goal.iterator-loop-d).is_finite l.d-iterator
    × (l.d-iterator.map.now ≡ l.work) × (length l.array ≡ length l.initial.array)
    × Rest (layout_of l.grid.size l.grid.base) l.stretch l.work l.initial.array l.d-iterator.from l.array l.number
