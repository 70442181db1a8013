-- `parts::lost::undetermined_count` meets its contract: each turn of the loop judges one erased disk.
-- Assumes nothing.
use mathlib.Core.Path.{◌≡◌}
use Rattle.model.specs.Grid.{layout_of}
use Rattle.parts.proofs.Judged.{Judged}
use Rattle.parts.proofs.lost.undetermined_count.Given as goal

abbrev pub invariant-loop-d : goal.invariant-loop-d
invariant-loop-d l =
    (goal.iterator-loop-d).can_next l.d-iterator × (goal.iterator-loop-d).is_finite l.d-iterator
    × (l.d-iterator.map.now ≡ l.work) × Judged (layout_of l.grid.size l.grid.base) l.work l.d-iterator.from l.count
