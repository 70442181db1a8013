-- `neighbours::load` meets its contract: each turn of the loop puts one erased disk into the table.
-- Assumes nothing.
use mathlib.Core.Path.{◌≡◌}
use Rattle.stripes.specs.Erased.{erasures, below}
use Rattle.model.specs.Grid.{layout_of}
use Rattle.neighbours.specs.Near.{Near}
use Rattle.neighbours.proofs.load.Given as goal

abbrev pub invariant-loop-d : goal.invariant-loop-d
invariant-loop-d l =
    (goal.iterator-loop-d).can_next l.d-iterator × (goal.iterator-loop-d).is_finite l.d-iterator
    × (l.d-iterator.map.now ≡ l.work) × Near (layout_of l.grid.size l.grid.base) (below l.d-iterator.from (erasures l.work)) l.near
