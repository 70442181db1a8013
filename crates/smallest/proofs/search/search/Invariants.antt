-- `smallest::search::search` meets its contract: each turn of the loop takes one disk out of the table and keeps the better of it and what was found.
-- Assumes nothing.
use mathlib.Core.Path.{◌≡◌}
use Rattle.stripes.specs.Erased.{erasures}
use Rattle.model.specs.Grid.{layout_of}
use Rattle.smallest.proofs.Searched.{Searched}
use Rattle.smallest.proofs.search.search.Given as goal

abbrev pub invariant-loop-d : goal.invariant-loop-d
invariant-loop-d l =
    (goal.iterator-loop-d).can_next l.d-iterator × (goal.iterator-loop-d).is_finite l.d-iterator
    × (l.d-iterator.map.now ≡ l.work) × (l.from ≡ l.d-iterator.from)
    × Searched (layout_of l.grid.size l.grid.base) (erasures l.work) l.d-iterator.from l.near l.disk l.others
