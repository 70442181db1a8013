-- `smallest::choose::choose` meets its contract: each turn of the loop goes over one of the disks of the working map.
-- Assumes nothing.
use mathlib.Core.Path.{◌≡◌}
use Rattle.model.specs.Grid.{layout_of}
use Rattle.smallest.proofs.Choosing.{Choosing}
use Rattle.smallest.proofs.choose.choose.Given as goal

abbrev pub invariant-loop-d : goal.invariant-loop-d
invariant-loop-d l =
    (goal.iterator-loop-d).can_next l.d-iterator × (goal.iterator-loop-d).is_finite l.d-iterator
    × (l.d-iterator.map.now ≡ l.initial.d-iterator.map.now)
    × Choosing (layout_of l.grid.size l.grid.base) l.ends.low l.ends.high l.others l.initial.d-iterator.map.now l.stripes l.near l.levels l.set
    l.d-iterator.from l.chosen
