-- `cycle::partner` meets its contract: no disk of the set so far is the one that is looked for.
-- Assumes nothing.
use mathlib.Core.Path.{◌≡◌}
use Rattle.model.specs.Grid.{layout_of}
use Rattle.cycle.proofs.Search.{NoOther}
use Rattle.cycle.proofs.partner.Given as goal

abbrev pub invariant-loop-d : goal.invariant-loop-d
invariant-loop-d l =
    (goal.iterator-loop-d).can_next l.d-iterator × (goal.iterator-loop-d).is_finite l.d-iterator × (l.d-iterator.map.now ≡ l.set)
    × NoOther (layout_of l.grid.size l.grid.base) l.set (record { disk = l.disk; stripe = l.stripe }) l.d-iterator.from
