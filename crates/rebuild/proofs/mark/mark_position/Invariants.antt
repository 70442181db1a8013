-- `rebuild::mark::mark_position` meets its contract: after k turns the sectors of the first k repairs are present.
-- Assumes nothing.
use mathlib.Core.Path.{◌≡◌}
use Rattle.stripes.specs.Repair.{map_after}
use Rattle.rebuild.proofs.Marks.{sectorList}
use Rattle.rebuild.proofs.mark.mark_position.Given as goal

abbrev pub invariant-loop-k : goal.invariant-loop-k
invariant-loop-k l = l.map ≡ map_after l.initial.map (sectorList l.sectors l.position l.initial.map l.list l.k)
