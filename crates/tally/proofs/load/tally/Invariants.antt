-- `tally::load::tally` meets its contract: each turn of the loop enters and counts one erased disk.
-- Assumes nothing.
use mathlib.Core.Path.{◌≡◌}
use lib.ListN.{length}
use Rattle.model.specs.Grid.{layout_of}
use Rattle.tally.proofs.Loaded.{Loaded}
use Rattle.tally.proofs.load.tally.Given as goal

abbrev pub invariant-loop-d : goal.invariant-loop-d
invariant-loop-d l =
    (goal.iterator-loop-d).can_next l.d-iterator × (goal.iterator-loop-d).is_finite l.d-iterator
    × (l.d-iterator.map.now ≡ l.work) × (length l.stripes ≡ length l.initial.stripes) × (length l.counts ≡ length l.initial.counts)
    × Loaded (layout_of l.grid.size l.grid.base) l.work l.d-iterator.from l.stripes l.counts l.number
