-- `cycle::trace` meets its contract: the steps so far are listed.
-- Assumes nothing.
use mathlib.Core.Path.{◌≡◌}
use lib.ListN.{length}
use Rattle.model.specs.Grid.{layout_of}
use Rattle.cycle.proofs.Turn.{Turn}
use Rattle.cycle.proofs.trace.Given as goal

abbrev pub invariant-loop-k : goal.invariant-loop-k
invariant-loop-k l =
    (length l.list ≡ length l.initial.list)
    × Turn (layout_of l.grid.size l.grid.base) l.set l.list (record { disk = l.disk; stripe = l.stripe }) l.k
