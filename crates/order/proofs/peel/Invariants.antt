-- `order::peel` meets its contract: each turn makes the next repair.
-- Assumes nothing.
use mathlib.Core.Path.{◌≡◌}
use lib.ListN.{length}
use Rattle.stripes.specs.Erased.{erasures, without}
use Rattle.stripes.specs.Repair.{any_disk}
use Rattle.model.specs.Grid.{layout_of}
use Rattle.order.proofs.Turns.{Turn}
use Rattle.order.proofs.peel.Given as goal

abbrev pub invariant-loop-k : goal.invariant-loop-k
invariant-loop-k l = Turn (layout_of l.grid.size l.grid.base) (without any_disk l.held) (erasures l.initial.work) l.work l.stripes l.counts l.list l.k
    × (length l.work ≡ length l.initial.work) × (length l.counts ≡ length l.initial.counts) × (length l.list ≡ length l.initial.list)
