-- `replay::all_allowed` meets its contract: each turn judges one entry.
-- Assumes nothing.
use mathlib.Core.Path.{◌≡◌}
use lib.ListN.{length}
use Rattle.stripes.specs.Erased.{erasures}
use Rattle.model.specs.Grid.{layout_of}
use Rattle.replay.proofs.Replayed.{Replayed}
use Rattle.replay.proofs.all_allowed.Given as goal

abbrev pub invariant-loop-k : goal.invariant-loop-k
invariant-loop-k l = (length l.work ≡ length l.initial.work) × (length l.counts ≡ length l.initial.counts)
    × Replayed (layout_of l.grid.size l.grid.base) (erasures l.initial.work) l.list l.work l.stripes l.counts l.k
