-- `bridges::reach_all` meets its contract: each turn of the loop reaches one stripe, with its part if it is not reached yet.
-- Assumes nothing.
use mathlib.Core.Path.{◌≡◌}
use mathlib.Core.Bool.{true}
use Prim.Native.Nat.{ℕ, ◌<◌}
use Rattle.stripes.specs.Erased.{erasures}
use Rattle.model.specs.Grid.{layout_of}
use Rattle.reach.specs.Reached.{has}
use Rattle.bridges.specs.Forest.{Grown}
use Rattle.bridges.proofs.reach_all.Given as goal

abbrev pub invariant-loop-s : goal.invariant-loop-s
invariant-loop-s l = Grown (layout_of l.grid.size l.grid.base) (erasures l.work) l.done.seen l.done.links l.done.closed l.ways
    × ((i : ℕ) → i < l.s → has l.done.seen i ≡ true)
