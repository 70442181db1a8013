-- `survivors::survivors_fit` meets its contract: the loop tests each stripe that names its part.
-- Assumes nothing.
use mathlib.Core.Path.{◌≡◌}
use lib.ListN.{length}
use Rattle.stripes.specs.Erased.{erasures}
use Rattle.model.specs.Grid.{layout_of}
use Rattle.survivors.proofs.Judged.{Passing}
use Rattle.survivors.proofs.survivors_fit.Given as goal

abbrev pub invariant-loop-s : goal.invariant-loop-s
invariant-loop-s l = Passing (layout_of l.grid.size l.grid.base) l.stretch (erasures l.work) l.array l.parts l.s × (length l.list ≡ length l.initial.list)
