-- `survivors::all_fit` meets its contract: after p turns the survivors of the first p positions fit.
-- Assumes nothing.
use mathlib.Core.Path.{◌≡◌}
use mathlib.Core.Bool.{true}
use Rattle.stripes.specs.Fold.{every}
use Rattle.stripes.specs.Erased.{erasures}
use Rattle.model.specs.Grid.{layout_of}
use Rattle.survivors.proofs.ByPosition.{fits_at}
use Rattle.survivors.proofs.all_fit.Given as goal

abbrev pub invariant-loop-p : goal.invariant-loop-p
invariant-loop-p l = every l.p (fits_at (layout_of l.grid.size l.grid.base) l.block l.sector (erasures l.map) l.array) ≡ true
