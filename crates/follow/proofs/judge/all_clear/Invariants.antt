-- `follow::judge::all_clear` meets its contract: after p turns the repairs of the first p positions are judged.
-- Assumes nothing.
use mathlib.Core.Path.{◌≡◌}
use mathlib.Core.Bool.{true}
use lib.ListN.{length}
use Rattle.stripes.specs.Fold.{every}
use Rattle.stripes.specs.Erased.{erasures}
use Rattle.model.specs.Grid.{layout_of}
use Rattle.follow.proofs.Judged.{clearsAt}
use Rattle.follow.proofs.judge.all_clear.Given as goal

abbrev pub invariant-loop-p : goal.invariant-loop-p
invariant-loop-p l = (length l.list ≡ 32) × (every l.p (clearsAt l.sectors (layout_of l.grid.size l.grid.base) (erasures l.map) l.sheets) ≡ true)
