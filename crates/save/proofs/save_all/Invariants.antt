-- `save::save_all` meets its contract: after p turns the determined sectors of the first p positions are saved and counted.
-- Assumes nothing.
use Prim.Native.Nat.{◌/◌}
use Rattle.stripes.specs.Erased.{erasures}
use Rattle.model.specs.Grid.{layout_of}
use Rattle.save.proofs.ByPosition.{SavedTo}
use Rattle.save.proofs.save_all.Given as goal

abbrev pub invariant-loop-p : goal.invariant-loop-p
invariant-loop-p l = SavedTo (layout_of l.grid.size l.grid.base) (l.block / l.sector) l.sector (erasures l.map) l.initial.array l.p l.array l.number
