-- `restore::positions::repair_positions` meets its contract: after p turns the repairs of the first p sheets are made.
-- Assumes nothing.
use mathlib.Core.Path.{◌≡◌}
use Prim.Native.Nat.{◌/◌}
use lib.ListN.{length}
use Rattle.stripes.specs.System.{whole}
use Rattle.stripes.specs.Repair.{rebuilt}
use Rattle.stripes.specs.Sectors.{sectored, rising}
use Rattle.model.specs.Grid.{layout_of}
use Rattle.model.specs.Sheet.{narrow, sheet_at}
use Rattle.model.specs.Chain.{chain_entries}
use Rattle.restore.proofs.positions.repair_positions.Given as goal

abbrev pub invariant-loop-p : goal.invariant-loop-p
invariant-loop-p l = (length l.list ≡ 32)
    × (l.array
    ≡ rebuilt (sectored (l.block / l.sector) (layout_of l.grid.size l.grid.base)) (whole l.sector) l.initial.array
    (rising (l.block / l.sector) (λ q. chain_entries narrow (sheet_at narrow q l.sheets)) l.p))
