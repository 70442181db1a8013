-- `rebuild::mark::mark_present` meets its contract: after p turns the sectors of the repairs of the first p positions are present.
-- Assumes nothing.
use mathlib.Core.Path.{◌≡◌}
use lib.ListN.{length}
use Rattle.stripes.specs.Repair.{map_after}
use Rattle.stripes.specs.Sectors.{rising}
use Rattle.model.specs.Sheet.{narrow, sheet_at}
use Rattle.model.specs.Chain.{chain_entries}
use Rattle.rebuild.proofs.mark.mark_present.Given as goal

abbrev pub invariant-loop-p : goal.invariant-loop-p
invariant-loop-p l = (length l.list ≡ 32)
    × (l.map ≡ map_after l.initial.map (rising l.sectors (λ q. chain_entries narrow (sheet_at narrow q l.sheets)) l.p))
