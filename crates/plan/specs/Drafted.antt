-- What a draft says and writes.
-- Assumes nothing.
use Rattle.std.specs.Prelude.{Bool, cond, List, ltb, length, take, ℕ}
use Rattle.stripes.specs.System.{Layout}
use Rattle.stripes.specs.Repair.{repairs, fatal}
use Rattle.stripes.specs.Undetermined.{lost}
use Rattle.stripes.specs.Smallest.{shown_cycle}
use Rattle.stripes.specs.Sectors.{at_position, sector_repairs, fatal_position}
use Rattle.model.specs.Sheet.{Format, sheet_of, repair_sheets}
use Rattle.model.specs.Plan.{cycle_sheets}
use Rattle.model.specs.Outcome.{Outcome}
use Rattle.model.specs.Outcome.{Repairs, Fatal}

-- What the loss of the disks e at position p comes to.
unfoldable pub position_outcome : Layout → (e : ℕ → Bool) → (p : ℕ) → Outcome
position_outcome L e p = cond (fatal L e) (Fatal (lost L e) p) (Repairs (length (repairs L e)))

-- Its sheet has the first repairs, at most k, or for a fatal loss a cycle.
unfoldable pub draft_sheet : Layout → Format → (e : ℕ → Bool) → (k : ℕ) → List ℕ
draft_sheet L f e k = cond (fatal L e) (sheet_of f f.loop_kind (shown_cycle L e)) (sheet_of f f.repair_kind (take k (repairs L e)))

-- The sheets have the first repairs of sectors, at most k, or for a fatal loss a cycle at the lowest position where it is fatal.
unfoldable pub draft_sheets : (n : ℕ) → Layout → Format → (e : ℕ → Bool) → (k : ℕ) → List ℕ
draft_sheets n L f e k =
    cond (ltb (fatal_position n L e) n) (cycle_sheets f n (fatal_position n L e) (shown_cycle L (at_position n (fatal_position n L e) e)))
    (repair_sheets f n (take k (sector_repairs n L e)))
