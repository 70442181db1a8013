-- Plan: what it answers and what its sheets hold afterwards, for every input. The map is only read.
-- Assumes nothing.
use Rattle.std.specs.Prelude.{Bool, cond, List, [], ◌∷◌, ℕ, eqb, ltb, length}
use Rattle.stripes.specs.System.{Layout}
use Rattle.stripes.specs.Erased.{erasures}
use Rattle.stripes.specs.Repair.{Entry}
use Rattle.stripes.specs.Undetermined.{lost}
use Rattle.stripes.specs.Smallest.{shown_cycle}
use Rattle.stripes.specs.Sectors.{at_position, sector_repairs, fatal_position}
use Rattle.model.specs.Grid.{layout_of, size_fits, sectors_fit, map_bytes, map_fits}
use Rattle.model.specs.Refusal.{Test, ◌unless◌, refusal}
use Rattle.model.specs.Sheet.{Format, narrow, sheets_bytes, sheets_of, sheet_of, blank_sheet, repair_sheets}
use Rattle.model.specs.declared.Size.{Size}
use Rattle.model.specs.Outcome.{Outcome}
use Rattle.model.specs.Outcome.{Repairs, Fatal, Refused}

-- The tests of the map and of the length of the sheets, which come after those of the size, the block, the array and the sectors: n sectors
-- a block.
unfoldable pub sheet_tests : Size → (n : ℕ) → List ℕ → (len : ℕ) → List Test
sheet_tests z n m len = 4 unless map_fits (map_bytes z n) m ∷ 5 unless eqb len (sheets_bytes narrow n) ∷ []

unfoldable pub plan_tests : Size → (n : ℕ) → List ℕ → (len : ℕ) → List Test
plan_tests z n m len = 1 unless size_fits z ∷ 16 unless sectors_fit n ∷ sheet_tests z n m len

-- Where there are no sectors: one position.
unfoldable pub one_tests : Size → List ℕ → (len : ℕ) → List Test
one_tests z m len = 1 unless size_fits z ∷ sheet_tests z 1 m len

-- What the loss of the sectors e comes to, and the sheets that say so. A fatal position refuses the whole plan: the lowest such is named, its
-- sheet shows the smallest cycle there, and the other sheets are zero.
unfoldable pub loss_outcome : (n : ℕ) → Layout → (e : ℕ → Bool) → Outcome
loss_outcome n L e =
    let p : ℕ = fatal_position n L e in
    cond (ltb p n) (Fatal (lost L (at_position n p e)) p) (Repairs (length (sector_repairs n L e)))

unfoldable pub cycle_sheets : Format → (n p : ℕ) → List Entry → List ℕ
cycle_sheets f n p w = sheets_of n (λ q. cond (eqb q p) (sheet_of f f.loop_kind w) (blank_sheet f))

unfoldable pub loss_sheets : (n : ℕ) → Layout → Format → (e : ℕ → Bool) → List ℕ
loss_sheets n L f e =
    let p : ℕ = fatal_position n L e in
    cond (ltb p n) (cycle_sheets f n p (shown_cycle L (at_position n p e))) (repair_sheets f n (sector_repairs n L e))

-- The stripes as a sheet of paper 01 numbers them.
abbrev pub sheet_layout : Size → Layout
sheet_layout z = layout_of z narrow.base

-- What plan answers, and the sheets after it.
unfoldable pub plan_outcome : Size → (n : ℕ) → (m sheets : List ℕ) → Outcome
plan_outcome z n m sheets =
    cond (eqb (refusal (plan_tests z n m (length sheets))) 0) (loss_outcome n (sheet_layout z) (erasures m))
    (Refused (refusal (plan_tests z n m (length sheets))))

unfoldable pub plan_sheets : Size → (n : ℕ) → (m sheets : List ℕ) → List ℕ
plan_sheets z n m sheets =
    cond (eqb (refusal (plan_tests z n m (length sheets))) 0) (loss_sheets n (sheet_layout z) narrow (erasures m)) sheets

-- The number of an outcome, 0 for repairs and 6 for a fatal loss; the count that it carries, and the position that it names, else what stood
-- there before.
unfoldable pub outcome_status : Outcome → ℕ
outcome_status (Repairs c) = 0
outcome_status (Fatal c p) = 6
outcome_status (Refused k) = k

unfoldable pub outcome_count : Outcome → ℕ → ℕ
outcome_count (Repairs c) before = c
outcome_count (Fatal c p) before = c
outcome_count (Refused k) before = before

unfoldable pub outcome_position : Outcome → ℕ → ℕ
outcome_position (Repairs c) before = before
outcome_position (Fatal c p) before = p
outcome_position (Refused k) before = before
