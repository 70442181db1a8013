-- Rebuilding in turns (paper 02, P2): what comes of a loss in one turn, of turns one after another, and of all repairs at once. A block has
-- n sectors. Where a definition takes n, L is the stripe system at each position; where it does not, L is that of the sectors.
-- Assumes nothing.
use Rattle.std.specs.Prelude.{Bool, true, false, cond, not, ◌&&◌, List, [], ◌∷◌, ℕ, ◌+◌, eqb, length, take}
use Rattle.stripes.specs.Fold.{count}
use Rattle.stripes.specs.System.{Layout, consistent}
use Rattle.stripes.specs.Erased.{erasures}
use Rattle.stripes.specs.Repair.{Entry, fatal, map_after, rebuilt, zeroed}
use Rattle.stripes.specs.Sectors.{sectored, sector_repairs}
use Rattle.stripes.specs.declared.Stretch.{Stretch}
use Rattle.model.specs.Sheet.{Format, repair_sheets, blank_sheets}
use Rattle.model.specs.Plan.{loss_outcome, loss_sheets}
use Rattle.model.specs.Outcome.{Outcome}
use Rattle.model.specs.Outcome.{Repairs, Fatal, Refused}

-- How a turn ends: its answer, and what the array, the map and the sheets hold then.
pub record Turn : Type 0 where
  pub answer : Outcome
  pub array : List ℕ
  pub map : List ℕ
  pub sheets : List ℕ

-- Nothing is erased: a test.
unfoldable pub clear : Layout → List ℕ → Bool
clear L m = eqb (count L.disks (erasures m)) 0

-- ---- The three ends

-- A fatal loss is told as plan tells it. Array and map stay.
unfoldable pub loss_told : (n : ℕ) → Layout → Format → (a m : List ℕ) → Turn
loss_told n L f a m = record { answer = loss_outcome n L (erasures m); array = a; map = m; sheets = loss_sheets n L f (erasures m) }

-- Survivors that contradict each other, at any position, are refused by 7: zeros in the sectors that the map has as erased and in all sheets.
-- The map stays.
unfoldable pub contradiction : (n : ℕ) → Format → Stretch → (a m : List ℕ) → Turn
contradiction n f x a m = record { answer = Refused 7; array = zeroed x a (erasures m); map = m; sheets = blank_sheets f n }

-- A list of repairs of sectors is made: the array has them, the map has their sectors as present, the sheets list them.
unfoldable pub repairs_made : (n : ℕ) → Layout → Format → Stretch → (a m : List ℕ) → List Entry → Turn
repairs_made n L f x a m w =
    record { answer = Repairs (length w); array = rebuilt (sectored n L) x a w; map = map_after m w; sheets = repair_sheets f n w }

-- ---- One turn

-- Its repairs: the first ones of plan's order, at most k.
unfoldable pub turn_repairs : (n : ℕ) → Layout → (k : ℕ) → List ℕ → List Entry
turn_repairs n L k m = take k (sector_repairs n L (erasures m))

-- They clear the map, or find it clear, and then a stripe's sum is not zero: a test.
unfoldable pub contradicts : Layout → Stretch → (a m : List ℕ) → List Entry → Bool
contradicts L x a m w = clear L (map_after m w) && not (consistent L x (rebuilt L x a w))

-- A turn of at most k repairs, over all positions together. The loss is judged on the map as it is.
unfoldable pub turn_of : (n : ℕ) → Layout → Format → Stretch → (k : ℕ) → (a m : List ℕ) → Turn
turn_of n L f x k a m =
    cond (fatal (sectored n L) (erasures m)) (loss_told n L f a m)
    (cond (contradicts (sectored n L) x a m (turn_repairs n L k m)) (contradiction n f x a m)
    (repairs_made n L f x a m (turn_repairs n L k m)))

-- ---- Turns one after another

-- The answer is a number of repairs, and no refusal.
unfoldable pub accepted : Outcome → Bool
accepted (Repairs c) = true
accepted (Fatal c p) = false
accepted (Refused k) = false

-- Another turn is to come: this one was not refused, and the map is not clear.
unfoldable pub unfinished : Layout → Turn → Bool
unfinished L t = accepted t.answer && not (clear L t.map)

-- Turns with sheets for each, each on the array and the map that the one before left, until the map is clear, one is refused or no
-- sheets are left. A step says how one turn ends.
unfoldable pub turns_by : Layout → (step : (a m sheets : List ℕ) → Turn) → (buffers : List (List ℕ)) → (a m : List ℕ) → List Turn
turns_by L step [] a m = []
turns_by L step (s ∷ ss) a m =
    let t : Turn = step a m s in
    t ∷ cond (unfinished L t) (turns_by L step ss t.array t.map) []

-- Turns of at most k repairs. What the sheets held does not matter.
abbrev pub turns_of : (n : ℕ) → Layout → Format → Stretch → (k : ℕ) → (buffers : List (List ℕ)) → (a m : List ℕ) → List Turn
turns_of n L f x k = turns_by (sectored n L) (λ a m s. turn_of n L f x k a m)

-- The last of them, or `before` where there is none.
unfoldable pub last_of : (before : Turn) → List Turn → Turn
last_of before [] = before
last_of before (t ∷ ts) = last_of t ts

-- How many repairs an answer reports, and how many all turns made.
unfoldable pub repair_count : Outcome → ℕ
repair_count (Repairs c) = c
repair_count (Fatal c p) = 0
repair_count (Refused k) = 0

unfoldable pub made_by : List Turn → ℕ
made_by [] = 0
made_by (t ∷ ts) = repair_count t.answer + made_by ts

-- ---- All repairs at once

-- A rebuild without turns, which is that of paper 01 but for the map: all repairs in plan's order, and then every stripe's sum is
-- tested.
unfoldable pub whole_rebuild : (n : ℕ) → Layout → Format → Stretch → (a m : List ℕ) → Turn
whole_rebuild n L f x a m =
    cond (fatal (sectored n L) (erasures m)) (loss_told n L f a m)
    (cond (consistent (sectored n L) x (rebuilt (sectored n L) x a (sector_repairs n L (erasures m))))
    (repairs_made n L f x a m (sector_repairs n L (erasures m))) (contradiction n f x a m))
