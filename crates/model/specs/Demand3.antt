-- Demand 3, what plan and rebuild promise of a loss, as one statement about a plan and rebuild's turns on the same map, in the words
-- that papers 01 and 02 give for it: over any edition of the array and format of the sheets, for blocks of n sectors of w bytes, array a
-- and limit k. What papers say of cards is said of sectors: the survivors are the sectors that the map has as present before the first turn,
-- and the edition is that of the array at each position.
-- Assumes nothing.
use Rattle.std.specs.Prelude.{◌≡◌, Bool, true, false, cond, ◌↔◌, List, [], ◌∷◌, ℕ, ◌+◌, ◌*◌, ◌-◌, ◌/◌, ◌≤◌, ◌<◌, min, eqb, length, take, drop}
use Rattle.stripes.specs.Fold.{count}
use Rattle.stripes.specs.System.{Layout, whole, Codeword}
use Rattle.stripes.specs.Erased.{erasures, Agree, Belongs, Ambiguous, AmbiguousIn}
use Rattle.stripes.specs.Repair.{Entry, fatal as Repair·fatal, map_after, rebuilt, zeroed}
use Rattle.stripes.specs.Smallest.{SmallestOf}
use Rattle.stripes.specs.Sectors.{sector_at, sectored, at_position, sector_repairs, of_position, InRisingOrder}
use Rattle.model.specs.Sheet.{Format, repair_sheets, blank_sheets}
use Rattle.model.specs.Plan.{cycle_sheets, outcome_status}
use Rattle.model.specs.Turn.{Turn}
use Rattle.model.specs.Edition.{Edition}
use Rattle.model.specs.Outcome.{Outcome}
use Rattle.model.specs.Outcome.{Repairs, Fatal}

-- Of the loops of erased disks v is the shortest, and of equal ones that whose disk numbers in ascending order come first (paper 02, P7). There
-- is no other such list.
pub record SmallestLoop (E : Edition) (e : ℕ → Bool) (v : List Entry) : Type 0 where
  pub smallest : SmallestOf E.layout (E.Loops e) v
  pub only : (u : List Entry) → SmallestOf E.layout (E.Loops e) u → u ≡ v

-- A list of repairs in plan's order, every erased sector once, and its sheets, one for each position; and sheets of which that of position p
-- shows the smallest loop of the disks erased there, and the others are zero. The records fit.
abbrev pub Lists : (n : ℕ) → Layout → Format → (ℕ → Bool) → List Entry → (sheets : List ℕ) → Type 0
Lists n L f e v sheets =
    (sheets ≡ repair_sheets f n v) × ((p : ℕ) → p < n → length (of_position n p v) ≤ f.records)
    × (length v ≡ count (sectored n L).disks e) × InRisingOrder n L e v

abbrev pub LoopSheets : (n : ℕ) → Edition → Format → (ℕ → Bool) → (p : ℕ) → (sheets : List ℕ) → Type 0
LoopSheets n E f e p sheets =
    (v : List Entry) × (sheets ≡ cycle_sheets f n p v) × (length v ≤ f.records) × SmallestLoop E (at_position n p e) v

-- At position p so many sectors are lost: two sealed arrays differ in them that agree on every survivor.
abbrev pub LostAt : (n : ℕ) → Layout → (w : ℕ) → (e : ℕ → Bool) → (p number : ℕ) → Type 0
LostAt n L w e p number =
    (t : ℕ → Bool) × (number ≡ count L.disks t)
    × ((d : ℕ) → d < L.disks → (t d ≡ true) ↔ AmbiguousIn (sectored n L) (whole w) e (sector_at n p d))

-- What plan promises of the loss of the sectors e. It takes no sector length: what is said here holds for each from 1 on.
pub record Planned (n : ℕ) (E : Edition) (f : Format) (e : ℕ → Bool) (answer : Outcome) (sheets : List ℕ) : Type 0 where
  -- An array is sealed sector by sector exactly if it is sealed.
  pub sealed : (w : ℕ) (b : List ℕ) → Codeword (sectored n E.layout) (whole w) b ↔ Codeword E.layout (whole (n * w)) b
  -- It calls the loss fatal, by 6, exactly if two different sealed arrays of that size and sector length agree on every survivor.
  pub fatal : (w : ℕ) → 0 < w → (outcome_status answer ≡ 6) ↔ Ambiguous (sectored n E.layout) (whole w) e
  -- That is so exactly if plan's order leaves a sector erased.
  pub left : (outcome_status answer ≡ 6) ↔ (Repair·fatal (sectored n E.layout) e ≡ true)
  -- Then it names the lowest position at which a sector is lost, and counts the lost sectors there. The sheet of that position shows the smallest
  -- loop of erased disks.
  pub lost : outcome_status answer ≡ 6
      → (number : ℕ) × (p : ℕ) × (answer ≡ Fatal number p) × (p < n) × (0 < number)
      × ((w : ℕ) → 0 < w → LostAt n E.layout w e p number)
      × ((w : ℕ) → 0 < w → (q : ℕ) → q < p → LostAt n E.layout w e q 0)
      × LoopSheets n E f e p sheets
  -- Otherwise it counts the erased sectors, no more than a loss can have then, and its sheets list their repairs.
  pub repairs : (outcome_status answer ≡ 6 → ⊥)
      → (answer ≡ Repairs (count (sectored n E.layout).disks e))
      × ((p : ℕ) → p < n → count E.layout.disks (at_position n p e) ≤ E.most_repairs)
      × ((v : List Entry) × Lists n E.layout f e v sheets)
  -- A loss of few disks at each position is not fatal.
  pub few : ((p : ℕ) → p < n → count E.layout.disks (at_position n p e) ≤ E.always) → outcome_status answer ≡ 6 → ⊥

-- Sheets that list v in turns of k, read one after another, those of a turn in rising order of position: each turn lists the next k repairs,
-- and the sheets of the last are what `ending` makes of those that are left.
abbrev pub InTurns : (n : ℕ) → Format → (k : ℕ) → (ending : List Entry → List ℕ) → List Entry → List (List ℕ) → Type 0
InTurns n f k ending v [] = ⊥
InTurns n f k ending v (s ∷ []) = (s ≡ ending v) × (length v ≤ k)
InTurns n f k ending v (s ∷ (t ∷ ss)) =
    (s ≡ repair_sheets f n (take k v)) × (k < length v) × InTurns n f k ending (drop k v) (t ∷ ss)

-- The turns of k that so many repairs take: their number / k, rounded up, and one where there is none.
unfoldable pub turns_for : (number k : ℕ) → ℕ
turns_for number k = cond (eqb number 0) 1 ((number + (k - 1)) / k)

-- What plan answers and leaves in its sheets; and, of rebuild's turns until the map is clear or one is refused, what the last one
-- answers, how many repairs all of them made, the array and the map as the last one leaves them, and the sheets of each in order.
pub record Results : Type 0 where
  pub planned : Outcome
  pub plan_sheets : List ℕ
  pub last : Outcome
  pub made : ℕ
  pub array : List ℕ
  pub map : List ℕ
  pub sheets : List (List ℕ)

-- The turns have restored b, and v are plan's repairs: none was refused, the last one made what was left of the repairs, all of
-- them made as many as plan counts, the sheets, read one after another, list plan's repairs, the array is b byte for byte, and
-- all erased sectors are present in the map.
pub record Restored (n : ℕ) (E : Edition) (f : Format) (k : ℕ) (b m : List ℕ) (v : List Entry) (r : Results) : Type 0 where
  pub lists : Lists n E.layout f (erasures m) v r.plan_sheets
  pub sheets : InTurns n f k (repair_sheets f n) v r.sheets
  pub turns : length r.sheets ≡ turns_for (count (sectored n E.layout).disks (erasures m)) k
  pub last : r.last ≡ Repairs (length v - k * (length r.sheets - 1))
  pub made : r.planned ≡ Repairs r.made
  pub array : r.array ≡ b
  pub map : r.map ≡ map_after m v
  pub clear : count (sectored n E.layout).disks (erasures r.map) ≡ 0

-- The last turn has found a contradiction, and v are plan's repairs. The turns before it made k repairs each, and the sums that
-- they wrote stay; its own sectors stay erased, and they and all its sheets are zero.
pub record Undone (n : ℕ) (E : Edition) (f : Format) (w k : ℕ) (a m : List ℕ) (v : List Entry) (r : Results) : Type 0 where
  pub lists : Lists n E.layout f (erasures m) v r.plan_sheets
  pub sheets : InTurns n f k (λ u. blank_sheets f n) v r.sheets
  pub made : r.made ≡ k * (length r.sheets - 1)
  pub map : r.map ≡ map_after m (take r.made v)
  pub array : r.array ≡ zeroed (whole w) (rebuilt (sectored n E.layout) (whole w) a (take r.made v)) (erasures r.map)

-- For turns of k repairs.
pub record Demand3 (n : ℕ) (E : Edition) (f : Format) (w k : ℕ) (a m : List ℕ) (r : Results) : Type 0 where
  pub plan : Planned n E f (erasures m) r.planned r.plan_sheets
  -- Rebuild calls the loss fatal, by 6, exactly if plan does: whatever the survivors hold, exactly if two different sealed arrays
  -- agree on every survivor. It does so in the first turn. No byte of the array or of the map changes, and count, position and sheets are
  -- plan's.
  pub rebuild_fatal : (outcome_status r.last ≡ 6) ↔ Ambiguous (sectored n E.layout) (whole w) (erasures m)
  pub kept : outcome_status r.last ≡ 6 → (r.array ≡ a) × (r.map ≡ m) × (r.last ≡ r.planned) × (r.sheets ≡ r.plan_sheets ∷ [])
  -- Otherwise, if the survivors belong to a sealed array, it is restored.
  pub restored : (Ambiguous (sectored n E.layout) (whole w) (erasures m) → ⊥) → (b : List ℕ) → Codeword (sectored n E.layout) (whole w) b
      → Agree (sectored n E.layout) (whole w) (erasures m) a b → (v : List Entry) × Restored n E f k b m v r
  -- No turn is refused exactly then.
  pub accepted : (outcome_status r.last ≡ 0)
      ↔ ((Ambiguous (sectored n E.layout) (whole w) (erasures m) → ⊥) × Belongs (sectored n E.layout) (whole w) (erasures m) a)
  -- If they belong to none, and just then, the last turn is refused by 7.
  pub contradicted : (outcome_status r.last ≡ 7)
      ↔ ((Ambiguous (sectored n E.layout) (whole w) (erasures m) → ⊥)
      × (Belongs (sectored n E.layout) (whole w) (erasures m) a → ⊥))
  pub undone : outcome_status r.last ≡ 7 → (v : List Entry) × Undone n E f w k a m v r
  -- Few disks at each position always come back: with survivors of a sealed array their loss is restored.
  pub few : ((p : ℕ) → p < n → count E.layout.disks (at_position n p (erasures m)) ≤ E.always)
      → (b : List ℕ) → Codeword (sectored n E.layout) (whole w) b → Agree (sectored n E.layout) (whole w) (erasures m) a b
      → (outcome_status r.last ≡ 0) × (r.made ≡ count (sectored n E.layout).disks (erasures m)) × (r.array ≡ b)

-- ---- Each turn by itself, whatever the limits of the others are

-- The survivors of an array a and a map m are those of the sealed array b, and the loss is not fatal. Nothing is said of the erased
-- sectors. L is the stripe system of the sectors.
pub record Restorable (L : Layout) (w : ℕ) (b a m : List ℕ) : Type 0 where
  pub word : Codeword L (whole w) b
  pub sized : length a ≡ length b
  pub survivors : Agree L (whole w) (erasures m) a b
  pub fine : Repair·fatal L (erasures m) ≡ false

-- Then a turn of at most k repairs makes the first repairs of plan's order, as many as k and the erased sectors allow, and plan's order
-- goes on with the others. What it leaves is restorable again, to b: so turns of any limits, with any changes of erased sectors
-- between them, go on to restore b. Where k is no less than the number of erased sectors, the array is b.
pub record TurnKeeps (n : ℕ) (L : Layout) (f : Format) (w k : ℕ) (b m : List ℕ) (t : Turn) : Type 0 where
  pub answer : t.answer ≡ Repairs (min k (count (sectored n L).disks (erasures m)))
  pub map : t.map ≡ map_after m (take k (sector_repairs n L (erasures m)))
  pub sheets : t.sheets ≡ repair_sheets f n (take k (sector_repairs n L (erasures m)))
  pub others : sector_repairs n L (erasures t.map) ≡ drop k (sector_repairs n L (erasures m))
  pub again : Restorable (sectored n L) w b t.array t.map
  pub restored : count (sectored n L).disks (erasures m) ≤ k → t.array ≡ b
