-- Save (paper 02, P3): what it answers and what the array holds afterwards, for every input, and what it promises in the paper's words.
-- The map is only read.
-- Assumes nothing.
use Rattle.std.specs.Prelude.{◌≡◌, cond, ◌↔◌, List, [], ◌∷◌, ◌++◌, ℕ, ◌+◌, ◌*◌, ◌/◌, ◌≤◌, ◌<◌, eqb, length}
use Rattle.stripes.specs.Fold.{count}
use Rattle.stripes.specs.System.{Layout, whole, byte, Codeword}
use Rattle.stripes.specs.Erased.{erasures, Agree, Belongs, Ambiguous, AmbiguousIn, LostCount}
use Rattle.stripes.specs.Repair.{zeroed}
use Rattle.stripes.specs.Undetermined.{determined, parts_cancel, saved}
use Rattle.stripes.specs.Sectors.{sectored, at_position}
use Rattle.model.specs.Grid.{layout_of, column_base, map_bytes, map_fits}
use Rattle.model.specs.Refusal.{Test, ◌unless◌, refusal, sector_tests}
use Rattle.model.specs.Plan.{outcome_status, outcome_count}
use Rattle.model.specs.Turn.{Turn}
use Rattle.model.specs.Edition.{Edition}
use Rattle.model.specs.declared.Size.{Size}
use Rattle.model.specs.Saving.{Saving}
use Rattle.model.specs.Saving.{Saved, Refused}

-- Save takes no sheet: stripes are numbered as check numbers them. Every sector is saved or not by itself, so that only the stripe system of
-- the sectors is spoken of: n to a block.
abbrev pub save_layout : Size → (n : ℕ) → Layout
save_layout z n = sectored n (layout_of z (column_base z))

-- The tests of the size, the block, the array, the sectors and the map.
unfoldable pub map_tests : Size → (B w arrayLen : ℕ) → List ℕ → List Test
map_tests z B w arrayLen m = sector_tests z B arrayLen w ++ (4 unless map_fits (map_bytes z (B / w)) m ∷ [])

-- Save tests the survivors, besides, at all positions. That too comes before any block is changed.
unfoldable pub save_tests : Size → (B w : ℕ) → (a m : List ℕ) → List Test
save_tests z B w a m =
    map_tests z B w (length a) m ++ (7 unless parts_cancel (save_layout z (B / w)) (whole w) (erasures m) a ∷ [])

unfoldable pub save_status : Size → (B w : ℕ) → (a m : List ℕ) → ℕ
save_status z B w a m = refusal (save_tests z B w a m)

-- What save answers, and the array after it: determined sectors saved, for 7 with zeros in all erased sectors, else as it was.
unfoldable pub save_answer : Size → (B w : ℕ) → (a m : List ℕ) → Saving
save_answer z B w a m =
    cond (eqb (save_status z B w a m) 0)
    (Saved (count (save_layout z (B / w)).disks (determined (save_layout z (B / w)) (erasures m))))
    (Refused (save_status z B w a m))

unfoldable pub save_array : Size → (B w : ℕ) → (a m : List ℕ) → List ℕ
save_array z B w a m =
    cond (eqb (save_status z B w a m) 0) (saved (save_layout z (B / w)) (whole w) a (erasures m))
    (cond (eqb (save_status z B w a m) 7) (zeroed (whole w) a (erasures m)) a)

-- The number of an answer, 0 where disks were saved, and the count that it carries, else what stood there before.
unfoldable pub saving_status : Saving → ℕ
saving_status (Saved c) = 0
saving_status (Refused k) = k

unfoldable pub saving_count : Saving → ℕ → ℕ
saving_count (Saved c) before = c
saving_count (Refused k) before = before

-- An answer of save and the array after it are those of a turn of rebuild: the same number, the same count, the same array.
abbrev pub AsTurn : Saving → (array : List ℕ) → Turn → Type 0
AsTurn answer array t =
    (saving_status answer ≡ outcome_status t.answer) × ((before : ℕ) → saving_count answer before ≡ outcome_count t.answer before)
    × (array ≡ t.array)

-- ---- What it promises, over any edition of the array, where the refusals before 7 let the input through

-- Blocks have n sectors of w bytes. The edition is that of the array at each position.
pub record SaveDemand (E : Edition) (n w : ℕ) (a m : List ℕ) (answer : Saving) (array : List ℕ) : Type 0 where
  -- An array is sealed sector by sector exactly if it is sealed.
  pub sealed : (b : List ℕ) → Codeword (sectored n E.layout) (whole w) b ↔ Codeword E.layout (whole (n * w)) b
  -- Contradictory survivors get 7, and no others; then all erased sectors are zero.
  pub accepted : (saving_status answer ≡ 0) ↔ Belongs (sectored n E.layout) (whole w) (erasures m) a
  pub contradicted : (saving_status answer ≡ 7) ↔ (Belongs (sectored n E.layout) (whole w) (erasures m) a → ⊥)
  pub zeros : saving_status answer ≡ 7 → array ≡ zeroed (whole w) a (erasures m)
  -- Otherwise every sector that is not lost has the bytes of the sealed array that the survivors belong to, of each such array, and
  -- every lost sector has the bytes that it had.
  pub sized : length array ≡ length a
  pub saved_bytes : (b : List ℕ) → Codeword (sectored n E.layout) (whole w) b → Agree (sectored n E.layout) (whole w) (erasures m) a b
      → (i : ℕ) → i < (sectored n E.layout).disks → (AmbiguousIn (sectored n E.layout) (whole w) (erasures m) i → ⊥)
      → (q : ℕ) → q < w → byte (whole w) array i q ≡ byte (whole w) b i q
  pub kept_bytes : saving_status answer ≡ 0
      → (i : ℕ) → i < (sectored n E.layout).disks → AmbiguousIn (sectored n E.layout) (whole w) (erasures m) i
      → (q : ℕ) → q < w → byte (whole w) array i q ≡ byte (whole w) a i q
  -- The answer is how many erased sectors are not lost.
  pub number : saving_status answer ≡ 0
      → (c : ℕ) × (l : ℕ) × (answer ≡ Saved c) × LostCount (sectored n E.layout) (whole w) (erasures m) l
      × (c + l ≡ count (sectored n E.layout).disks (erasures m))
  -- Where no two different sealed arrays agree on the survivors, the whole array is restored, and so is a loss of few disks at each
  -- position.
  pub restored : (Ambiguous (sectored n E.layout) (whole w) (erasures m) → ⊥)
      → (b : List ℕ) → Codeword (sectored n E.layout) (whole w) b → Agree (sectored n E.layout) (whole w) (erasures m) a b
      → (answer ≡ Saved (count (sectored n E.layout).disks (erasures m))) × (array ≡ b)
  pub few : ((p : ℕ) → p < n → count E.layout.disks (at_position n p (erasures m)) ≤ E.always)
      → (b : List ℕ) → Codeword (sectored n E.layout) (whole w) b → Agree (sectored n E.layout) (whole w) (erasures m) a b
      → (answer ≡ Saved (count (sectored n E.layout).disks (erasures m))) × (array ≡ b)
