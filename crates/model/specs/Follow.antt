-- Follow: what it answers and what the array holds afterwards, for every input. The map and the sheets are only read.
-- Assumes nothing.
use Rattle.std.specs.Prelude.{◌≡◌, true, cond, ◌&&◌, List, [], ◌∷◌, ◌++◌, ℕ, ◌/◌, ◌<◌, eqb, length}
use Rattle.stripes.specs.Fold.{every}
use Rattle.stripes.specs.System.{Layout, whole, consistent}
use Rattle.stripes.specs.Erased.{erasures}
use Rattle.stripes.specs.Repair.{Entry, rebuilt, zeroed, clears}
use Rattle.stripes.specs.Sectors.{sectored, rising}
use Rattle.model.specs.Refusal.{Test, ◌unless◌, refusal}
use Rattle.model.specs.Sheet.{Format, narrow, sheet_at}
use Rattle.model.specs.Chain.{kind_of, within, different, chain_numbers, no_leftovers, clean_refusal, chain_entries}
use Rattle.model.specs.Tidy.{Tidy}
use Rattle.model.specs.Plan.{sheet_layout}
use Rattle.model.specs.Rebuild.{buffer_tests}
use Rattle.stripes.specs.declared.Stretch.{Stretch}
use Rattle.model.specs.declared.Size.{Size}
use Rattle.model.specs.Outcome.{Outcome}
use Rattle.model.specs.Outcome.{Repairs, Refused}

-- What n sheets list: the repairs of each, positions in rising order.
unfoldable pub sheets_entries : Format → (n : ℕ) → List ℕ → List Entry
sheets_entries f n s = rising n (λ p. chain_entries f (sheet_at f p s)) n

-- Usable sheets: 10, 13 and 14 let each through, and they list allowed repairs that leave no sector erased.
abbrev pub Usable : Size → (n : ℕ) → (m sheets : List ℕ) → Type 0
Usable z n m sheets =
    ((p : ℕ) → p < n → clean_refusal narrow (sheet_at narrow p sheets) ≡ 0)
    × (clears (sectored n (sheet_layout z)) (erasures m) (sheets_entries narrow n sheets) ≡ true)

-- Sheets as the library writes them for the repairs v of sectors: read in rising order of position they list v, each is tidy, and 10, 13 and
-- 14 let it through.
pub record Reads (f : Format) (n : ℕ) (sheets : List ℕ) (v : List Entry) : Type 0 where
  pub lists : sheets_entries f n sheets ≡ v
  pub tidy : (p : ℕ) → p < n → Tidy f (sheet_at f p sheets)
  pub clean : (p : ℕ) → p < n → clean_refusal f (sheet_at f p sheets) ≡ 0

-- The tests of the chains of n sheets, and of what stands off them: each number on all sheets before the next.
unfoldable pub chains_tests : Format → (n : ℕ) → List ℕ → List Test
chains_tests f n s =
    10 unless every n (λ p. eqb (kind_of (sheet_at f p s)) f.repair_kind && within f.records (chain_numbers f (sheet_at f p s)))
    ∷ 13 unless every n (λ p. different (chain_numbers f (sheet_at f p s)))
    ∷ []

unfoldable pub sheets_tests : Format → (n : ℕ) → List ℕ → List Test
sheets_tests f n s = chains_tests f n s ++ (14 unless every n (λ p. no_leftovers f (sheet_at f p s)) ∷ [])

-- The tests of a list of repairs: the last is of the array after them.
unfoldable pub list_tests : Layout → Stretch → (a m : List ℕ) → List Entry → List Test
list_tests L x a m w = 11 unless clears L (erasures m) w ∷ 7 unless consistent L x (rebuilt L x a w) ∷ []

-- What comes of a list of repairs by the number of the first test that fails, or 0: the answer, and the array, repaired, for 7 with
-- zeros where it is erased, else as it was.
abbrev pub list_outcome : ℕ → List Entry → Outcome
list_outcome k w = cond (eqb k 0) (Repairs (length w)) (Refused k)

abbrev pub list_array : Layout → Stretch → (a m : List ℕ) → ℕ → List Entry → List ℕ
list_array L x a m k w = cond (eqb k 0) (rebuilt L x a w) (cond (eqb k 7) (zeroed x a (erasures m)) a)

-- The tests of follow, with those of the sheets. All but 7 come before any block is changed.
unfoldable pub follow_tests : (ofSheets : List Test) → Size → (B w : ℕ) → (a m sheets : List ℕ) → List Test
follow_tests ofSheets z B w a m sheets =
    buffer_tests z B w (length a) m (length sheets)
    ++ (ofSheets ++ list_tests (sectored (B / w) (sheet_layout z)) (whole w) a m (sheets_entries narrow (B / w) sheets))

unfoldable pub follow_status : Size → (B w : ℕ) → (a m sheets : List ℕ) → ℕ
follow_status z B w a m sheets = refusal (follow_tests (sheets_tests narrow (B / w) sheets) z B w a m sheets)

-- What follow answers, and the array after it.
unfoldable pub follow_outcome : Size → (B w : ℕ) → (a m sheets : List ℕ) → Outcome
follow_outcome z B w a m sheets = list_outcome (follow_status z B w a m sheets) (sheets_entries narrow (B / w) sheets)

unfoldable pub follow_array : Size → (B w : ℕ) → (a m sheets : List ℕ) → List ℕ
follow_array z B w a m sheets =
    list_array (sectored (B / w) (sheet_layout z)) (whole w) a m (follow_status z B w a m sheets) (sheets_entries narrow (B / w) sheets)

-- The number that follow gives where leftovers are ignored: 14 is not among its tests.
unfoldable pub loose_status : Size → (B w : ℕ) → (a m sheets : List ℕ) → ℕ
loose_status z B w a m sheets = refusal (follow_tests (chains_tests narrow (B / w) sheets) z B w a m sheets)
