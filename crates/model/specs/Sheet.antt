-- Sheets (paper 01): bytes that list repairs, or a cycle, in records.
-- Assumes nothing.
use Rattle.std.specs.Prelude.{◌≡◌, List, [], ◌∷◌, ◌++◌, ℕ, zero, suc, ◌+◌, ◌*◌, ◌-◌, ◌/◌, ◌%◌, ◌≤◌, ◌<◌, length, get_or, take, drop}
use Rattle.stripes.specs.Fold.{tabulate}
use Rattle.stripes.specs.System.{Bytes}
use Rattle.stripes.specs.Repair.{Entry, disk_of, stripe_of}
use Rattle.stripes.specs.Sectors.{of_position}

-- What sheets differ in: how many records they have, in how many bytes a record has its disk, the numbers of the two kinds,
-- repairs and loop, and the stripe that column 0 is.
pub record Format : Type 0 where
  pub records : ℕ
  pub disk_bytes : ℕ
  pub repair_kind : ℕ
  pub loop_kind : ℕ
  pub base : ℕ

-- The sheets of paper 01.
abbrev pub narrow : Format
narrow = record { records = 32; disk_bytes = 1; repair_kind = 1; loop_kind = 2; base = 16 }

-- A record is its disk, its stripe in one byte and the number of the next record in another.
abbrev pub record_bytes : Format → ℕ
record_bytes f = f.disk_bytes + 2

-- Two bytes come before the records: the kind, and the number of the first record. Records are numbered from 1.
abbrev pub record_at : Format → ℕ → ℕ
record_at f k = 2 + record_bytes f * (k - 1)

abbrev pub sheet_bytes : Format → ℕ
sheet_bytes f = 2 + record_bytes f * f.records

-- A number in n bytes, the low byte first, and the number that n bytes from place i on hold.
unfoldable pub number_bytes : (n v : ℕ) → List ℕ
number_bytes zero v = []
number_bytes (suc n) v = v % 256 ∷ number_bytes n (v / 256)

unfoldable pub number_at : (n : ℕ) → List ℕ → ℕ → ℕ
number_at zero s i = 0
number_at (suc n) s i = get_or s i 0 + 256 * number_at n s (suc i)

-- The number of record k, which stands before it, its disk and its stripe, and so on: a record ends with the number of the next, and
-- 0 ends the chain.
unfoldable pub chain_bytes : Format → ℕ → List Entry → List ℕ
chain_bytes f k [] = 0 ∷ []
chain_bytes f k (r ∷ rs) = k ∷ (number_bytes f.disk_bytes r.disk ++ (r.stripe ∷ chain_bytes f (suc k) rs))

-- The kind, then the chain from record 1 on, then zeros.
unfoldable pub sheet_of : Format → ℕ → List Entry → List ℕ
sheet_of f kind rs = tabulate (sheet_bytes f) (λ i. get_or (kind ∷ chain_bytes f 1 rs) i 0)

-- A sheet of zeros.
unfoldable pub blank_sheet : Format → List ℕ
blank_sheet f = tabulate (sheet_bytes f) (λ i. 0)

-- ---- A sheet for each position (paper 02, P6)

-- n sheets, one after another.
unfoldable pub sheets_of : (n : ℕ) → (sheet : ℕ → List ℕ) → List ℕ
sheets_of zero sheet = []
sheets_of (suc n) sheet = sheets_of n sheet ++ sheet n

abbrev pub sheets_bytes : Format → (n : ℕ) → ℕ
sheets_bytes f n = sheet_bytes f * n

-- The sheet of position p, where sheets stand one after another.
unfoldable pub sheet_at : Format → (p : ℕ) → List ℕ → List ℕ
sheet_at f p s = take (sheet_bytes f) (drop (sheet_bytes f * p) s)

-- The sheets of a list of repairs of sectors: each lists those at its position.
unfoldable pub repair_sheets : Format → (n : ℕ) → List Entry → List ℕ
repair_sheets f n w = sheets_of n (λ p. sheet_of f f.repair_kind (of_position n p w))

-- Sheets of zeros.
unfoldable pub blank_sheets : Format → (n : ℕ) → List ℕ
blank_sheets f n = sheets_of n (λ p. blank_sheet f)

-- The first k parts of a buffer, each of so many bytes, one after another: the sheets of k turns.
unfoldable pub parts_in : (bytes k : ℕ) → List ℕ → List (List ℕ)
parts_in bytes zero s = []
parts_in bytes (suc k) s = take bytes s ∷ parts_in bytes k (drop bytes s)

-- ---- A sheet in words

-- In paper 01's words. A list fits if it has at most as many entries as the format has records, and its numbers and the
-- kind fit their bytes; then bytes are its sheet exactly if this holds of them.
pub record SheetBytes (f : Format) (kind : ℕ) (w : List Entry) (s : List ℕ) : Type 0 where
  -- Byte 0 is the kind, byte 1 the number of the first record, 0 for none.
  pub long : length s ≡ sheet_bytes f
  pub bytes : Bytes s
  pub kind_first : get_or s 0 0 ≡ kind
  pub first_record : 1 ≤ length w → get_or s 1 0 ≡ 1
  pub no_record : length w ≡ 0 → get_or s 1 0 ≡ 0
  -- Record k: its disk, its stripe, the number of the next record; 0 ends the chain. In a list the numbers begin with 0.
  pub disk : (k : ℕ) → 1 ≤ k → k ≤ length w → number_at f.disk_bytes s (record_at f k) ≡ disk_of w (k - 1)
  pub stripe : (k : ℕ) → 1 ≤ k → k ≤ length w → get_or s (record_at f k + f.disk_bytes) 0 ≡ stripe_of w (k - 1)
  pub next : (k : ℕ) → 1 ≤ k → k < length w → get_or s (record_at f k + f.disk_bytes + 1) 0 ≡ k + 1
  pub last : (k : ℕ) → 1 ≤ k → k ≡ length w → get_or s (record_at f k + f.disk_bytes + 1) 0 ≡ 0
  -- Behind the records stand zeros.
  pub zeros : (i : ℕ) → record_at f (length w + 1) ≤ i → i < sheet_bytes f → get_or s i 0 ≡ 0
