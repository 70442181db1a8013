-- What a sheet holds, record by record, and its chain, from elsewhere too: which records it visits, in which order, what they list,
-- and what stands off it.
-- Assumes nothing.
use Rattle.std.specs.Prelude.{◌≡◌, Bool, true, cond, not, ◌&&◌, ◌||◌, List, [], ◌∷◌, ◌++◌, ℕ, zero, suc, ◌+◌, ◌-◌, ◌/◌, ◌≤◌, ◌<◌, eqb, leb, ltb, get_or}
use Rattle.stripes.specs.Fold.{every}
use Rattle.stripes.specs.System.{among}
use Rattle.stripes.specs.Repair.{Entry}
use Rattle.model.specs.Refusal.{Test, ◌unless◌, refusal}
use Rattle.model.specs.Sheet.{Format, record_bytes, record_at, sheet_bytes, number_at}

-- The kind of a sheet and the number of its first record.
abbrev pub kind_of : List ℕ → ℕ
kind_of s = get_or s 0 0

abbrev pub first_number : List ℕ → ℕ
first_number s = get_or s 1 0

-- Record k, from 1 on: its disk and its stripe, and the number of the next record.
unfoldable pub entry_at : Format → List ℕ → ℕ → Entry
entry_at f s k = record { disk = number_at f.disk_bytes s (record_at f k); stripe = get_or s (record_at f k + f.disk_bytes) 0 }

unfoldable pub next_number : Format → List ℕ → ℕ → ℕ
next_number f s k = get_or s (record_at f k + f.disk_bytes + 1) 0

-- The value, if there is a record k, else 0. A field of a record can be 0 too.
unfoldable pub if_record : Format → (k value : ℕ) → ℕ
if_record f k value = cond (leb 1 k && leb k f.records) value 0

-- The numbers of the records that a chain visits from number k on, at most `steps` of them; 0 ends the chain.
unfoldable pub visited : Format → List ℕ → (steps k : ℕ) → List ℕ
visited f s zero k = []
visited f s (suc steps) k = cond (eqb k 0) [] (k ∷ visited f s steps (next_number f s k))

-- The chain of a sheet, from its first number on. A number that no record has leads nowhere: behind the sheet all bytes count as
-- 0, so that the chain ends there. A chain of one number more than there are records visits some record twice, so more steps
-- would show nothing new.
unfoldable pub chain_numbers : Format → List ℕ → List ℕ
chain_numbers f s = visited f s (suc f.records) (first_number s)

-- No number of a list exceeds k, and none stands in it twice.
unfoldable pub within : ℕ → List ℕ → Bool
within k [] = true
within k (j ∷ js) = leb j k && within k js

unfoldable pub different : List ℕ → Bool
different [] = true
different (j ∷ js) = not (among j js) && different js

-- The tests of a chain that is to list repairs: the kind is that of repairs, no number exceeds that of the last record, and no record
-- is reached twice.
unfoldable pub chain_tests : Format → List ℕ → List Test
chain_tests f s =
    10 unless eqb (kind_of s) f.repair_kind
    ∷ 10 unless within f.records (chain_numbers f s)
    ∷ 13 unless different (chain_numbers f s)
    ∷ []

unfoldable pub chain_refusal : Format → List ℕ → ℕ
chain_refusal f s = refusal (chain_tests f s)

-- The number of the record that byte i belongs to, if it stands behind the kind and the number of the first record, which belong to
-- none.
abbrev pub record_number : Format → ℕ → ℕ
record_number f i = suc ((i - 2) / record_bytes f)

-- Byte i is on the chain: it is one of the first two, or one of a record that the chain visits.
unfoldable pub on_chain : Format → List ℕ → ℕ → Bool
on_chain f s i = ltb i 2 || among (record_number f i) (chain_numbers f s)

-- What refusal 14 tests: bytes off the chain are zero, none is left over (paper 02: leftovers).
unfoldable pub no_leftovers : Format → List ℕ → Bool
no_leftovers f s = every (sheet_bytes f) (λ i. on_chain f s i || eqb (get_or s i 0) 0)

-- The same in words: byte i is left over if it lies behind the first two, in no record that the chain visits, and is not zero.
pub record Leftover (f : Format) (s : List ℕ) (i : ℕ) : Type 0 where
  pub behind : 2 ≤ i
  pub inside : i < sheet_bytes f
  pub off : (k : ℕ) → among k (chain_numbers f s) ≡ true → record_at f k ≤ i → i < record_at f k + record_bytes f → ⊥
  pub some : get_or s i 0 ≡ 0 → ⊥

-- The tests of a sheet that follow is to take: those of its chain, and 14.
unfoldable pub clean_tests : Format → List ℕ → List Test
clean_tests f s = chain_tests f s ++ (14 unless no_leftovers f s ∷ [])

unfoldable pub clean_refusal : Format → List ℕ → ℕ
clean_refusal f s = refusal (clean_tests f s)

-- What the records of a list of numbers say, and what those of the chain say.
unfoldable pub entries_at : Format → List ℕ → List ℕ → List Entry
entries_at f s [] = []
entries_at f s (k ∷ ks) = entry_at f s k ∷ entries_at f s ks

unfoldable pub chain_entries : Format → List ℕ → List Entry
chain_entries f s = entries_at f s (chain_numbers f s)
