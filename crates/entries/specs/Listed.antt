-- A list of entries in words.
-- Assumes nothing.
use Rattle.std.specs.Prelude.{List, [], ◌∷◌, ◌++◌, ℕ, zero, suc, ◌+◌, ◌*◌, ◌/◌, ◌%◌, get_or}
use Rattle.stripes.specs.Repair.{Entry}

-- The words that a list has room for. No loss takes more repairs, and no loop has more disks.
abbrev pub capacity : ℕ
capacity = 32

-- A disk and a stripe in one word, each in half of it.
abbrev pub word_of : (disk stripe : ℕ) → ℕ
word_of disk stripe = disk + 65536 * stripe

-- The disk and the stripe of entry number k. Entries are counted from 0.
abbrev pub entry_disk : List ℕ → ℕ → ℕ
entry_disk l k = get_or l k 0 % 65536

abbrev pub entry_stripe : List ℕ → ℕ → ℕ
entry_stripe l k = get_or l k 0 / 65536 % 65536

-- The first k entries.
unfoldable pub listed : List ℕ → ℕ → List Entry
listed l zero = []
listed l (suc k) = listed l k ++ (record { disk = entry_disk l k; stripe = entry_stripe l k } ∷ [])
