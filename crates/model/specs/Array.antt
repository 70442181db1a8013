-- Seal, check, write and look: what each answers and what the array holds afterwards, for every input.
-- Assumes nothing.
use Rattle.std.specs.Prelude.{Bool, cond, not, ◌&&◌, ◌||◌, List, [], ◌∷◌, ◌++◌, ℕ, ◌*◌, ◌/◌, ◌%◌, eqb, ltb, length, get_or}
use Rattle.stripes.specs.Fold.{◌⊕◌, xsum, every, lowest}
use Rattle.stripes.specs.System.{whole, byte, sums_to_zero}
use Rattle.stripes.specs.Sectors.{sector_at}
use Rattle.model.specs.Grid.{rows, columns, across, layout_of, column_base, disks, disk_at, is_data, array_of, map_bytes, map_fits}
use Rattle.model.specs.Equations.{row_data, column_data}
use Rattle.model.specs.Refusal.{Test, ◌unless◌, refusal, array_tests, sector_tests}
use Rattle.model.specs.declared.Size.{Size}
use Rattle.model.specs.Checked.{Checked}
use Rattle.model.specs.Checked.{Sealed, Unsealed, Refused}

-- ---- Seal

-- The byte that sealing gives the disk in row r and column c: data keeps its byte, P, Q and S are filled.
unfoldable pub encoded_byte : Size → ℕ → List ℕ → (r c p : ℕ) → ℕ
encoded_byte z B a r c p =
    cond (ltb c (columns z))
    (cond (ltb r (rows z)) (byte (whole B) a (disk_at z r c) p) (column_data z (whole B) a p c))
    (cond (ltb r (rows z)) (row_data z (whole B) a p r) (xsum (rows z) (row_data z (whole B) a p)))

-- The array that sealing makes: the data with its parities.
unfoldable pub encoded : Size → ℕ → List ℕ → List ℕ
encoded z B a = array_of z B (λ d p. encoded_byte z B a (d / across z) (d % across z) p)

-- What seal answers, and the array after it.
unfoldable pub seal_status : Size → ℕ → List ℕ → ℕ
seal_status z B a = refusal (array_tests z B (length a))

unfoldable pub seal_array : Size → ℕ → List ℕ → List ℕ
seal_array z B a = cond (eqb (seal_status z B a) 0) (encoded z B a) a

-- ---- Check

-- The lowest stripe whose sum is not zero at some place, or the bound on stripe numbers where there is none.
unfoldable pub lowest_unsealed : Size → ℕ → List ℕ → ℕ
lowest_unsealed z B a = lowest (layout_of z (column_base z)).stripe_bound (λ s. not (sums_to_zero (layout_of z (column_base z)) (whole B) a s))

-- What check answers.
unfoldable pub checked : Size → ℕ → List ℕ → Checked
checked z B a =
    cond (eqb (refusal (array_tests z B (length a))) 0)
    (cond (ltb (lowest_unsealed z B a) (layout_of z (column_base z)).stripe_bound) (Unsealed (lowest_unsealed z B a)) Sealed)
    (Refused (refusal (array_tests z B (length a))))

-- The number of an answer: 0 sealed, a refusal's own, and 64 for a stripe whose sum is not zero. Paper 01 gives that answer
-- no number; 64 is the C interface's, above every refusal number.
unfoldable pub check_status : Checked → ℕ
check_status Sealed = 0
check_status (Unsealed s) = 64
check_status (Refused k) = k

-- The stripe that an answer names, else what stood there before.
unfoldable pub check_stripe : Checked → ℕ → ℕ
check_stripe Sealed before = before
check_stripe (Unsealed s) before = s
check_stripe (Refused k) before = before

-- ---- Write

-- Write tests, besides, that the disk holds data and that the new block has the length of a block.
unfoldable pub write_tests : Size → (B len d dataLen : ℕ) → List Test
write_tests z B len d dataLen = array_tests z B len ++ (8 unless is_data z d ∷ 9 unless eqb dataLen B ∷ [])

-- Disk e is P, Q or S of data disk d.
unfoldable pub is_parity_of : Size → (d e : ℕ) → Bool
is_parity_of z d e =
    eqb e (disk_at z (d / across z) (columns z)) || (eqb e (disk_at z (rows z) (d % across z)) || eqb e (disk_at z (rows z) (columns z)))

-- The byte of disk e after a write to disk d: the new block is stored, and P, Q and S change by the difference.
unfoldable pub written_byte : Size → ℕ → List ℕ → ℕ → List ℕ → (e p : ℕ) → ℕ
written_byte z B a d new e p =
    cond (eqb e d) (get_or new p 0)
    (cond (is_parity_of z d e) (byte (whole B) a e p ⊕ (byte (whole B) a d p ⊕ get_or new p 0)) (byte (whole B) a e p))

-- The array that a write makes.
unfoldable pub written : Size → ℕ → List ℕ → ℕ → List ℕ → List ℕ
written z B a d new = array_of z B (written_byte z B a d new)

-- The array with the block of disk d replaced and nothing else changed.
unfoldable pub replaced : Size → ℕ → List ℕ → ℕ → List ℕ → List ℕ
replaced z B a d new = array_of z B (λ e p. cond (eqb e d) (get_or new p 0) (byte (whole B) a e p))

-- What write answers, and the array after it.
unfoldable pub write_status : Size → ℕ → List ℕ → ℕ → List ℕ → ℕ
write_status z B a d new = refusal (write_tests z B (length a) d (length new))

unfoldable pub write_array : Size → ℕ → List ℕ → ℕ → List ℕ → List ℕ
write_array z B a d new = cond (eqb (write_status z B a d new) 0) (written z B a d new) a

-- ---- Look

-- All n sectors of disk d are present.
unfoldable pub all_present : (n : ℕ) → List ℕ → ℕ → Bool
all_present n m d = every n (λ p. eqb (get_or m (sector_at n p d) 0) 0)

-- Nothing is wrong with the arguments, and the disk is present, with all its sectors of w bytes.
unfoldable pub can_look : Size → (B w : ℕ) → (a m : List ℕ) → ℕ → Bool
can_look z B w a m d =
    eqb (refusal (sector_tests z B (length a) w)) 0
    && (map_fits (map_bytes z (B / w)) m && (ltb d (disks z) && all_present (B / w) m d))

-- Where the part that look hands back begins in the array, and its length: the block, or an empty part. For an empty part the
-- place is what the caller gives as `before`: 0, the array's start, or what stood in the place for a number.
unfoldable pub look_offset : Size → (B w : ℕ) → (a m : List ℕ) → (d before : ℕ) → ℕ
look_offset z B w a m d before = cond (can_look z B w a m d) (d * B) before

unfoldable pub look_length : Size → (B w : ℕ) → (a m : List ℕ) → ℕ → ℕ
look_length z B w a m d = cond (can_look z B w a m d) B 0
