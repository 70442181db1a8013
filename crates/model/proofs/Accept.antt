-- Which arguments pass the tests: the tests of the definitions against the paper's numbers.
-- Assumes nothing.
use mathlib.Core.Path.{◌≡◌, refl, sym, ◌∙◌, ap}
use mathlib.Core.Bool.{Bool, true, false}
use native.Mathlib.Omega.{arith}
use mathlib.Core.Logic.{◌↔◌}
use mathlib.Core.List.{List, [], ◌∷◌, ◌++◌}
use Prim.Native.Nat.{ℕ, ◌+◌, ◌*◌, ◌/◌, ◌%◌, ◌≤◌, ◌<◌}
use borrow.Author.Tests.{le-leb, leb-true, lt-ltb, ltb-true, eq-eqb, eqb-true, eqb-false}
use lib.Dec.{leb, ltb, eqb}
use lib.ListN.{length, get_or}
use Rattle.stripes.specs.Fold.{every}
use Rattle.model.specs.Grid.{rectangle, rows, columns, across, disks, disk_at, is_data, array_bytes, side_fits, size_fits, block_fits, sector_fits, sectors_fit, map_bytes, map_fits, down}
use Rattle.model.specs.Refusal.{Test, ◌unless◌, refusal, array_tests, sector_tests}
use Rattle.model.specs.Array.{write_tests, write_status}
use Rattle.model.specs.Plan.{sheet_tests, plan_tests, one_tests}
use Rattle.model.specs.Rebuild.{buffer_tests, buffer_refusal, rebuild_tests, rebuild_refusal}
use Rattle.model.specs.Follow.{follow_tests, follow_status}
use Rattle.model.specs.declared.Size.{Size}
use Rattle.stripes.proofs.Fold.{by_cases, and_left, and_right, and_both, every_at, every_all}
use Rattle.model.proofs.Grid.{size_fits_lem, block_fits_lem, one_byte, disk_is, data_at, data_row, data_column}
use Rattle.model.proofs.Refusal.{no_tests, fails, passes, by_test, passed, refused_first, ArrayFits, array-fits, array-accepted, sector_tests_lem, sector_passed}
use Rattle.model.proofs.Write.{write_fits, status_none}

size_accepts : (a b : ℕ) → (size_fits (rectangle a b) ≡ true) ↔ ((2 ≤ a) × (a ≤ 15) × (2 ≤ b) × (b ≤ 15))
unfolding rectangle size_fits side_fits rows columns
size_accepts a b = (
  λ e. let fits = size_fits_lem (rectangle a b) e in (fits.rows_low, fits.rows_high, fits.columns_low, fits.columns_high),
  λ h. and_both (and_both (le-leb 2 a h.0) (le-leb a 15 h.1)) (and_both (le-leb 2 b h.2) (le-leb b 15 h.3)),
)

-- So either number out of range is refused by 1, whatever the tests are that follow.
outside_refused : (a b : ℕ) → ((2 ≤ a) × (a ≤ 15) × (2 ≤ b) × (b ≤ 15) → ⊥)
    → (ts : List Test) → refusal (1 unless size_fits (rectangle a b) ∷ ts) ≡ 1
outside_refused a b outside ts =
    by_cases (λ (t : Bool). refusal (1 unless t ∷ ts) ≡ 1) (size_fits (rectangle a b)) (λ e. absurd (outside ((size_accepts a b).0 e)))
    (λ e. fails 1 false ts refl)

-- A size with either number out of range is refused by 1, whatever else is wrong: by seal and check, write, plan, rebuild and follow.
pub size_refused : (a b : ℕ) → ((2 ≤ a) × (a ≤ 15) × (2 ≤ b) × (b ≤ 15) → ⊥)
    → ((B len : ℕ) → refusal (array_tests (rectangle a b) B len) ≡ 1)
    × ((B : ℕ) (array : List ℕ) (d : ℕ) (new : List ℕ) → write_status (rectangle a b) B array d new ≡ 1)
    × ((n : ℕ) (m : List ℕ) (len : ℕ) → refusal (plan_tests (rectangle a b) n m len) ≡ 1)
    × ((B w : ℕ) (array m sheets : List ℕ) (k : ℕ) → rebuild_refusal (rectangle a b) B w array m sheets k ≡ 1)
    × ((B w : ℕ) (array m sheets : List ℕ) → follow_status (rectangle a b) B w array m sheets ≡ 1)
unfolding array_tests sector_tests write_status write_tests plan_tests buffer_tests rebuild_refusal rebuild_tests follow_status follow_tests
size_refused a b outside =
    let one = outside_refused a b outside in
    (λ B len. one _, λ B array d new. one _, λ n m len. one _, λ B w array m sheets k. one _, λ B w array m sheets. one _)

pub array_accepts : (a b B len : ℕ) → (refusal (array_tests (rectangle a b) B len) ≡ 0)
    ↔ ((2 ≤ a) × (a ≤ 15) × (2 ≤ b) × (b ≤ 15) × (1 ≤ B) × (B ≤ 4096) × (len ≡ (a + 1) * (b + 1) * B))
unfolding rectangle block_fits array_bytes disks across down rows columns
array_accepts a b B len = (
  λ e.
      let fits = array-fits (rectangle a b) B len e in
      let size = (size_accepts a b).0 fits.size in
      let block = block_fits_lem B fits.block in
      (size.0, size.1, size.2, size.3, block.low, block.high, fits.long),
  λ h. array-accepted (rectangle a b) B len
      (record {
        size = (size_accepts a b).1 (h.0, h.1, h.2, h.3);
        block = and_both (le-leb 1 B h.4) (le-leb B 4096 h.5);
        long = h.6;
      }),
)

pub block_accepts : (a b B : ℕ) (array : List ℕ) (d : ℕ) (new : List ℕ) → (write_status (rectangle a b) B array d new ≡ 0)
    ↔ ((refusal (array_tests (rectangle a b) B (length array)) ≡ 0)
    × ((r : ℕ) × (c : ℕ) × (r < a) × (c < b) × (d ≡ r * (b + 1) + c)) × (length new ≡ B))
unfolding rectangle rows columns across disk_at
block_accepts a b B array d new =
    let z : Size = rectangle a b in (
      λ e.
          let fits = write_fits z B array d new e in (
            array-accepted z B (length array) fits.array,
            (d / across z, d % across z, data_row z d fits.disk, data_column z d fits.disk, disk_is z d),
            fits.long,
          ),
      λ h.
          let (r, c, row, column, at) = h.1 in
          status_none z B array d new (array-fits z B (length array) h.0) (ap (is_data z) at ∙ data_at z r c row column) h.2,
    )

-- The tests of the map and of the length of the sheets.
abbrev pub SheetFits : (a b n : ℕ) → List ℕ → ℕ → Type 0
SheetFits a b n m len = (length m ≡ (a + 1) * (b + 1) * n) × ((d : ℕ) → d < length m → get_or m d 0 ≤ 1) × (len ≡ 98 * n)

pub sheet_fits : (z : Size) (n : ℕ) (m : List ℕ) (len : ℕ) → refusal (sheet_tests z n m len) ≡ 0 → (map_fits (map_bytes z n) m ≡ true) × (len ≡ 98 * n)
unfolding sheet_tests
sheet_fits z n m len e =
    let (map, e₂) = passed 4 (map_fits (map_bytes z n) m) _ (omega arith) e in
    (map, eqb-true len (98 * n) (passed 5 (eqb len (98 * n)) _ (omega arith) e₂).0)

-- Where both are passed, those that follow decide, if there are any.
pub sheet_passed : (z : Size) (n : ℕ) (m : List ℕ) (len : ℕ) → map_fits (map_bytes z n) m ≡ true → len ≡ 98 * n
    → (ts : List Test) → refusal (sheet_tests z n m len ++ ts) ≡ refusal ts
unfolding sheet_tests
sheet_passed z n m len map long ts = passes 4 (map_fits (map_bytes z n) m) _ map ∙ passes 5 (eqb len (98 * n)) ts (eq-eqb len (98 * n) long)

pub sheet_passes : (z : Size) (n : ℕ) (m : List ℕ) (len : ℕ) → map_fits (map_bytes z n) m ≡ true → len ≡ 98 * n → refusal (sheet_tests z n m len) ≡ 0
unfolding sheet_tests
sheet_passes z n m len map long = sheet_passed z n m len map long [] ∙ no_tests

sheet_accepts : (a b n : ℕ) (m : List ℕ) (len : ℕ) → (refusal (sheet_tests (rectangle a b) n m len) ≡ 0) ↔ SheetFits a b n m len
unfolding sheet_tests map_fits map_bytes rectangle disks across down rows columns
sheet_accepts a b n m len =
    let most : ℕ = map_bytes (rectangle a b) n in (
      λ e.
          let (map, long) = sheet_fits (rectangle a b) n m len e in (
            eqb-true _ _ (and_left (eqb (length m) most) (every (length m) (λ d. leb (get_or m d 0) 1)) map),
            λ d l. leb-true _ _ (every_at (length m) _ (and_right (eqb (length m) most) (every (length m) (λ d. leb (get_or m d 0) 1)) map) d l),
            long,
          ),
      λ h.
          sheet_passes (rectangle a b) n m len (and_both (eq-eqb _ _ h.0) (every_all (length m) (λ d l. le-leb _ _ (h.1 d l)))) h.2,
    )

pub plan_accepts : (a b n : ℕ) (m : List ℕ) (len : ℕ) → (refusal (plan_tests (rectangle a b) n m len) ≡ 0)
    ↔ ((2 ≤ a) × (a ≤ 15) × (2 ≤ b) × (b ≤ 15) × (1 ≤ n) × (n ≤ 4096) × SheetFits a b n m len)
unfolding plan_tests sectors_fit
plan_accepts a b n m len = (
  λ e.
      let (fits, e₂) = passed 1 (size_fits (rectangle a b)) _ (omega arith) e in
      let (few, e₃) = passed 16 (sectors_fit n) _ (omega arith) e₂ in
      let size = (size_accepts a b).0 fits in
      (size.0, size.1, size.2, size.3, leb-true 1 n (and_left (leb 1 n) (leb n 4096) few), leb-true n 4096 (and_right (leb 1 n) (leb n 4096) few), (sheet_accepts a b n m len).0 e₃),
  λ h.
      passes 1 (size_fits (rectangle a b)) _ ((size_accepts a b).1 (h.0, h.1, h.2, h.3))
      ∙ passes 16 (sectors_fit n) _ (and_both (le-leb 1 n h.4) (le-leb n 4096 h.5)) ∙ (sheet_accepts a b n m len).1 h.6,
)

-- Where plan's tests are passed, and where those of one position are, which come before others.
pub plan-fits : (z : Size) (n : ℕ) (m : List ℕ) (len : ℕ) → refusal (plan_tests z n m len) ≡ 0
    → (size_fits z ≡ true) × (sectors_fit n ≡ true) × (map_fits (map_bytes z n) m ≡ true) × (len ≡ 98 * n)
unfolding plan_tests
plan-fits z n m len ok =
    let (size, rest) = passed 1 (size_fits z) _ (omega arith) ok in
    let (few, rest₂) = passed 16 (sectors_fit n) _ (omega arith) rest in
    let (map, long) = sheet_fits z n m len rest₂ in
    (size, few, map, long)

pub one-fits : (z : Size) (m : List ℕ) (len : ℕ) → refusal (one_tests z m len) ≡ 0 → (size_fits z ≡ true) × (map_fits (disks z) m ≡ true) × (len ≡ 98)
unfolding one_tests
one-fits z m len ok =
    let (size, rest) = passed 1 (size_fits z) _ (omega arith) ok in
    let (map, long) = sheet_fits z 1 m len rest in
    (size, ap (λ (k : ℕ). map_fits k m) (sym (one_byte z)) ∙ map, long)

pub one_passed : (z : Size) (m : List ℕ) (len : ℕ) → refusal (one_tests z m len) ≡ 0 → (ts : List Test) → refusal (one_tests z m len ++ ts) ≡ refusal ts
unfolding one_tests sheet_tests
one_passed z m len ok ts =
    let (size, map, long) = one-fits z m len ok in
    passes 1 (size_fits z) _ size ∙ sheet_passed z 1 m len (ap (λ (k : ℕ). map_fits k m) (one_byte z) ∙ map) long ts

-- ---- the tests of the buffers, and then the limit
module _ (z : Size) (B w : ℕ) (a m s : List ℕ) where
  -- Where they are passed, the array fits, and so do the sectors, the map and the sheets; the tests that follow decide.
  pub record BuffersFit : Type 0 where
    pub array : ArrayFits z B (length a)
    pub sector : sector_fits B w ≡ true
    pub map : map_fits (map_bytes z (B / w)) m ≡ true
    pub long : length s ≡ 98 * (B / w)

  pub buffers_fit : buffer_refusal z B w a m s ≡ 0 → BuffersFit
  unfolding buffer_refusal buffer_tests
  buffers_fit ok =
      let (array, sector, e) = sector_tests_lem z B (length a) w _ ok in
      let (map, long) = sheet_fits z (B / w) m (length s) e in
      record { array = array; sector = sector; map = map; long = long }

  pub fit_passed : BuffersFit → (ts : List Test) → refusal (buffer_tests z B w (length a) m (length s) ++ ts) ≡ refusal ts
  unfolding buffer_tests sector_tests array_tests sheet_tests
  fit_passed f ts =
      sector_passed z B (length a) w f.array f.sector _ ∙ sheet_passed z (B / w) m (length s) f.map f.long ts

  pub fit_accepted : BuffersFit → buffer_refusal z B w a m s ≡ 0
  unfolding buffer_refusal buffer_tests
  fit_accepted f =
      sector_passed z B (length a) w f.array f.sector _ ∙ sheet_passes z (B / w) m (length s) f.map f.long

  pub buffers_passed : buffer_refusal z B w a m s ≡ 0 → (ts : List Test) → refusal (buffer_tests z B w (length a) m (length s) ++ ts) ≡ refusal ts
  buffers_passed ok = fit_passed (buffers_fit ok)

  -- They refuse by 1 to 5 and by 16.
  pub first_tests : (P : ℕ → Type 0) → P 0 → P 1 → P 2 → P 3 → P 4 → P 5 → P 16 → P (buffer_refusal z B w a m s)
  unfolding buffer_refusal buffer_tests sector_tests array_tests sheet_tests
  first_tests P none one two three four five sixteen =
      by_test P 1 (size_fits z) _ one
      (by_test P 2 (block_fits B) _ two
      (by_test P 3 (eqb (length a) (array_bytes z B)) _ three
      (by_test P 16 (sector_fits B w) _ sixteen
      (by_test P 4 (map_fits (map_bytes z (B / w)) m) _ four
      (by_test P 5 (eqb (length s) (98 * (B / w))) _ five (rw no_tests none))))))

  -- A limit that is not 0 is no reason to refuse.
  pub limit_passed : (k : ℕ) → 0 < k → rebuild_refusal z B w a m s k ≡ buffer_refusal z B w a m s
  unfolding rebuild_refusal rebuild_tests buffer_refusal
  limit_passed k some =
      by_cases (λ (t : Bool). rebuild_refusal z B w a m s k ≡ buffer_refusal z B w a m s) (eqb (buffer_refusal z B w a m s) 0)
      (λ e. buffers_passed (eqb-true (buffer_refusal z B w a m s) 0 e) _ ∙ passes 12 (ltb 0 k) _ (lt-ltb 0 k some) ∙ no_tests ∙ sym (eqb-true (buffer_refusal z B w a m s) 0 e))
      (λ e. refused_first (buffer_tests z B w (length a) m (length s)) _ (eqb-false (buffer_refusal z B w a m s) 0 e))

  -- And where rebuild is not refused, the limit is not 0 either.
  pub rebuild_fits : (k : ℕ) → rebuild_refusal z B w a m s k ≡ 0 → (buffer_refusal z B w a m s ≡ 0) × (0 < k)
  unfolding rebuild_refusal rebuild_tests buffer_refusal
  rebuild_fits k ok =
      by_cases (λ (t : Bool). (buffer_refusal z B w a m s ≡ 0) × (0 < k)) (eqb (buffer_refusal z B w a m s) 0)
      (λ e.
      let fit = eqb-true (buffer_refusal z B w a m s) 0 e in
      (fit, ltb-true 0 k (passed 12 (ltb 0 k) _ (omega arith) (sym (buffers_passed fit _) ∙ ok)).0))
      (λ e.
      absurd (eqb-false (buffer_refusal z B w a m s) 0 e (sym (refused_first (buffer_tests z B w (length a) m (length s)) _ (eqb-false (buffer_refusal z B w a m s) 0 e)) ∙ ok)))

-- The sectors fit, in numbers: they have bytes, and divide the block.
abbrev SectorDivides : (B w : ℕ) → Type 0
SectorDivides B w = (1 ≤ w) × (B % w ≡ 0)

sector_accepts : (B w : ℕ) → (sector_fits B w ≡ true) ↔ SectorDivides B w
unfolding sector_fits
sector_accepts B w = (
  λ e. (leb-true 1 w (and_left (leb 1 w) (eqb (B % w) 0) e), eqb-true (B % w) 0 (and_right (leb 1 w) (eqb (B % w) 0) e)),
  λ h. and_both (le-leb 1 w h.0) (eq-eqb (B % w) 0 h.1),
)

pub rebuild_accepts : (a b B w : ℕ) (array m sheets : List ℕ) (k : ℕ) → (rebuild_refusal (rectangle a b) B w array m sheets k ≡ 0)
    ↔ ((refusal (array_tests (rectangle a b) B (length array)) ≡ 0) × ((1 ≤ w) × (B % w ≡ 0))
    × SheetFits a b (B / w) m (length sheets) × (1 ≤ k))
rebuild_accepts a b B w array m sheets k =
    let z : Size = rectangle a b in (
      λ e.
          let (ok, some) = rebuild_fits z B w array m sheets k e in
          let f = buffers_fit z B w array m sheets ok in (
            array-accepted z B (length array) f.array,
            (sector_accepts B w).0 f.sector,
            (sheet_accepts a b (B / w) m (length sheets)).0 (sheet_passes z (B / w) m (length sheets) f.map f.long),
            some,
          ),
      λ (array_ok, divides, rest, some).
          let (map, long) = sheet_fits z (B / w) m (length sheets) ((sheet_accepts a b (B / w) m (length sheets)).1 rest) in
          limit_passed z B w array m sheets k some
          ∙ fit_accepted z B w array m sheets
          (record { array = array-fits z B (length array) array_ok; sector = (sector_accepts B w).1 divides; map = map; long = long }),
    )
