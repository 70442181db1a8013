-- The laws of the grid: what its stripes sum, which sizes fit, and how disks and bytes are counted.
-- Assumes nothing.
use mathlib.Core.Path.{◌≡◌, refl, sym, ◌∙◌, ap, ap₂, subst}
use mathlib.Core.Bool.{Bool, true, false, ◌&&◌, ◌||◌, or-false}
use mathlib.Core.List.{List}
use Prim.Native.Nat.{ℕ, ◌+◌, ◌*◌, ◌/◌, ◌%◌, ◌-◌, ◌≤◌, ◌<◌}
use native.Mathlib.Nat.{mul-one, zero-mul, mul-le-mul_left, pos_of_ne-zero, mul-le-mul, add-sub_of_le, le_of_lt, lt_of_not-le, mod-lt, div-lt_iff_lt-mul, div-add-mod'}
use native.Mathlib.Decide.{dec_le, dec_lt}
use native.Mathlib.Omega.{arith}
use borrow.Author.Tests.{eq-eqb, ne_eqb, eqb-true, eqb-false, leb-true, ltb-true, lt-ltb, le-leb}
use lib.Arith.{digits_div, digits_mod, digits_lt}
use lib.Dec.{eqb, leb, ltb}
use lib.ListN.{length, get_or}
use Rattle.stripes.specs.Fold.{xsum, gate}
use Rattle.stripes.specs.System.{TwoStripes, among, on, whole, byte, sum_over, stripe_sum, Ordered}
use Rattle.model.specs.Grid.{grid, rows, columns, across, layout_of, column_base, disks, disk_at, is_data, array_bytes, array_of, side_fits, size_fits, block_fits, sector_fits, sectors_fit, map_bytes, map_fits, down}
use Rattle.stripes.specs.declared.Stretch.{Stretch}
use Rattle.model.specs.declared.Size.{Size}
use Rattle.stripes.proofs.Fold.{and_left, and_right, and_both, same_test, xsum_ext, xsum-zero, xsum_swap, xsum_mul, xsum-only, length-tabulate, get_d_tabulate, list_is}
use Rattle.stripes.proofs.Bytes.{block-before, byte-whole, by_block}
use Rattle.stripes.proofs.Degree.{two_ordered}

-- ---- the stripes of a grid

-- Every disk of a grid lies on two stripes, its row and its column.
pub grid-two : (r c base : ℕ) → r < base → TwoStripes (grid r c base)
unfolding grid
grid-two r c base h =
    record {
      low = λ d. d / (c + 1);
      high = λ d. base + d % (c + 1);
      two = λ d l. refl;
      order = λ d l. let b : d / (c + 1) < r + 1 = (div-lt_iff_lt-mul {k = c + 1} (omega arith)).1 l in omega arith;
      bound = λ d l. let b : d % (c + 1) < c + 1 = mod-lt d (omega arith) in omega arith;
    }

-- A double sum of which the test lets only one column through.
picked : (m n k : ℕ) (t : ℕ → ℕ → Bool) (f : ℕ → ℕ → ℕ) → k < n
    → ((i : ℕ) → i < m → t i k ≡ true)
    → ((i : ℕ) → i < m → (j : ℕ) → j < n → (j ≡ k → ⊥) → t i j ≡ false)
    → xsum m (λ i. xsum n (λ j. gate (t i j) (f i j))) ≡ xsum m (λ i. f i k)
unfolding gate
picked m n k t f l yes-at no-at =
    xsum_ext m (λ i h.
    xsum-only n k l (λ j w q. ap (λ (b : Bool). gate b (f i j)) (no-at i h j w q))
    ∙ ap (λ (b : Bool). gate b (f i k)) (yes-at i h))

-- Disk i * (c + 1) + j lies on stripe s if s is row i or column j.
crosses : (base s i j : ℕ) → Bool
crosses base s i j = eqb s i || (eqb s (base + j) || false)

by_cells : (r c base : ℕ) (f : ℕ → ℕ) (s : ℕ)
    → sum_over (grid r c base) f s ≡ xsum (r + 1) (λ i. xsum (c + 1) (λ j. gate (crosses base s i j) (f (i * (c + 1) + j))))
unfolding sum_over grid on among crosses
by_cells r c base f s =
    xsum_mul (r + 1) (c + 1) _
    ∙ xsum_ext (r + 1) (λ i h. xsum_ext (c + 1) (λ j w. rw (digits_div i w, digits_mod i w)))

crosses_is : (base s i j : ℕ) {x y : Bool} → eqb s i ≡ x → eqb s (base + j) ≡ y → crosses base s i j ≡ (x || (y || false))
unfolding crosses
crosses_is base s i j e k = ap₂ (λ (x y : Bool). x || (y || false)) e k

-- The sum of a row, of a column, and of a number between rows and columns that no disk lists.
module _ (r c base : ℕ) (h : r < base) (f : ℕ → ℕ) where
  pub row_sum : (i : ℕ) → i ≤ r → sum_over (grid r c base) f i ≡ xsum (c + 1) (λ j. f (i * (c + 1) + j))
  row_sum i l =
      by_cells r c base f i ∙ xsum_swap (r + 1) (c + 1) _
      ∙ picked (c + 1) (r + 1) i (λ j k. crosses base i k j) (λ j k. f (k * (c + 1) + j)) (omega arith)
      (λ j w. crosses_is base i i j (eq-eqb i i refl) refl)
      (λ j w k v q. crosses_is base i k j (ne_eqb i k (λ e. q (sym e))) (ne_eqb i (base + j) (omega arith)))

  pub column_sum : (j : ℕ) → j ≤ c → sum_over (grid r c base) f (base + j) ≡ xsum (r + 1) (λ i. f (i * (c + 1) + j))
  column_sum j l =
      by_cells r c base f (base + j)
      ∙ picked (r + 1) (c + 1) j (λ i k. crosses base (base + j) i k) (λ i k. f (i * (c + 1) + k)) (omega arith)
      (λ i w. crosses_is base (base + j) i j (ne_eqb (base + j) i (omega arith)) (eq-eqb (base + j) (base + j) refl))
      (λ i w k v q. crosses_is base (base + j) i k (ne_eqb (base + j) i (omega arith)) (ne_eqb (base + j) (base + k) (λ e. q (omega arith))))

  pub empty_sum : (s : ℕ) → r < s → s < base → sum_over (grid r c base) f s ≡ 0
  unfolding gate
  empty_sum s l b =
      by_cells r c base f s
      ∙ xsum-zero (r + 1) (λ i w. xsum-zero (c + 1) (λ j v.
      ap (λ (t : Bool). gate t (f (i * (c + 1) + j))) (crosses_is base s i j (ne_eqb s i (omega arith)) (ne_eqb s (base + j) (omega arith)))))

-- ---- sizes

-- The bounds that a size keeps if refusal 1 does not reject it, and a block if refusal 2 does not.
pub record Fits (z : Size) : Type 0 where
  pub rows_low : 2 ≤ rows z
  pub rows_high : rows z ≤ 15
  pub columns_low : 2 ≤ columns z
  pub columns_high : columns z ≤ 15

pub record BlockFits (B : ℕ) : Type 0 where
  pub low : 1 ≤ B
  pub high : B ≤ 4096

-- A test of two bounds.
both_bounds : (low n high : ℕ) → (leb low n && leb n high) ≡ true → (low ≤ n) × (n ≤ high)
both_bounds low n high e =
    (leb-true low n (and_left (leb low n) (leb n high) e), leb-true n high (and_right (leb low n) (leb n high) e))

pub side_fits_lem : (n : ℕ) → side_fits n ≡ true → (2 ≤ n) × (n ≤ 15)
unfolding side_fits
side_fits_lem n = both_bounds 2 n 15

-- What a size that fits says of its rows and of its columns.
pub size_fits_lem : (z : Size) → size_fits z ≡ true → Fits z
unfolding size_fits
size_fits_lem z e =
    let r = side_fits_lem (rows z) (and_left (side_fits (rows z)) (side_fits (columns z)) e) in
    let c = side_fits_lem (columns z) (and_right (side_fits (rows z)) (side_fits (columns z)) e) in
    record { rows_low = r.0; rows_high = r.1; columns_low = c.0; columns_high = c.1 }

pub block_fits_lem : (B : ℕ) → block_fits B ≡ true → BlockFits B
unfolding block_fits
block_fits_lem B e = let b : (1 ≤ B) × (B ≤ 4096) = both_bounds 1 B 4096 e in record { low = b.0; high = b.1 }

pub across_positive : (z : Size) → 0 < across z
unfolding across
across_positive z = omega arith

-- How large an array can be.
module _ (z : Size) (fits : Fits z) where
  pub across-bound : across z ≤ 16
  unfolding across
  across-bound = let h = fits.columns_high in omega arith

  pub disks-bound : disks z ≤ 256
  unfolding disks down
  disks-bound = let h = fits.rows_high in mul-le-mul {n₂ = 16} {m₂ = 16} (omega arith) across-bound

  pub bytes-bound : (B : ℕ) → BlockFits B → array_bytes z B ≤ 1048576
  unfolding array_bytes
  bytes-bound B block = mul-le-mul {n₂ = 256} {m₂ = 4096} disks-bound block.high

-- ---- the stripes of a size

-- A size that fits has fewer rows than the base of its columns.
pub rows-below : (z : Size) → size_fits z ≡ true → rows z < column_base z
rows-below z fits = let f : Fits z = size_fits_lem z fits in omega arith

-- The sum over the row, over the column, and over a stripe that no disk lists.
module _ (z : Size) (base : ℕ) (above : rows z < base) (f : ℕ → ℕ) where
  pub row_over : (r : ℕ) → r ≤ rows z → sum_over (layout_of z base) f r ≡ xsum (across z) (λ c. f (disk_at z r c))
  unfolding layout_of across disk_at
  row_over r l = row_sum (rows z) (columns z) base above f r l

  pub column_over : (c : ℕ) → c ≤ columns z → sum_over (layout_of z base) f (base + c) ≡ xsum (rows z + 1) (λ r. f (disk_at z r c))
  unfolding layout_of across disk_at
  column_over c l = column_sum (rows z) (columns z) base above f c l

  pub empty_over : (s : ℕ) → rows z < s → s < base → sum_over (layout_of z base) f s ≡ 0
  unfolding layout_of
  empty_over s l b = empty_sum (rows z) (columns z) base above f s l b

-- The same of the bytes at a place.
module _ (z : Size) (base : ℕ) (above : rows z < base) (x : Stretch) (a : List ℕ) where
  pub row-stripe : (r : ℕ) → r ≤ rows z → (p : ℕ) → stripe_sum (layout_of z base) x a r p ≡ xsum (across z) (λ c. byte x a (disk_at z r c) p)
  unfolding stripe_sum
  row-stripe r l p = row_over z base above (λ d. byte x a d p) r l

  pub column-stripe : (c : ℕ) → c ≤ columns z → (p : ℕ) → stripe_sum (layout_of z base) x a (base + c) p ≡ xsum (rows z + 1) (λ r. byte x a (disk_at z r c) p)
  unfolding stripe_sum
  column-stripe c l p = column_over z base above (λ d. byte x a d p) c l

  pub empty_stripe : (s : ℕ) → rows z < s → s < base → (p : ℕ) → stripe_sum (layout_of z base) x a s p ≡ 0
  unfolding stripe_sum
  empty_stripe s l b p = empty_over z base above (λ d. byte x a d p) s l b

-- A size's layout has its disks, and its stripes are the rows, the numbers from there to the base, and the columns.
module _ (z : Size) (base : ℕ) where
  pub layout-disks : (layout_of z base).disks ≡ disks z
  unfolding layout_of grid disks across down
  layout-disks = refl

  pub layout-two : rows z < base → TwoStripes (layout_of z base)
  unfolding layout_of
  layout-two above = grid-two (rows z) (columns z) base above

  pub layout_ordered : rows z < base → Ordered (layout_of z base)
  layout_ordered above = two_ordered (layout_of z base) (layout-two above)

  pub row_number : rows z < base → (r : ℕ) → r ≤ rows z → r < (layout_of z base).stripe_bound
  unfolding layout_of grid
  row_number above r l = omega arith

  pub column-number : (c : ℕ) → c ≤ columns z → base + c < (layout_of z base).stripe_bound
  unfolding layout_of grid
  column-number c l = omega arith

  pub by_stripe : (P : ℕ → Type 0)
      → ((r : ℕ) → r ≤ rows z → P r) → ((s : ℕ) → rows z < s → s < base → P s) → ((c : ℕ) → c ≤ columns z → P (base + c))
      → (s : ℕ) → s < (layout_of z base).stripe_bound → P s
  unfolding layout_of grid
  by_stripe P row between column s l = go (dec_le s (rows z)) (dec_lt s base)
    where
      go : Dec (s ≤ rows z) → Dec (s < base) → P s
      go (yes h) k = row s h
      go (no h) (yes k) = between s (lt_of_not-le h) k
      go (no h) (no k) = subst P (add-sub_of_le (omega arith)) (column (s - base) (omega arith))

-- ---- disks

-- A row holds its data columns and one disk more.
pub column-inside : (z : Size) (c : ℕ) → c ≤ columns z → c < across z
unfolding across
column-inside z c l = omega arith

-- A disk's number gives its row and its column, and these give the number.
module _ (z : Size) where
  pub row_of : (r c : ℕ) → c < across z → disk_at z r c / across z ≡ r
  unfolding disk_at
  row_of r c l = digits_div r l

  pub column_of_lem : (r c : ℕ) → c < across z → disk_at z r c % across z ≡ c
  unfolding disk_at
  column_of_lem r c l = digits_mod r l

  pub disk-below : (r c : ℕ) → r ≤ rows z → c ≤ columns z → disk_at z r c < disks z
  unfolding disk_at disks across down
  disk-below r c l k = digits_lt {q = r} {m = rows z + 1} {r = c} {c = columns z + 1} (omega arith) (omega arith)

  pub disk_is : (d : ℕ) → d ≡ disk_at z (d / across z) (d % across z)
  unfolding disk_at
  disk_is d = sym (div-add-mod' d (across z))

  pub row_within : (d : ℕ) → d < disks z → d / across z ≤ rows z
  unfolding disks across down
  row_within d l = let b : d / (columns z + 1) < rows z + 1 = (div-lt_iff_lt-mul {k = columns z + 1} (omega arith)).1 l in omega arith

  pub column-within : (d : ℕ) → d % across z ≤ columns z
  unfolding across
  column-within d = let b : d % (columns z + 1) < columns z + 1 = mod-lt d (omega arith) in omega arith

  -- Two disks are the same if and only if their rows and their columns are.
  pub eqb-disk : (r c i j : ℕ) → c ≤ columns z → j ≤ columns z → eqb (disk_at z r c) (disk_at z i j) ≡ (eqb r i && eqb c j)
  eqb-disk r c i j l k = go (eqb r i) (eqb c j) refl refl
    where
      same_row : disk_at z r c ≡ disk_at z i j → r ≡ i
      same_row q = sym (row_of r c (column-inside z c l)) ∙ ap (λ (d : ℕ). d / across z) q ∙ row_of i j (column-inside z j k)

      same-column : disk_at z r c ≡ disk_at z i j → c ≡ j
      same-column q = sym (column_of_lem r c (column-inside z c l)) ∙ ap (λ (d : ℕ). d % across z) q ∙ column_of_lem i j (column-inside z j k)

      go : (s t : Bool) → eqb r i ≡ s → eqb c j ≡ t → eqb (disk_at z r c) (disk_at z i j) ≡ (s && t)
      go true true e h = eq-eqb _ _ (ap₂ (disk_at z) (eqb-true r i e) (eqb-true c j h))
      go true false e h = ne_eqb _ _ (λ q. eqb-false c j h (same-column q))
      go false t e h = ne_eqb _ _ (λ q. eqb-false r i e (same_row q))

  -- The data disks are those of the data rows and data columns.
  pub data_at : (r c : ℕ) → r < rows z → c < columns z → is_data z (disk_at z r c) ≡ true
  unfolding is_data
  data_at r c l k =
      let w : c < across z = column-inside z c (le_of_lt k) in
      and_both (ap (λ (i : ℕ). ltb i (rows z)) (row_of r c w) ∙ lt-ltb r (rows z) l)
      (ap (λ (j : ℕ). ltb j (columns z)) (column_of_lem r c w) ∙ lt-ltb c (columns z) k)

  pub data_row : (d : ℕ) → is_data z d ≡ true → d / across z < rows z
  unfolding is_data
  data_row d e = ltb-true (d / across z) (rows z) (and_left _ (ltb (d % across z) (columns z)) e)

  pub data_column : (d : ℕ) → is_data z d ≡ true → d % across z < columns z
  unfolding is_data
  data_column d e = ltb-true (d % across z) (columns z) (and_right (ltb (d / across z) (rows z)) _ e)

  pub data_below : (d : ℕ) → is_data z d ≡ true → d < disks z
  data_below d e =
      subst (λ (k : ℕ). k < disks z) (sym (disk_is d)) (disk-below (d / across z) (d % across z) (le_of_lt (data_row d e)) (le_of_lt (data_column d e)))

-- ---- which disks lie on a row and on a column
module _ (z : Size) (base : ℕ) where
  pub on_row : (d r : ℕ) → r < base → on (layout_of z base) d r ≡ eqb r (d / across z)
  unfolding on among layout_of grid across
  on_row d r l =
      ap (λ (b : Bool). eqb r (d / across z) || (b || false)) (ne_eqb r (base + d % across z) (λ q. omega arith))
      ∙ or-false (eqb r (d / across z))

  pub on-column : rows z < base → (d c : ℕ) → d < disks z → on (layout_of z base) d (base + c) ≡ eqb c (d % across z)
  unfolding on among layout_of grid across
  on-column above d c l =
      let row : d / across z ≤ rows z = row_within z d l in
      ap₂ (λ (a b : Bool). a || (b || false)) (ne_eqb (base + c) (d / across z) (λ q. omega arith))
      (same_test (eqb (base + c) (base + d % across z)) (eqb c (d % across z))
      (λ e. let q = eqb-true (base + c) (base + d % across z) e in eq-eqb c (d % across z) (omega arith))
      (λ e. eq-eqb (base + c) (base + d % across z) (ap (λ (k : ℕ). base + k) (eqb-true c (d % across z) e))))
      ∙ or-false (eqb c (d % across z))

-- A map that fits has its length.
pub map-length : (len : ℕ) (m : List ℕ) → map_fits len m ≡ true → length m ≡ len
unfolding map_fits
map-length len m e = eqb-true (length m) len (and_left (eqb (length m) len) _ e)

-- With one sector a block it has a byte for each disk.
pub one_byte : (z : Size) → map_bytes z 1 ≡ disks z
unfolding map_bytes
one_byte z = mul-one (disks z)

-- ---- sectors

-- A sector that fits divides the block, into at least one sector and at most as many as the largest block has bytes.
pub sector-cut : (B w : ℕ) → sector_fits B w ≡ true → B ≡ B / w * w
unfolding sector_fits
sector-cut B w e =
    let none = eqb-true (B % w) 0 (and_right (leb 1 w) (eqb (B % w) 0) e) in
    let all = div-add-mod' B w in
    omega arith

pub sector-some : (B w : ℕ) → sector_fits B w ≡ true → 1 ≤ w
unfolding sector_fits
sector-some B w e = leb-true 1 w (and_left (leb 1 w) _ e)

-- Both limits of their number.
pub sectors-bound : (n : ℕ) → sectors_fit n ≡ true → (1 ≤ n) × (n ≤ 4096)
unfolding sectors_fit
sectors-bound n e = (leb-true 1 n (and_left (leb 1 n) (leb n 4096) e), leb-true n 4096 (and_right (leb 1 n) (leb n 4096) e))

-- So a map has at most 256 * 4,096 bytes.
pub map-bound : (z : Size) (n : ℕ) → size_fits z ≡ true → sectors_fit n ≡ true → map_bytes z n ≤ 1048576
unfolding map_bytes
map-bound z n size few = mul-le-mul (disks-bound z (size_fits_lem z size)) (sectors-bound n few).1

pub sectors-some : (B w : ℕ) → block_fits B ≡ true → sector_fits B w ≡ true → sectors_fit (B / w) ≡ true
unfolding sectors_fit
sectors-some B w block e =
    let fits = block_fits_lem B block in
    let low = fits.low in
    let high = fits.high in
    let cut = sector-cut B w e in
    let some = sector-some B w e in
    and_both
    (le-leb 1 (B / w) (pos_of_ne-zero (λ q. let none : B / w * w ≡ 0 = ap (λ (k : ℕ). k * w) q ∙ zero-mul w in omega arith)))
    (le-leb (B / w) 4096 (let least : B / w * 1 ≤ B / w * w = mul-le-mul_left (B / w) some in let one = mul-one (B / w) in omega arith))

pub by_byte : (z : Size) (B : ℕ) (P : ℕ → Type 0) → ((d p : ℕ) → d < disks z → p < B → P (d * B + p)) → (i : ℕ) → i < array_bytes z B → P i
unfolding array_bytes
by_byte z B P all i l = by_block (disks z) B P all i l

-- An array is made of its disks' bytes, and equal if these are.
module _ (z : Size) (B : ℕ) (f : ℕ → ℕ → ℕ) where
  pub array-length : length (array_of z B f) ≡ array_bytes z B
  unfolding array_of
  array-length = length-tabulate (array_bytes z B) _

  pub array_at : (d p : ℕ) → d < disks z → p < B → get_or (array_of z B f) (d * B + p) 0 ≡ f d p
  unfolding array_of array_bytes
  array_at d p l b = get_d_tabulate (disks z * B) _ (d * B + p) (digits_lt l b) ∙ ap₂ f (digits_div d b) (digits_mod d b)

  pub array_is : (l : List ℕ) → length l ≡ array_bytes z B
      → ((d p : ℕ) → d < disks z → p < B → get_or l (d * B + p) 0 ≡ f d p) → l ≡ array_of z B f
  unfolding array_of
  array_is l e h =
      list_is l (array_bytes z B) _ e
      (by_byte z B (λ i. get_or l i 0 ≡ f (i / B) (i % B)) (λ d p k b. h d p k b ∙ sym (ap₂ f (digits_div d b) (digits_mod d b))))

  pub array_all : (P : ℕ → Type 0) → ((d p : ℕ) → d < disks z → p < B → P (f d p))
      → (i : ℕ) → i < length (array_of z B f) → P (get_or (array_of z B f) i 0)
  array_all P h i l =
      by_byte z B (λ i. P (get_or (array_of z B f) i 0)) (λ d p k b. subst P (sym (array_at d p k b)) (h d p k b)) i
      (subst (λ (n : ℕ). i < n) array-length l)

  pub byte-array_of : (d p : ℕ) → d < disks z → p < B → byte (whole B) (array_of z B f) d p ≡ f d p
  byte-array_of d p l b = byte-whole B (array_of z B f) d p ∙ array_at d p l b

-- The block of a disk lies within the array.
pub block_within : (z : Size) (B len : ℕ) → len ≡ array_bytes z B → (d : ℕ) → d < disks z → d * B + B ≤ len
unfolding array_bytes
block_within z B len long d below = let end = block-before B below in omega arith

-- An array of the right length holds a block for each disk of the layout.
pub layout-sized : (z : Size) (base B : ℕ) (a : List ℕ) → length a ≡ array_bytes z B → length a ≡ (layout_of z base).disks * (whole B).block
unfolding array_bytes whole
layout-sized z base B a long = long ∙ ap (λ (n : ℕ). n * B) (sym (layout-disks z base))
