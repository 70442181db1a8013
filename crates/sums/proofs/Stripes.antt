-- From sums of stretches to stripes: the lowest row and the lowest column that do not cancel, and the lowest stripe.
-- Assumes nothing.
use mathlib.Core.Path.{subst, ◌≡◌, sym, ◌∙◌, ap, ap₂}
use mathlib.Core.Bool.{Bool, true, false, not}
use mathlib.Core.Logic.{⊎_elim}
use mathlib.Core.List.{List}
use Prim.Native.Nat.{ℕ, ◌+◌, ◌*◌, ◌≤◌, ◌<◌}
use native.Mathlib.Nat.{eq-or-lt_of_le, le_refl, le_of_lt, one-mul, mul_assoc, add-mul, zero-mul, mul-le-mul}
use native.Mathlib.Numerals.{add-one}
use native.Mathlib.Omega.{arith}
use borrow.Author.Tests.{not-false, ne_eqb, eq-eqb, eqb-true}
use lib.Arith.{digits_lt}
use lib.Dec.{eqb}
use lib.ListN.{length}
use Rattle.stripes.specs.Fold.{◌⊕◌, xsum, gate, lowest}
use Rattle.stripes.specs.System.{Layout, whole, byte, stripe_sum, sums_to_zero, consistent}
use Rattle.stripes.specs.declared.Stretch.{Stretch}
use Rattle.model.specs.Grid.{rows, columns, across, down, grid, layout_of, disk_at, disks, size_fits, block_fits}
use Rattle.model.specs.declared.Size.{Size}
use Rattle.stripes.proofs.Xor.{zero-⊕}
use Rattle.stripes.proofs.Fold.{xsum-zero, xsum_swap, every_all, every_at, xsum_ext, every_ext, same_test, Lowest, lowest_is, lowest_ext, lowest_unique, lowest-end}
use Rattle.stripes.proofs.Bytes.{block-before}
use Rattle.stripes.proofs.Sums.{sums_of_zero, zero_of_sums}
use Rattle.model.proofs.Grid.{row-stripe, column-stripe, empty_stripe, row_number, by_stripe, disk-below, across-bound, size_fits_lem, block_fits_lem}
use Rattle.xor.specs.Strided.{cancelled, strided}
use Rattle.sums.specs.Held.{Held, nonzero}
use Rattle.sums.proofs.Blocks.{others, strided-disks, stretch_within}

-- Where none is left out.
others_all : (x : Stretch) (a : List ℕ) (s count d p : ℕ) → others x a s count count d p ≡ xsum count (λ k. byte x a (d + k * s) p)
unfolding others gate
others_all x a s count d p =
    xsum_ext count (λ k h. ap (λ (b : Bool). gate (not b) (byte x a (d + k * s) p)) (ne_eqb k count (omega arith)))

-- A stripe whose disks stand s apart from disk t on sums to zero if their stretches cancel.
cancelled-zero : (L : Layout) (x : Stretch) (a : List ℕ) (stripe t s count : ℕ)
    → ((p : ℕ) → p < x.width → stripe_sum L x a stripe p ≡ xsum count (λ k. byte x a (t + k * s) p))
    → cancelled x.width a (t * x.block + x.offset) (s * x.block) count count ≡ sums_to_zero L x a stripe
unfolding cancelled sums_to_zero
cancelled-zero L x a stripe t s count sum =
    every_ext x.width (λ p b. ap (λ (v : ℕ). eqb v 0) (strided-disks x a t s count count p ∙ others_all x a s count t p ∙ sym (sum p b)))

-- Where the stretches of the disk in row i and column k lie.
module _ (z : Size) (x : Stretch) (a : List ℕ) (held : Held z x a) where
  reach : (i : ℕ) → i < down z → (k : ℕ) → k < across z → x.offset + i * (across z * x.block) + k * x.block + x.width ≤ length a
  unfolding across down disk_at
  reach i h k l =
      let b = stretch_within x held.inside (disks z) a held.sized (disk_at z i k) (disk-below z i k (omega arith) (omega arith)) in
      let sum = add-mul (i * across z) k x.block in
      let product = mul_assoc i (across z) x.block in
      omega arith

  -- What the search for the lowest row asks, and that for the lowest column: each stretch, and the first of each sum.
  pub rows_reach : ((i : ℕ) → i < down z → (k : ℕ) → k < across z → x.offset + i * (across z * x.block) + k * x.block + x.width ≤ length a)
      × ((i : ℕ) → i < down z → x.offset + i * (across z * x.block) + x.width ≤ length a)
  unfolding across
  rows_reach = (reach, λ i h. let r = reach i h 0 (omega arith) in let none = zero-mul x.block in omega arith)

  pub columns_reach : ((i : ℕ) → i < across z → (k : ℕ) → k < down z → x.offset + i * x.block + k * (across z * x.block) + x.width ≤ length a)
      × ((i : ℕ) → i < across z → x.offset + i * x.block + x.width ≤ length a)
  unfolding down
  columns_reach = (
    λ i h k l. let r = reach k l i h in omega arith,
    λ i h. let r = reach 0 (omega arith) i h in let none = zero-mul (across z * x.block) in omega arith,
  )

  -- The rows without their last disk.
  rest_at : (k : ℕ) → k < down z → 0 + k * (across z * x.block) + columns z * x.block ≤ length a
  unfolding across down disk_at
  rest_at k l =
      let b = block-before x.block (disk-below z k (columns z) (omega arith) (omega arith)) in
      let sum = add-mul (k * across z) (columns z) x.block in
      let product = mul_assoc k (across z) x.block in
      let long = held.sized in
      omega arith

  pub rest_reach : ((k : ℕ) → k < down z → 0 + k * (across z * x.block) + columns z * x.block ≤ length a) × (0 + columns z * x.block ≤ length a)
  unfolding down
  rest_reach = (rest_at, let b = rest_at 0 (omega arith) in let none = zero-mul (across z * x.block) in omega arith)

-- The numbers that the code multiplies are small.
pub row-bytes-small : (z : Size) → size_fits z ≡ true → (B : ℕ) → block_fits B ≡ true → (across z * B ≤ 65536) × (columns z * B ≤ 65536)
unfolding across
row-bytes-small z fits B block =
    let b = across-bound z (size_fits_lem z fits) in
    let f = block_fits_lem B block in
    (mul-le-mul {n₂ = 16} {m₂ = 4096} b f.high, mul-le-mul {n₂ = 16} {m₂ = 4096} (omega arith) f.high)

module _ (z : Size) (base : ℕ) (above : rows z < base) (x : Stretch) (a : List ℕ) where
  -- The test of a row, and of a column, by the bytes where its stretches begin.
  row-test : (r : ℕ) → r < down z
      → not (cancelled x.width a (x.offset + r * (across z * x.block)) x.block (across z) (across z)) ≡ nonzero z base x a r
  unfolding disk_at down
  row-test r h =
      let product = mul_assoc r (across z) x.block in
      let at : x.offset + r * (across z * x.block) ≡ r * across z * x.block + x.offset = omega arith in
      ap not
      (ap₂ (λ (at step : ℕ). cancelled x.width a at step (across z) (across z)) at (sym (one-mul x.block))
      ∙ cancelled-zero (layout_of z base) x a r (r * across z) 1 (across z)
      (λ p b.
      row-stripe z base above x a r (omega arith) p
      ∙ xsum_ext (across z) (λ k l. ap (λ (d : ℕ). byte x a d p) (omega arith))))

  column-test : (c : ℕ) → c < across z
      → not (cancelled x.width a (x.offset + c * x.block) (across z * x.block) (down z) (down z)) ≡ nonzero z base x a (base + c)
  unfolding disk_at across down
  column-test c h =
      let at : x.offset + c * x.block ≡ c * x.block + x.offset = omega arith in
      ap not
      (ap (λ (at : ℕ). cancelled x.width a at (across z * x.block) (down z) (down z)) at
      ∙ cancelled-zero (layout_of z base) x a (base + c) c (across z) (down z)
      (λ p b.
      column-stripe z base above x a c (omega arith) p
      ∙ xsum_ext (down z) (λ k l. ap (λ (d : ℕ). byte x a d p) (omega arith))))

  pub row-lowest : lowest (down z) (λ r. not (cancelled x.width a (x.offset + r * (across z * x.block)) x.block (across z) (across z)))
      ≡ lowest (down z) (nonzero z base x a)
  row-lowest = lowest_ext (down z) row-test

  pub column-lowest : lowest (across z) (λ c. not (cancelled x.width a (x.offset + c * x.block) (across z * x.block) (down z) (down z)))
      ≡ lowest (across z) (λ c. nonzero z base x a (base + c))
  column-lowest = lowest_ext (across z) column-test

  -- ---- where all rows sum to zero
  module _ (no_row : lowest (down z) (nonzero z base x a) ≡ down z) where
    row_zero : (r : ℕ) → r ≤ rows z → (p : ℕ) → p < x.width → stripe_sum (layout_of z base) x a r p ≡ 0
    unfolding down
    row_zero r h =
        sums_of_zero (layout_of z base) x a r
        (not-false _ ((subst (λ (k : ℕ). Lowest (down z) (nonzero z base x a) k) no_row (lowest_is (down z) (nonzero z base x a))).none r (omega arith)))

    -- and all columns but the last do, so does the last.
    last-column : (p : ℕ) → p < x.width → ((c : ℕ) → c < columns z → stripe_sum (layout_of z base) x a (base + c) p ≡ 0)
        → stripe_sum (layout_of z base) x a (base + columns z) p ≡ 0
    unfolding across xsum
    last-column p b by-columns =
        let f : ℕ → ℕ → ℕ = λ r c. byte x a (disk_at z r c) p in
        let all : xsum (rows z + 1) (λ r. xsum (across z) (λ c. f r c)) ≡ 0 =
        xsum-zero (rows z + 1) (λ r h. sym (row-stripe z base above x a r (omega arith) p) ∙ row_zero r (omega arith) p b) in
        let rest : xsum (columns z) (λ c. xsum (rows z + 1) (λ r. f r c)) ≡ 0 =
        xsum-zero (columns z) (λ c h. sym (column-stripe z base above x a c (le_of_lt h) p) ∙ by-columns c h) in
        column-stripe z base above x a (columns z) (le_refl (columns z)) p
        ∙ sym (zero-⊕ _)
        ∙ ap (λ (v : ℕ). v ⊕ xsum (rows z + 1) (λ r. f r (columns z))) (sym rest)
        ∙ ap (λ (n : ℕ). xsum n (λ c. xsum (rows z + 1) (λ r. f r c))) (sym (add-one (columns z)))
        ∙ sym (xsum_swap (rows z + 1) (columns z + 1) f) ∙ all

    -- Over whole blocks: where the sum of the rows without their last disk is zero, no column is left.
    pub columns-none : x.offset ≡ 0 → x.width ≡ x.block
        → cancelled (columns z * x.block) a 0 (across z * x.block) (down z) (down z) ≡ true
        → across z ≡ lowest (across z) (λ c. nonzero z base x a (base + c))
    unfolding across cancelled
    columns-none start whole e = lowest-end (across z) (λ c. nonzero z base x a (base + c)) (λ c h. ⊎_elim (λ q. ap (λ (k : ℕ). nonzero z base x a (base + k)) q ∙ the_last) (column c) (eq-or-lt_of_le (within c h)))
      where
        within : (c : ℕ) → c < across z → c ≤ columns z
        within c h = omega arith

        column : (c : ℕ) → c < columns z → nonzero z base x a (base + c) ≡ false
        column c l =
            sym (column-test c (omega arith))
            ∙ ap not (every_all x.width (λ p b.
            let at : x.offset + c * x.block + p ≡ 0 + (c * x.block + p) = omega arith in
            ap (λ (k : ℕ). eqb (strided a k (across z * x.block) (down z) (down z)) 0) at
            ∙ every_at (columns z * x.block) _ e (c * x.block + p) (digits_lt l (omega arith))))

        the_last : nonzero z base x a (base + columns z) ≡ false
        the_last =
            ap not (zero_of_sums (layout_of z base) x a (base + columns z) (λ p b.
            last-column p b (λ c l. sums_of_zero (layout_of z base) x a (base + c) (not-false _ (column c l)) p b)))

  -- ---- the lowest stripe

  -- No disk lies on a number between the rows and the columns.
  empty-zero : (s : ℕ) → rows z < s → s < base → nonzero z base x a s ≡ false
  empty-zero s l h = ap not (zero_of_sums (layout_of z base) x a s (λ p b. empty_stripe z base above x a s l h p))

  -- It is the lowest row,
  pub row-answer : (r : ℕ) → r ≡ lowest (down z) (nonzero z base x a) → r < down z → r ≡ lowest (layout_of z base).stripe_bound (nonzero z base x a)
  unfolding down
  row-answer r row h =
      let low : Lowest (down z) (nonzero z base x a) r = rw row (lowest_is (down z) (nonzero z base x a)) in
      lowest_unique (layout_of z base).stripe_bound (nonzero z base x a) r _
      (record { within = le_of_lt (row_number z base above r (omega arith)); none = low.none; found = λ l. low.found h })
      (lowest_is (layout_of z base).stripe_bound (nonzero z base x a))

  -- or where no row is found the lowest column; where there is none, both numbers are one more than the highest.
  pub column-answer : (r : ℕ) → r ≡ lowest (down z) (nonzero z base x a) → down z ≤ r
      → (c : ℕ) → c ≡ lowest (across z) (λ c. nonzero z base x a (base + c))
      → base + c ≡ lowest (layout_of z base).stripe_bound (nonzero z base x a)
  unfolding across down layout_of grid
  column-answer r row none c column =
      let rows-so : Lowest (down z) (nonzero z base x a) r = rw row (lowest_is (down z) (nonzero z base x a)) in
      let columns-so : Lowest (across z) (λ c. nonzero z base x a (base + c)) c = rw column (lowest_is (across z) (λ c. nonzero z base x a (base + c))) in
      let most = columns-so.within in
      lowest_unique (layout_of z base).stripe_bound (nonzero z base x a) (base + c) _
      (record {
        within = omega arith;
        none = λ i l.
            by_stripe z base (λ (i : ℕ). i < base + c → nonzero z base x a i ≡ false) (λ k h l. rows-so.none k (omega arith)) (λ k h g l. empty-zero k h g)
            (λ j h l. columns-so.none j (omega arith)) i (omega arith) l;
        found = λ l. columns-so.found (omega arith);
      })
      (lowest_is (layout_of z base).stripe_bound (nonzero z base x a))

-- No stripe is found exactly if every sum is zero.
pub none-consistent : (L : Layout) (x : Stretch) (a : List ℕ) (s : ℕ) → s ≡ lowest L.stripe_bound (λ s. not (sums_to_zero L x a s))
    → eqb s L.stripe_bound ≡ consistent L x a
unfolding consistent
none-consistent L x a s e =
    let low : Lowest L.stripe_bound (λ s. not (sums_to_zero L x a s)) s = rw e (lowest_is L.stripe_bound (λ s. not (sums_to_zero L x a s))) in
    same_test (eqb s L.stripe_bound) _
    (λ q. let end = eqb-true s L.stripe_bound q in every_all L.stripe_bound (λ i l. not-false _ (low.none i (omega arith))))
    (λ all.
    eq-eqb s L.stripe_bound
    (e ∙ sym (lowest-end L.stripe_bound (λ s. not (sums_to_zero L x a s)) (λ i l. ap not (every_at L.stripe_bound _ all i l)))))
