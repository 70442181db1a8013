-- The two halves of a seal make the sealed array: the row parities row by row, then the last row as the sum of the others.
-- Assumes nothing.
use mathlib.Core.Path.{◌≡◌, refl, sym, ◌∙◌, ap, ap₂}
use mathlib.Core.Bool.{Bool, cond, not, ◌&&◌, and-false}
use mathlib.Core.List.{List}
use Prim.Native.Nat.{ℕ, zero, suc, ◌+◌, ◌*◌, ◌≤◌, ◌<◌}
use native.Mathlib.Nat.{le_refl, le_of_lt, one-mul, add-mul, mul_assoc, zero-mul, zero-add}
use native.Mathlib.Numerals.{add-one}
use native.Mathlib.Omega.{arith}
use borrow.Author.Tests.{eq-eqb, ne_eqb}
use lib.Arith.{digits_lt}
use lib.Dec.{eqb}
use lib.ListN.{length, get_or}
use Rattle.stripes.specs.Fold.{◌⊕◌, xsum, gate}
use Rattle.stripes.specs.System.{whole, byte}
use Rattle.model.specs.Grid.{rows, columns, across, down, disks, disk_at, array_bytes}
use Rattle.model.specs.Equations.{cell, row_data, column_data}
use Rattle.model.specs.Array.{encoded}
use Rattle.model.specs.declared.Size.{Size}
use Rattle.stripes.proofs.Xor.{⊕-zero}
use Rattle.stripes.proofs.Fold.{xsum_ext, below_suc}
use Rattle.stripes.proofs.Bytes.{block-before, byte-changed, whole-inside}
use Rattle.model.proofs.Grid.{disk-below, eqb-disk}
use Rattle.model.proofs.Seal.{Same, same_row, same-column, encoded_is}
use Rattle.model.proofs.Refusal.{ArrayFits}
use Rattle.xor.specs.Strided.{filled, Spaced}
use Rattle.zeros.proofs.Stored.{length-stored}
use Rattle.sums.proofs.Blocks.{others, filled_stretch}
use Rattle.sums.proofs.Stripes.{rows_reach}
use Rattle.sums.proofs.Whole.{held}
use Rattle.seal.specs.Parity.{row_filled, rows_filled, last_row_filled}

-- ---- where the stretches stand: those of a row, and the rows themselves
module _ (z : Size) (B : ℕ) (a : List ℕ) (fits : ArrayFits z B (length a)) where
  pub row_spaced : (r : ℕ) → r < rows z → Spaced a (r * (across z * B)) B (across z) (columns z) B
  unfolding whole across down
  row_spaced r h =
      record {
        within = λ k l. let b = (rows_reach z (whole B) a (held z B a fits)).0 r (omega arith) k l in omega arith;
        apart = le_refl B;
        one = omega arith;
      }

  pub last_spaced : Spaced a 0 (across z * B) (down z) (rows z) (across z * B)
  unfolding array_bytes disks down
  last_spaced =
      record {
        within = λ k l.
            let b = block-before (across z * B) l in
            let product = mul_assoc (down z) (across z) B in
            let long = fits.long in
            omega arith;
        apart = le_refl (across z * B);
        one = omega arith;
      }

-- ---- what becomes of the disk in row r and column c

-- Of n blocks of C bytes, the last of m + 1 from block t on becomes the sum of the others.
filled-last : (C n : ℕ) (a : List ℕ) → length a ≡ n * C → (first t m : ℕ) → first ≡ t * C → t + m < n → (e q : ℕ) → e < n → q < C
    → byte (whole C) (filled C a first C (m + 1) m) e q
    ≡ cond (eqb e (t + m)) (xsum m (λ k. byte (whole C) a (t + k) q)) (byte (whole C) a e q)
unfolding whole others xsum gate
filled-last C n a sized first t m start l e q h b =
    ap₂ (λ (first step : ℕ). byte (whole C) (filled C a first step (m + 1) m) e q) (omega arith) (sym (one-mul C))
    ∙ ap (λ (l : List ℕ). byte (whole C) l e q) (filled_stretch (whole C) (whole-inside C) n a sized t 1 (m + 1) m (omega arith))
    ∙ byte-changed (whole C) (whole-inside C) n a sized _ e q h b
    ∙ ap₂ (λ (u v : ℕ). cond (eqb e u) v (byte (whole C) a e q)) (omega arith)
    (rw add-one
    (ap₂ (λ (u v : ℕ). u ⊕ v)
    (xsum_ext m (λ k h. ap₂ (λ (s : Bool) (d : ℕ). gate (not s) (byte (whole C) a d q)) (ne_eqb k m (omega arith)) (omega arith)))
    (ap (λ (s : Bool). gate (not s) (byte (whole C) a (t + m * 1) q)) (eq-eqb m m refl))
    ∙ ⊕-zero _))

-- A row of the grid as one block, with the blocks of its disks in it.
row-byte : (z : Size) (B : ℕ) (a : List ℕ) (r c p : ℕ) → byte (whole (across z * B)) a r (c * B + p) ≡ cell z (whole B) a p r c
unfolding byte whole cell disk_at
row-byte z B a r c p =
    let sum = add-mul (r * across z) c B in
    let product = mul_assoc r (across z) B in
    ap (λ (i : ℕ). get_or a i 0) (omega arith)

module _ (z : Size) (B : ℕ) (a : List ℕ) (long : length a ≡ array_bytes z B) where
  row-cell : (k : ℕ) → k ≤ rows z → (r c p : ℕ) → r ≤ rows z → c ≤ columns z → p < B
      → cell z (whole B) (row_filled z B a k) p r c
      ≡ cond (eqb r k && eqb c (columns z)) (row_data z (whole B) a p k) (cell z (whole B) a p r c)
  unfolding cell row_data row_filled array_bytes across disk_at
  row-cell k h r c p row column b =
      filled-last B (disks z) a long _ (k * across z) (columns z) (sym (mul_assoc k (across z) B)) (disk-below z k (columns z) h (le_refl (columns z)))
      (disk_at z r c) p (disk-below z r c row column) b
      ∙ rw (eqb-disk z r c k (columns z) column (le_refl (columns z)))

  last-cell : (r c p : ℕ) → r ≤ rows z → c ≤ columns z → p < B
      → cell z (whole B) (last_row_filled z B a) p r c ≡ cond (eqb r (rows z)) (column_data z (whole B) a p c) (cell z (whole B) a p r c)
  unfolding last_row_filled column_data array_bytes disks across down
  last-cell r c p row column b =
      sym (row-byte z B (last_row_filled z B a) r c p)
      ∙ filled-last (across z * B) (down z) a (long ∙ mul_assoc (down z) (across z) B) 0 0 (rows z) (sym (zero-mul (across z * B))) (omega arith)
      r (c * B + p) (omega arith) (digits_lt (omega arith) b)
      ∙ simp (zero-add, row-byte z B a)

-- ---- one half after the other

pub rows-length : (z : Size) (B : ℕ) (a : List ℕ) (k : ℕ) → length (rows_filled z B a k) ≡ length a
unfolding rows_filled row_filled filled
rows-length z B a zero = refl
rows-length z B a (suc k) = length-stored _ _ _ _ ∙ rows-length z B a k

pub rows_next : (z : Size) (B : ℕ) (a : List ℕ) (k : ℕ) → row_filled z B (rows_filled z B a k) k ≡ rows_filled z B a (k + 1)
unfolding rows_filled
rows_next z B a k = rw add-one

module _ (z : Size) (B : ℕ) (a : List ℕ) (long : length a ≡ array_bytes z B) where
  -- The first k rows keep their data and have their parities.
  rows-data : (k : ℕ) → k ≤ rows z → Same z B a (rows_filled z B a k)
  unfolding rows_filled
  rows-data zero h r c l m p b = refl
  rows-data (suc k) h r c l m p b =
      row-cell z B _ (rows-length z B a k ∙ long) k (le_of_lt h) r c p (le_of_lt l) (le_of_lt m) b
      ∙ simp (ne_eqb c (columns z) (omega arith), and-false) (rows-data k (le_of_lt h) r c l m p b)

  rows-parity : (k : ℕ) → k ≤ rows z → (p : ℕ) → p < B → (r : ℕ) → r < k
      → cell z (whole B) (rows_filled z B a k) p r (columns z) ≡ row_data z (whole B) a p r
  unfolding rows_filled
  rows-parity zero h p b = λ r l. absurd (omega arith)
  rows-parity (suc k) h p b =
      let at = row-cell z B _ (rows-length z B a k ∙ long) k (le_of_lt h) in
      below_suc _ k
      (λ r l. at r (columns z) p (omega arith) (le_refl (columns z)) b ∙ simp (ne_eqb r k (omega arith)) (rows-parity k (le_of_lt h) p b r l))
      (at k (columns z) p (le_of_lt h) (le_refl (columns z)) b ∙ simp (eq-eqb k k refl, eq-eqb (columns z) (columns z) refl) (same_row z B a _ (rows-data k (le_of_lt h)) k h p b))

  pub halves_seal : last_row_filled z B (rows_filled z B a (rows z)) ≡ encoded z B a
  halves_seal =
      let kept = rows-data (rows z) (le_refl (rows z)) in
      let parity = rows-parity (rows z) (le_refl (rows z)) in
      let at = last-cell z B (rows_filled z B a (rows z)) (rows-length z B a (rows z) ∙ long) in
      encoded_is z B a _ (unfold last_row_filled filled in length-stored _ _ _ _ ∙ rows-length z B a (rows z) ∙ long)
      (λ r c l m p b. at r c p (le_of_lt l) (le_of_lt m) b ∙ simp (ne_eqb r (rows z) (omega arith)) (kept r c l m p b))
      (λ p b r l. at r (columns z) p (le_of_lt l) (le_refl (columns z)) b ∙ simp (ne_eqb r (rows z) (omega arith)) (parity p b r l))
      (λ p b c m. at (rows z) c p (le_refl (rows z)) (le_of_lt m) b ∙ simp (eq-eqb (rows z) (rows z) refl) (same-column z B a _ kept c m p b))
      (λ p b. at (rows z) (columns z) p (le_refl (rows z)) (le_refl (columns z)) b ∙ simp (eq-eqb (rows z) (rows z) refl) (unfold column_data in xsum_ext (rows z) (parity p b)))
