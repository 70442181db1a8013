-- Sheets that stand one after another, with zeros stored in all of them, or in all but one.
-- Assumes nothing.
use mathlib.Core.Path.{◌≡◌, sym, ◌∙◌, ap}
use mathlib.Core.Bool.{Bool, cond}
use mathlib.Core.Logic.{⊎_elim}
use mathlib.Core.List.{List}
use Prim.Native.Nat.{ℕ, ◌+◌, ◌*◌, ◌-◌, ◌≤◌, ◌<◌}
use native.Mathlib.Omega.{arith}
use borrow.Author.Tests.{eqb-true, eqb-false}
use lib.Dec.{eqb}
use lib.ListN.{length, get_or, drop}
use lib.Seq.{ext_get_or, get_or-take, get_or-drop}
use Rattle.stripes.proofs.Fold.{lt_or_le, by_cases, length-tabulate, get_d_tabulate}
use Rattle.model.specs.Sheet.{Format, narrow, sheet_bytes, sheets_of, sheet_at, blank_sheet, blank_sheets}
use Rattle.model.proofs.SheetRow.{sheets_ext, sheets_split, length-sheet_at}
use Rattle.zeros.specs.Stored.{stored}
use Rattle.zeros.proofs.Stored.{length-stored, get_or-stored, get_or-before, get_d_after}

module _ (f : Format) where
  -- Byte j of the sheet of position p, and of a blank one.
  at_byte : (s : List ℕ) (p j : ℕ) → j < sheet_bytes f → get_or (sheet_at f p s) j 0 ≡ get_or s (sheet_bytes f * p + j) 0
  unfolding sheet_at
  at_byte s p j h = get_or-take (sheet_bytes f) (drop (sheet_bytes f * p) s) j 0 h ∙ get_or-drop (sheet_bytes f * p) s j 0

  blank-byte : (j : ℕ) → j < sheet_bytes f → get_or (blank_sheet f) j 0 ≡ 0
  unfolding blank_sheet
  blank-byte j h = get_d_tabulate (sheet_bytes f) (λ i. 0) j h

  blank-size : length (blank_sheet f) ≡ sheet_bytes f
  unfolding blank_sheet
  blank-size = length-tabulate (sheet_bytes f) (λ i. 0)

  -- A list is the sheets whose bytes it has.
  sheets-are : (n : ℕ) (s : List ℕ) → length s ≡ sheet_bytes f * n → (g : ℕ → List ℕ)
      → ((p : ℕ) → p < n → length (g p) ≡ sheet_bytes f)
      → ((p : ℕ) → p < n → (j : ℕ) → j < sheet_bytes f → get_or s (sheet_bytes f * p + j) 0 ≡ get_or (g p) j 0)
      → s ≡ sheets_of n g
  sheets-are n s long g size same =
      sheets_split f n s long
      ∙ sheets_ext n (λ p place.
      let all = length-sheet_at f n s long p place in
      ext_get_or 0 (sheet_at f p s) (g p) (all ∙ sym (size p place))
      (λ j h. let below : j < sheet_bytes f = omega arith in at_byte s p j below ∙ same p place j below))

module _ (n : ℕ) (s : List ℕ) (long : length s ≡ 98 * n) where
  pub all_zeroed : stored s 0 (length s) (λ i. 0) ≡ blank_sheets narrow n
  unfolding blank_sheets
  all_zeroed =
      sheets-are narrow n _ (length-stored s 0 (length s) (λ i. 0) ∙ long) (λ p. blank_sheet narrow) (λ p place. blank-size narrow)
      (λ p place j h.
      get_or-stored s 0 (length s) (λ i. 0) (98 * p + j) (omega arith) (omega arith) (omega arith) ∙ sym (blank-byte narrow j h))

  -- Zeros before the sheet of position k, and then behind it.
  module _ (k : ℕ) (own : k < n) (a : List ℕ) (front : a ≡ stored s 0 (98 * k) (λ i. 0))
      (b : List ℕ) (back : b ≡ stored a (98 * k + 98) (length a - (98 * k + 98)) (λ i. 0)) where
    long-front : length a ≡ 98 * n
    long-front = ap length front ∙ length-stored s 0 (98 * k) (λ i. 0) ∙ long

    long-back : length b ≡ 98 * n
    long-back = ap length back ∙ length-stored a _ _ (λ i. 0) ∙ long-front

    -- Before byte 98 * k + 98 only the first stores matter.
    byte-first : (i : ℕ) → i < 98 * k + 98 → get_or b i 0 ≡ get_or (stored s 0 (98 * k) (λ i. 0)) i 0
    byte-first i high =
        ap (λ (l : List ℕ). get_or l i 0) back ∙ get_or-before a (98 * k + 98) _ (λ i. 0) i high ∙ ap (λ (l : List ℕ). get_or l i 0) front

    byte-front : (i : ℕ) → i < 98 * k → get_or b i 0 ≡ 0
    byte-front i low =
        byte-first i (omega arith) ∙ get_or-stored s 0 (98 * k) (λ i. 0) i (omega arith) (omega arith) (omega arith)

    byte-kept : (i : ℕ) → 98 * k ≤ i → i < 98 * k + 98 → get_or b i 0 ≡ get_or s i 0
    byte-kept i low high = byte-first i high ∙ get_d_after s 0 (98 * k) (λ i. 0) i (omega arith)

    byte-back : (i : ℕ) → 98 * k + 98 ≤ i → i < 98 * n → get_or b i 0 ≡ 0
    byte-back i low high =
        let all = long-front in
        ap (λ (l : List ℕ). get_or l i 0) back
        ∙ get_or-stored a (98 * k + 98) (length a - (98 * k + 98)) (λ i. 0) i (omega arith) low (omega arith)

    pub others-zeroed : b ≡ sheets_of n (λ p. cond (eqb p k) (sheet_at narrow k s) (blank_sheet narrow))
    others-zeroed =
        sheets-are narrow n b long-back _
        (λ p place.
        by_cases (λ (t : Bool). length (cond t (sheet_at narrow k s) (blank_sheet narrow)) ≡ 98) (eqb p k)
        (λ e. length-sheet_at narrow n s long k own) (λ e. blank-size narrow))
        (λ p place j h.
        by_cases (λ (t : Bool). get_or b (98 * p + j) 0 ≡ get_or (cond t (sheet_at narrow k s) (blank_sheet narrow)) j 0) (eqb p k)
        (λ e.
        let is = eqb-true p k e in
        byte-kept (98 * p + j) (omega arith) (omega arith) ∙ ap (λ (q : ℕ). get_or s (98 * q + j) 0) is ∙ sym (at_byte narrow s k j h))
        (λ e.
        let other = eqb-false p k e in
        ⊎_elim (λ (l : p < k). byte-front (98 * p + j) (omega arith))
        (λ (l : k ≤ p). byte-back (98 * p + j) (omega arith) (omega arith)) (lt_or_le p k)
        ∙ sym (blank-byte narrow j h)))
