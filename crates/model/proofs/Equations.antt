-- The parity equations hold if and only if every stripe's sum is zero at every place.
-- Assumes nothing.
use mathlib.Core.Path.{◌≡◌, sym, ◌∙◌, ap}
use mathlib.Core.Logic.{◌↔◌}
use mathlib.Core.List.{List}
use Prim.Native.Nat.{ℕ, ◌+◌, ◌≤◌, ◌<◌, suc-le-suc}
use native.Mathlib.Nat.{le_refl, le_of_lt}
use native.Mathlib.Numerals.{add-one}
use Rattle.stripes.specs.Fold.{◌⊕◌, xsum}
use Rattle.stripes.specs.System.{stripe_sum}
use Rattle.model.specs.Grid.{rows, columns, across, layout_of}
use Rattle.model.specs.Equations.{cell, row_data, column_data, Equations}
use Rattle.stripes.specs.declared.Stretch.{Stretch}
use Rattle.model.specs.declared.Size.{Size}
use Rattle.stripes.proofs.Xor.{equal_of_zero, zero_of_equal}
use Rattle.stripes.proofs.Fold.{below_suc}
use Rattle.model.proofs.Grid.{row-stripe, column-stripe, empty_stripe, row_number, column-number, by_stripe}

-- A sum is zero if and only if its last part is the sum of the others.
last_is_sum : {sum : ℕ} (n : ℕ) (f : ℕ → ℕ) → sum ≡ xsum (n + 1) f → (sum ≡ 0) ↔ (f n ≡ xsum n f)
unfolding xsum
last_is_sum {sum} n f h =
    let split : sum ≡ xsum n f ⊕ f n = h ∙ ap (λ (k : ℕ). xsum k f) (add-one n) in
    (λ e. sym (equal_of_zero (xsum n f) (f n) (sym split ∙ e)), λ e. split ∙ zero_of_equal (xsum n f) (f n) (sym e))

module _ (z : Size) (base : ℕ) (above : rows z < base) (x : Stretch) (a : List ℕ) where
  -- The equation of a row, the last included, and of a column, the last included.
  pub row_equation : (r : ℕ) → r ≤ rows z → (p : ℕ)
      → (stripe_sum (layout_of z base) x a r p ≡ 0) ↔ (cell z x a p r (columns z) ≡ row_data z x a p r)
  unfolding cell row_data across
  row_equation r l p = last_is_sum (columns z) _ (row-stripe z base above x a r l p)

  pub column_equation : (c : ℕ) → c ≤ columns z → (p : ℕ)
      → (stripe_sum (layout_of z base) x a (base + c) p ≡ 0) ↔ (cell z x a p (rows z) c ≡ column_data z x a p c)
  unfolding cell column_data
  column_equation c l p = last_is_sum (rows z) _ (column-stripe z base above x a c l p)

  -- The equations make every sum zero, and where every sum is zero the equations hold.
  sums-of-equations : Equations z x a → (s : ℕ) → s < (layout_of z base).stripe_bound → (p : ℕ) → p < x.width → stripe_sum (layout_of z base) x a s p ≡ 0
  unfolding row_data column_data
  sums-of-equations e =
      by_stripe z base (λ s. (p : ℕ) → p < x.width → stripe_sum (layout_of z base) x a s p ≡ 0)
      (λ r l p b.
      (row_equation r l p).1
      (below_suc (λ i. cell z x a p i (columns z) ≡ row_data z x a p i) (rows z) (e.row_parity p b) (e.superparity_of_columns p b) r (suc-le-suc l)))
      (λ s l h p b. empty_stripe z base above x a s l h p)
      (λ c l p b.
      (column_equation c l p).1
      (below_suc (λ j. cell z x a p (rows z) j ≡ column_data z x a p j) (columns z) (e.column_parity p b) (e.superparity_of_rows p b) c (suc-le-suc l)))

  equations-of-sums : ((s : ℕ) → s < (layout_of z base).stripe_bound → (p : ℕ) → p < x.width → stripe_sum (layout_of z base) x a s p ≡ 0) → Equations z x a
  unfolding row_data column_data
  equations-of-sums h =
      let row : (r : ℕ) → r ≤ rows z → (p : ℕ) → p < x.width → cell z x a p r (columns z) ≡ row_data z x a p r =
      λ r l p b. (row_equation r l p).0 (h r (row_number z base above r l) p b) in
      let column : (c : ℕ) → c ≤ columns z → (p : ℕ) → p < x.width → cell z x a p (rows z) c ≡ column_data z x a p c =
      λ c l p b. (column_equation c l p).0 (h (base + c) (column-number z base c l) p b) in
      record {
        row_parity = λ p b r l. row r (le_of_lt l) p b;
        column_parity = λ p b c l. column c (le_of_lt l) p b;
        superparity_of_rows = λ p b. column (columns z) (le_refl (columns z)) p b;
        superparity_of_columns = λ p b. row (rows z) (le_refl (rows z)) p b;
      }

  pub equations_iff_sums : Equations z x a ↔ ((s : ℕ) → s < (layout_of z base).stripe_bound → (p : ℕ) → p < x.width → stripe_sum (layout_of z base) x a s p ≡ 0)
  equations_iff_sums = (sums-of-equations, equations-of-sums)
