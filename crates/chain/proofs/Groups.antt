-- The bytes of a sheet, one after another and in groups of 16: which are zero or in a record that is marked.
-- Assumes nothing.
use mathlib.Core.Path.{◌≡◌, ◌∙◌}
use mathlib.Core.Bool.{true, false, or-true}
use mathlib.Core.List.{List}
use Prim.Native.Nat.{ℕ, suc, ◌+◌, ◌-◌, ◌/◌, ◌≤◌}
use native.Mathlib.Numerals.{add-one}
use native.Mathlib.Omega.{arith}
use borrow.Author.Tests.{eq-eqb, ne_eqb, eqb-true, le-ltb}
use lib.Dec.{eqb}
use lib.ListN.{get_or}
use Rattle.stripes.specs.Fold.{every}
use Rattle.stripes.proofs.Fold.{and_both, every_at, every_all, every_fails, every-not, every_add}
use Rattle.chain.specs.Read.{marked, in_order}

-- ---- a byte, in the code's terms
module _ (m s : List ℕ) (i : ℕ) where
  pub off_and_not_zero : 2 ≤ i → (get_or s i 0 ≡ 0 → ⊥) → (get_or m ((i - 2) / 3 + 1) 0 ≡ 1 → ⊥) → in_order m s i ≡ false
  unfolding in_order marked
  off_and_not_zero low some unmarked =
      rw (le-ltb i 2 low, ne_eqb (get_or s i 0) 0 some, ne_eqb (get_or m (suc ((i - 2) / 3)) 0) 1 (rw add-one at unmarked))

  pub zero-byte : get_or s i 0 ≡ 0 → in_order m s i ≡ true
  unfolding in_order
  zero-byte e = rw (eq-eqb (get_or s i 0) 0 e, or-true)

  pub on_record : get_or m ((i - 2) / 3 + 1) 0 ≡ 1 → in_order m s i ≡ true
  unfolding in_order marked
  on_record e = rw (eq-eqb (get_or m (suc ((i - 2) / 3)) 0) 1 (rw add-one at e), or-true)

-- ---- a group of 16
module _ (m s : List ℕ) (at : ℕ) where
  pub group_zero : every 16 (λ j. eqb (get_or s (at + j) 0) 0) ≡ true → every 16 (λ j. in_order m s (at + j)) ≡ true
  group_zero zeros = every_all 16 (λ j h. zero-byte m s (at + j) (eqb-true (get_or s (at + j) 0) 0 (every_at 16 _ zeros j h)))

  pub group_next : every at (in_order m s) ≡ true → every 16 (λ j. in_order m s (at + j)) ≡ true → every (at + 16) (in_order m s) ≡ true
  group_next before here = every_add at 16 (in_order m s) ∙ and_both before here

  pub group_fails : at + 16 ≤ 98 → every 16 (λ j. in_order m s (at + j)) ≡ false → every 98 (in_order m s) ≡ false
  group_fails inside e = let (j, h, fails) = every_fails 16 (λ j. in_order m s (at + j)) e in every-not 98 (in_order m s) (at + j) (omega arith) fails
