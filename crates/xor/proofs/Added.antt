-- Laws of a list with something added to a stretch.
-- Assumes nothing.
use mathlib.Core.Path.{◌≡◌, refl, ◌∙◌, ap, ap₂}
use mathlib.Core.List.{List}
use Prim.Native.Nat.{ℕ, ◌+◌, ◌<◌}
use native.Mathlib.Nat.{le_refl}
use lib.ListN.{length, get_or, set}
use Rattle.stripes.specs.Fold.{◌⊕◌}
use Rattle.zeros.proofs.Stored.{length-stored, get_d_after, stored-none, stored_ext, stored_next}
use Rattle.xor.specs.Strided.{added}

pub added_ext : (l : List ℕ) (at n : ℕ) {f g : ℕ → ℕ} → ((i : ℕ) → i < n → f i ≡ g i) → added l at n f ≡ added l at n g
unfolding added
added_ext l at n h = stored_ext l at n (λ i b. ap (λ (x : ℕ). get_or l (at + i) 0 ⊕ x) (h i b))

module _ (l : List ℕ) (at : ℕ) (f : ℕ → ℕ) where
  pub length-added : (n : ℕ) → length (added l at n f) ≡ length l
  unfolding added
  length-added n = length-stored l at n _

  pub added_none : l ≡ added l at 0 f
  unfolding added
  added_none = stored-none l at _

  pub added_next : (n : ℕ) (r : List ℕ) → r ≡ added l at n f → at + n < length l
      → set r (at + n) (get_or r (at + n) 0 ⊕ f n) ≡ added l at (n + 1) f
  unfolding added
  added_next n r e h =
      ap₂ (λ (k : List ℕ) (x : ℕ). set k (at + n) (x ⊕ f n)) e (ap (λ (k : List ℕ). get_or k (at + n) 0) e ∙ get_d_after l at n _ (at + n) (le_refl (at + n)))
      ∙ stored_next l at n _ _ refl h
