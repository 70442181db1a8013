-- The laws of sums over a stripe, and of the tests that they are zero.
-- Assumes nothing.
use mathlib.Core.Path.{◌≡◌, refl, ◌∙◌, ap, ap₂}
use mathlib.Core.Bool.{Bool, true, false, not}
use mathlib.Core.List.{List}
use Prim.Native.Nat.{ℕ, ◌<◌}
use borrow.Author.Tests.{eq-eqb, ne_eqb, eqb-true, eqb-false}
use lib.Dec.{eqb}
use Rattle.stripes.specs.Fold.{◌⊕◌, xsum, gate}
use Rattle.stripes.specs.System.{Layout, sum_over, stripe_sum, sums_to_zero, on, consistent}
use Rattle.stripes.specs.declared.Stretch.{Stretch}
use Rattle.stripes.proofs.Fold.{xsum_ext, xsum-⊕, xsum_swap, xsum-only, gate-⊕, gate-xsum, every_at, every_all, every-not, every_fails, gate_split, gate-zero}
use mathlib.Core.Logic.{◌↔◌}

-- Sums over a stripe: of equal functions, of an exclusive or, and of sums.
pub sum_over_ext : (L : Layout) {f g : ℕ → ℕ} → ((d : ℕ) → d < L.disks → f d ≡ g d) → (s : ℕ) → sum_over L f s ≡ sum_over L g s
unfolding sum_over
sum_over_ext L h s = xsum_ext L.disks (λ d l. ap (gate _) (h d l))

pub sum_over-⊕ : (L : Layout) (f g : ℕ → ℕ) (s : ℕ) → sum_over L (λ d. f d ⊕ g d) s ≡ sum_over L f s ⊕ sum_over L g s
unfolding sum_over
sum_over-⊕ L f g s = xsum_ext L.disks (λ d l. gate-⊕ _ (f d) (g d)) ∙ xsum-⊕ L.disks _ _

pub sum_over-xsum : (L : Layout) (n : ℕ) (f : ℕ → ℕ → ℕ) (s : ℕ) → sum_over L (λ d. xsum n (λ i. f i d)) s ≡ xsum n (λ i. sum_over L (f i) s)
unfolding sum_over
sum_over-xsum L n f s =
    xsum_ext L.disks (λ d l. gate-xsum (on L d s) n (λ i. f i d)) ∙ xsum_swap L.disks n (λ d i. gate (on L d s) (f i d))

-- The sum over a stripe is that of the others and what the disk itself has.
module _ (L : Layout) (f : ℕ → ℕ) (d s : ℕ) (below : d < L.disks) (there : on L d s ≡ true) where
  own : sum_over L (λ i. gate (eqb i d) (f i)) s ≡ f d
  unfolding sum_over gate
  own =
      xsum-only L.disks d below (λ i w q. ap (λ (b : Bool). gate (on L i s) (gate b (f i))) (ne_eqb i d q) ∙ gate-zero (on L i s))
      ∙ ap₂ (λ (b c : Bool). gate b (gate c (f d))) there (eq-eqb d d refl)

  pub others_and_own : sum_over L f s ≡ sum_over L (λ i. gate (not (eqb i d)) (f i)) s ⊕ f d
  others_and_own =
      sum_over_ext L (λ i l. gate_split (eqb i d) (f i)) s ∙ sum_over-⊕ L _ _ s
      ∙ ap (λ (v : ℕ). sum_over L (λ i. gate (not (eqb i d)) (f i)) s ⊕ v) own

-- The test of a stripe holds where its sum is zero at every place, and fails where it is not at some place.
module _ (L : Layout) (x : Stretch) (a : List ℕ) (s : ℕ) where
  pub sums_of_zero : sums_to_zero L x a s ≡ true → (p : ℕ) → p < x.width → stripe_sum L x a s p ≡ 0
  unfolding sums_to_zero
  sums_of_zero e p h = eqb-true (stripe_sum L x a s p) 0 (every_at x.width _ e p h)

  pub zero_of_sums : ((p : ℕ) → p < x.width → stripe_sum L x a s p ≡ 0) → sums_to_zero L x a s ≡ true
  unfolding sums_to_zero
  zero_of_sums h = every_all x.width (λ p l. eq-eqb (stripe_sum L x a s p) 0 (h p l))

  pub place_of_nonzero : sums_to_zero L x a s ≡ false → (p : ℕ) × (p < x.width) × (stripe_sum L x a s p ≡ 0 → ⊥)
  unfolding sums_to_zero
  place_of_nonzero e =
      let (p, h, q) = every_fails x.width _ e in
      (p, h, eqb-false (stripe_sum L x a s p) 0 q)

  pub nonzero_of_place : (p : ℕ) → p < x.width → (stripe_sum L x a s p ≡ 0 → ⊥) → sums_to_zero L x a s ≡ false
  unfolding sums_to_zero
  nonzero_of_place p h q = every-not x.width _ p h (ne_eqb _ 0 q)

-- The test of all stripes holds exactly if every sum is zero.
pub consistent_iff : (L : Layout) (x : Stretch) (a : List ℕ)
    → (consistent L x a ≡ true) ↔ ((s : ℕ) → s < L.stripe_bound → (p : ℕ) → p < x.width → stripe_sum L x a s p ≡ 0)
unfolding consistent
consistent_iff L x a = (
  λ e s l. sums_of_zero L x a s (every_at L.stripe_bound _ e s l),
  λ h. every_all L.stripe_bound (λ s l. zero_of_sums L x a s (h s l)),
)
