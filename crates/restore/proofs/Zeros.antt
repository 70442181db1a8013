-- Zeros in the erased sectors, stored in one sector after the other. A sector is a disk by itself.
-- Assumes nothing.
use mathlib.Core.Path.{◌≡◌, refl, sym, ◌∙◌, ap}
use mathlib.Core.Bool.{Bool, true, false, cond, not, ◌&&◌}
use mathlib.Core.Logic.{⊎_elim}
use mathlib.Core.List.{List}
use Prim.Native.Nat.{ℕ, ◌+◌, ◌*◌, ◌<◌}
use native.Mathlib.Nat.{add-zero}
use native.Mathlib.Omega.{arith}
use borrow.Author.Tests.{lt-ltb, le-ltb, eqb-true, eqb-false}
use lib.Dec.{eqb}
use lib.ListN.{length}
use Rattle.stripes.specs.Fold.{gate}
use Rattle.stripes.specs.System.{whole, byte, changed}
use Rattle.stripes.specs.Erased.{below}
use Rattle.stripes.specs.Repair.{zeroed}
use Rattle.stripes.specs.declared.Stretch.{Stretch}
use Rattle.stripes.proofs.Fold.{lt_or_le, by_cases}
use Rattle.stripes.proofs.Bytes.{whole-inside, length-changed, byte-changed, changed-again, changed_ext, changed_self}
use Rattle.zeros.specs.Stored.{stored}
use Rattle.sums.proofs.Blocks.{stored_stretch}

pub length-zeroed : (x : Stretch) (a : List ℕ) (e : ℕ → Bool) → length (zeroed x a e) ≡ length a
unfolding zeroed
length-zeroed x a e = length-changed x a _

-- The test of one sector more.
module _ (e : ℕ → Bool) (k d : ℕ) where
  below_other : (d ≡ k → ⊥) → below (k + 1) e d ≡ below k e d
  unfolding below
  below_other other =
      ⊎_elim (λ h. simp (lt-ltb d k h, lt-ltb d (k + 1) (omega arith)))
      (λ h. simp (le-ltb d k h, le-ltb d (k + 1) (omega arith))) (lt_or_le d k)

  before-own : d ≡ k → below k e d ≡ false
  unfolding below
  before-own own = simp (le-ltb d k (omega arith))

  below-own : d ≡ k → below (k + 1) e d ≡ e k
  unfolding below
  below-own own = simp (own, lt-ltb k (k + 1) (omega arith))

module _ (w n : ℕ) (a : List ℕ) (sized : length a ≡ n * w) (e : ℕ → Bool) where
  zeroed-ext : (f g : ℕ → Bool) → ((d : ℕ) → d < n → f d ≡ g d) → zeroed (whole w) a f ≡ zeroed (whole w) a g
  unfolding zeroed whole
  zeroed-ext f g h =
      changed_ext (whole w) (whole-inside w) n a sized _ _ (λ d p l k. ap (λ (t : Bool). gate (not t) (byte (whole w) a d p)) (h d l))

  -- Below sector 0 there is none, and below the last all of them are.
  pub zeroed-none : a ≡ zeroed (whole w) a (below 0 e)
  unfolding zeroed below gate whole
  zeroed-none = changed_self (whole w) (whole-inside w) n a sized _ (λ d p l k. simp (le-ltb d 0 (omega arith)))

  pub zeroed_all : zeroed (whole w) a (below n e) ≡ zeroed (whole w) a e
  unfolding below
  zeroed_all = zeroed-ext (below n e) e (λ d l. ap (λ (t : Bool). t && e d) (lt-ltb d n l))

  -- One sector more, which is present or erased.
  module _ (k : ℕ) (l : k < n) (b : List ℕ) (so_far : b ≡ zeroed (whole w) a (below k e)) where
    pub zeroed-present : e k ≡ false → b ≡ zeroed (whole w) a (below (k + 1) e)
    zeroed-present present =
        so_far
        ∙ zeroed-ext (below k e) (below (k + 1) e)
        (λ d h.
        by_cases (λ (t : Bool). below k e d ≡ below (k + 1) e d) (eqb d k)
        (λ q. let own = eqb-true d k q in before-own e k d own ∙ sym (below-own e k d own ∙ present))
        (λ q. sym (below_other e k d (eqb-false d k q))))

    pub zeroed-erased : e k ≡ true → stored b (k * w) w (λ i. 0) ≡ zeroed (whole w) a (below (k + 1) e)
    unfolding zeroed gate whole
    zeroed-erased erased =
        let long : length b ≡ n * w = ap length so_far ∙ length-zeroed (whole w) a (below k e) ∙ sized in
        ap (λ (at : ℕ). stored b at w (λ i. 0)) (sym (add-zero (k * w)))
        ∙ stored_stretch (whole w) (whole-inside w) n b long k l (λ i. 0)
        ∙ ap (λ (v : List ℕ). changed (whole w) v (λ d p. cond (eqb d k) 0 (byte (whole w) v d p))) so_far
        ∙ changed-again (whole w) (whole-inside w) n a sized _ _ _
        (λ d p m h.
        ap (cond (eqb d k) 0) (byte-changed (whole w) (whole-inside w) n a sized _ d p m h)
        ∙ by_cases
        (λ (t : Bool).
        eqb d k ≡ t → cond t 0 (gate (not (below k e d)) (byte (whole w) a d p)) ≡ gate (not (below (k + 1) e d)) (byte (whole w) a d p))
        (eqb d k) (λ q v. simp (below-own e k d (eqb-true d k v), erased))
        (λ q v. simp (below_other e k d (eqb-false d k v))) refl)
