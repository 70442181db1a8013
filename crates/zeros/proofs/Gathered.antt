-- Bytes gathered by an inclusive or are all zero exactly if what was gathered is.
-- Assumes nothing.
use mathlib.Core.Path.{◌≡◌, refl, ◌∙◌, ap, ap₂}
use mathlib.Core.Bool.{Bool, true, false, ◌&&◌}
use Prim.Native.Nat.{ℕ, ◌+◌}
use native.Mathlib.Numerals.{add-one}
use native.Mathlib.Omega.{arith}
use borrow.Author.Tests.{eq-eqb, ne_eqb, eqb-true, eqb-false}
use lib.Dec.{eqb}
use lib.Bits.{bit_or, or_add_and}
use Rattle.stripes.specs.Fold.{every}
use Rattle.stripes.proofs.Xor.{or_above_left, or_above_right}

or_zero : (a b : ℕ) → eqb (bit_or a b) 0 ≡ (eqb a 0 && eqb b 0)
or_zero a b = go (eqb a 0) refl (eqb b 0) refl
  where
    go : (s : Bool) → eqb a 0 ≡ s → (t : Bool) → eqb b 0 ≡ t → eqb (bit_or a b) 0 ≡ (s && t)
    go true e true f = let p = eqb-true a 0 e in let q = eqb-true b 0 f in let h = or_add_and a b in eq-eqb (bit_or a b) 0 (omega arith)
    go true e false f = ne_eqb (bit_or a b) 0 (λ z. eqb-false b 0 f (let h = or_above_right a b in omega arith))
    go false e t f = ne_eqb (bit_or a b) 0 (λ z. eqb-false a 0 e (let h = or_above_left a b in omega arith))

-- One byte more is gathered.
pub zero-next_by : (f : ℕ → ℕ) (i any v : ℕ) → v ≡ f i → eqb any 0 ≡ every i (λ j. eqb (f j) 0) → eqb (bit_or any v) 0 ≡ every (i + 1) (λ j. eqb (f j) 0)
unfolding every
zero-next_by f i any v is e = rw add-one (or_zero any v ∙ ap₂ (λ (t w : Bool). t && w) e (ap (λ (b : ℕ). eqb b 0) is))

pub zero-next : (f : ℕ → ℕ) (i any : ℕ) → eqb any 0 ≡ every i (λ j. eqb (f j) 0) → eqb (bit_or any (f i)) 0 ≡ every (i + 1) (λ j. eqb (f j) 0)
zero-next f i any e = zero-next_by f i any (f i) refl e
