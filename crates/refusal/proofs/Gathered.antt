-- Bytes gathered by their bits: none is above 1 exactly if all of them together are not.
-- Assumes nothing.
use mathlib.Core.Path.{◌≡◌, ◌∙◌, refl, ap}
use mathlib.Core.Bool.{Bool, true, false, ◌&&◌}
use Prim.Native.Nat.{ℕ, ◌+◌, ◌<◌}
use native.Mathlib.Numerals.{add-one}
use native.Mathlib.Omega.{arith}
use borrow.Author.Tests.{le-leb, lt-leb, leb-true, leb-false}
use lib.Bits.{bit_or, or_lt}
use lib.Dec.{leb}
use Rattle.stripes.specs.Fold.{every}
use Rattle.stripes.proofs.Xor.{or_above_left, or_above_right}

or_small : (a b : ℕ) → leb (bit_or a b) 1 ≡ (leb a 1 && leb b 1)
or_small a b = go (leb a 1) refl (leb b 1) refl
  where
    go : (s : Bool) → leb a 1 ≡ s → (t : Bool) → leb b 1 ≡ t → leb (bit_or a b) 1 ≡ (s && t)
    go true e true f =
        let p = leb-true a 1 e in
        let q = leb-true b 1 f in
        let both : bit_or a b < 2 = or_lt 1 a b (omega arith) (omega arith) in
        le-leb (bit_or a b) 1 (omega arith)
    go true e false f = let q = leb-false b 1 f in let h = or_above_right a b in lt-leb (bit_or a b) 1 (omega arith)
    go false e t f = let q = leb-false a 1 e in let h = or_above_left a b in lt-leb (bit_or a b) 1 (omega arith)

-- One byte more is gathered.
pub small-next : (f : ℕ → ℕ) (d any : ℕ) → leb any 1 ≡ every d (λ i. leb (f i) 1) → leb (bit_or any (f d)) 1 ≡ every (d + 1) (λ i. leb (f i) 1)
unfolding every
small-next f d any e = rw add-one (or_small any (f d) ∙ ap (λ (t : Bool). t && leb (f d) 1) e)
