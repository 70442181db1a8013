-- `bridges::members` meets its contract: a set has as many stripes as its word has digits that are 1.
-- Assumes nothing.
use Rattle.std.proofs.Common.{◌≡◌, refl, sym, ◌∙◌, ap, ap₂, Bool, true, false, ℕ, zero, suc, ◌+◌, ◌/◌, ◌%◌, ◌^◌, ◌<◌, eqb, arith}
use Rattle.std.proofs.lemmas.Nat.Bits.{bit_at-suc}
use native.Mathlib.Nat.{div-one, mod-lt}
use borrow.Author.Tests.{eqb-true, eqb-false}
use lib.Count.{ones, ones_step}
use lib.Pow.{shr_lt}
use Rattle.stripes.specs.Fold.{bit, count}
use Rattle.stripes.proofs.Fold.{count_ext, count-first}
use Rattle.reach.specs.Reached.{has, word_stripes}
use Rattle.bridges.proofs.members.Goals as goal

-- The lowest digit, and the others as those of the half.
lowest : (n : ℕ) → n % 2 ≡ bit (has n 0)
unfolding has bit
lowest n = ap (λ (x : ℕ). x % 2) (sym (div-one n)) ∙ go (eqb (n / 2 ^ 0 % 2) 1) refl
  where
    go : (b : Bool) → eqb (n / 2 ^ 0 % 2) 1 ≡ b → n / 2 ^ 0 % 2 ≡ bit b
    go true e = eqb-true _ _ e
    go false e = let few : n / 2 ^ 0 % 2 < 2 = mod-lt (n / 2 ^ 0) (omega arith) in let other = eqb-false (n / 2 ^ 0 % 2) 1 e in omega arith

half : (n i : ℕ) → has (n / 2) i ≡ has n (suc i)
unfolding has
half n i = ap (λ (x : ℕ). eqb x 1) (sym (bit_at-suc n i))

-- So they are counted alike.
ones_are : (k n : ℕ) → n < 2 ^ k → ones n ≡ count k (has n)
unfolding count ones
ones_are zero n l = let none : n ≡ 0 = omega arith in ap ones none
ones_are (suc k) n l =
    let next : suc k ≡ k + 1 = omega arith in
    let less : n / 2 < 2 ^ k = shr_lt k 1 (rw next at l) in
    ones_step n ∙ ap₂ (λ (x y : ℕ). x + y) (lowest n) (ones_are k (n / 2) less ∙ count_ext k (λ i w. half n i))
    ∙ sym (count-first k (has n))

pub returns : goal.returns
returns c = ones_are word_stripes c.args.set c.ranges.set.fits
