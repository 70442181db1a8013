-- The binary digits of numbers that stand for sets.
-- Assumes nothing.
use mathlib.Core.Path.{◌≡◌, refl, sym, ◌∙◌, ap, ap₂}
use mathlib.Core.Bool.{Bool, true, false}
use Prim.Native.Nat.{ℕ, zero, suc, ◌+◌, ◌*◌, ◌/◌, ◌%◌, ◌^◌, ◌≤◌, ◌<◌, zero-le}
use native.Mathlib.Nat.{mod-lt, div-one, one-mul, div-eq_of_lt, div-add-mod', max-eq_left}
use native.Mathlib.Numerals.{one-add}
use native.Mathlib.Omega.{arith}
use borrow.Author.Tests.{eq-eqb, ne_eqb, eqb-true, eqb-false}
use lib.Arith.{bin_ind}
use lib.Bits.{bit_or, or_zero_r, or_step, or_shr, or_mod, xor_shr, xor_mod, shifted_half, shifted_even}
use lib.Dec.{eqb, eqb-suc-suc}
use lib.Pow.{pow-lt, shr-shr}
use Rattle.stripes.specs.Fold.{◌⊕◌, bit}
use Rattle.stripes.proofs.Xor.{⊕_self, or_above_left, or_above_right}
use Rattle.stripes.proofs.Fold.{by_cases}

-- 1 if t is in the set, else 0.
abbrev pub digit : (set t : ℕ) → ℕ
digit set t = set / 2 ^ t % 2

pub digit-⊕ : (a b t : ℕ) → digit (a ⊕ b) t ≡ digit a t ⊕ digit b t
unfolding ◌⊕◌
digit-⊕ a b t = ap (λ (x : ℕ). x % 2) (xor_shr a b t) ∙ xor_mod (a / 2 ^ t) (b / 2 ^ t) 1

pub digit-none : (t : ℕ) → digit 0 t ≡ 0
digit-none t = ap (λ (x : ℕ). digit x t) (sym (⊕_self 0)) ∙ digit-⊕ 0 0 t ∙ ⊕_self (digit 0 t)

digit_half : (a t : ℕ) → digit a (suc t) ≡ digit (a / 2) t
digit_half a t = rw (← one-add t) (ap (λ (x : ℕ). x % 2) (sym (shr-shr a 1 t)))

-- A power of two stands for one number.
pub digit-one : (b t : ℕ) → digit (2 ^ b) t ≡ bit (eqb t b)
unfolding bit
digit-one zero zero = refl
digit-one zero (suc t) = ap (λ (x : ℕ). x % 2) (div-eq_of_lt (pow-lt {i = 0} {j = suc t} (omega arith))) ∙ ap bit (sym (ne_eqb (suc t) 0 (λ q. omega arith)))
digit-one (suc b) zero = ap (λ (x : ℕ). x % 2) (div-one (2 ^ suc b) ∙ sym (one-mul (2 ^ suc b))) ∙ shifted_even 1 b ∙ ap bit (sym (ne_eqb 0 (suc b) (λ q. omega arith)))
digit-one (suc b) (suc t) = digit_half (2 ^ suc b) t ∙ ap (λ (x : ℕ). digit x t) (ap (λ (x : ℕ). x / 2) (sym (one-mul (2 ^ suc b))) ∙ shifted_half 1 b ∙ one-mul (2 ^ b)) ∙ digit-one b t ∙ ap bit (sym (eqb-suc-suc t b))

-- What is in one of two sets is in both together,
pub digit_or : (a b t : ℕ) → digit (bit_or a b) t ≡ bit_or (digit a t) (digit b t)
digit_or a b t = ap (λ (x : ℕ). x % 2) (or_shr a b t) ∙ or_mod (a / 2 ^ t) (b / 2 ^ t) 1

pub in_left : (a b t : ℕ) → digit a t ≤ digit (bit_or a b) t
in_left a b t = rw (digit_or a b t) (or_above_left (digit a t) (digit b t))

pub in_right : (a b t : ℕ) → digit b t ≤ digit (bit_or a b) t
in_right a b t = rw (digit_or a b t) (or_above_right (digit a t) (digit b t))

-- and a set that is in another adds nothing to it.
pub or_within : (b a : ℕ) → ((t : ℕ) → digit b t ≤ digit a t) → bit_or a b ≡ a
or_within =
    bin_ind (λ (b : ℕ). (a : ℕ) → ((t : ℕ) → digit b t ≤ digit a t) → bit_or a b ≡ a) (λ a less. or_zero_r a)
    (λ b ih a less.
    let last : b % 2 ≤ a % 2 = let first = less 0 in omega arith in
    or_step a b
    ∙ ap₂ (λ (x y : ℕ). x * 2 + y) (ih (a / 2) (λ t. rw (digit_half b t, digit_half a t) at (less (suc t)))) (max-eq_left last)
    ∙ div-add-mod' a 2)

-- So one number adds nothing exactly if it is in the set.
pub one-within : (a n : ℕ) → eqb (bit_or a (2 ^ n)) a ≡ eqb (digit a n) 1
unfolding bit
one-within a n =
    by_cases (λ (b : Bool). eqb (digit a n) 1 ≡ b → eqb (bit_or a (2 ^ n)) a ≡ b) (eqb (digit a n) 1)
    (λ _ q. eq-eqb _ _ (or_within (2 ^ n) a (λ t. rw (digit-one n t) (in-set t q))))
    (λ _ q. ne_eqb _ _ (λ same. eqb-false (digit a n) 1 q (full same))) refl
  where
    in-set : (t : ℕ) → eqb (digit a n) 1 ≡ true → bit (eqb t n) ≤ digit a t
    in-set t q =
        by_cases (λ (b : Bool). eqb t n ≡ b → bit b ≤ digit a t) (eqb t n)
        (λ _ w. rw (eqb-true t n w) (let one = eqb-true (digit a n) 1 q in omega arith)) (λ _ w. zero-le) refl

    full : bit_or a (2 ^ n) ≡ a → digit a n ≡ 1
    full same =
        let self : digit (2 ^ n) n ≡ 1 = digit-one n n ∙ ap bit (eq-eqb n n refl) in
        let more : digit (2 ^ n) n ≤ digit a n = rw same at (in_right a (2 ^ n) n) in
        let few : digit a n < 2 = mod-lt (a / 2 ^ n) (omega arith) in
        omega arith
