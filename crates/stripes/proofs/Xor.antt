-- The laws of the exclusive or, and that the inclusive or is not below its parts.
-- Assumes nothing.
use mathlib.Core.Path.{◌≡◌, refl, sym, ◌∙◌, ap, ap₂}
use Prim.Native.Nat.{ℕ, zero, suc, ◌+◌, ◌*◌, ◌/◌, ◌%◌, ◌≤◌, ◌<◌}
use native.Mathlib.Nat.{mod-lt}
use native.Mathlib.Omega.{arith}
use lib.Arith.{bin_ind}
use lib.Bits.{bit_or, or_add_and, and_le_l, and_le_r, bit_xor, differ, xor_step, xor_shr, xor_mod, xor_zero_l, xor_zero_r, xor_comm, xor_self, xor_lt}
use Rattle.stripes.specs.Fold.{◌⊕◌}

-- ---- on one binary digit
digit_assoc : (x y z : ℕ) → x < 2 → y < 2 → z < 2 → differ (differ x y) z ≡ differ x (differ y z)
digit_assoc zero y z hx hy hz = refl
digit_assoc (suc zero) zero z hx hy hz = refl
digit_assoc (suc zero) (suc zero) zero hx hy hz = refl
digit_assoc (suc zero) (suc zero) (suc zero) hx hy hz = refl
digit_assoc (suc zero) (suc zero) (suc (suc z)) hx hy hz = omega arith
digit_assoc (suc zero) (suc (suc y)) z hx hy hz = omega arith
digit_assoc (suc (suc x)) y z hx hy hz = omega arith

-- ---- associativity, by halves
assoc : (a b c : ℕ) → bit_xor (bit_xor a b) c ≡ bit_xor a (bit_xor b c)
assoc =
    bin_ind (λ (a : ℕ). (b c : ℕ) → bit_xor (bit_xor a b) c ≡ bit_xor a (bit_xor b c)) (λ b c. refl)
    (λ a ih b c.
    xor_step (bit_xor a b) c
    ∙ ap₂ (λ (h d : ℕ). bit_xor h (c / 2) * 2 + differ d (c % 2)) (xor_shr a b 1) (xor_mod a b 1 ∙ low (a % 2) (b % 2) (mod-lt a (omega arith)) (mod-lt b (omega arith)))
    ∙ ap₂ (λ (h d : ℕ). h * 2 + d) (ih (b / 2) (c / 2)) (digit_assoc (a % 2) (b % 2) (c % 2) (mod-lt a (omega arith)) (mod-lt b (omega arith)) (mod-lt c (omega arith)))
    ∙ ap₂ (λ (h d : ℕ). bit_xor (a / 2) h * 2 + differ (a % 2) d) (sym (xor_shr b c 1)) (sym (xor_mod b c 1 ∙ low (b % 2) (c % 2) (mod-lt b (omega arith)) (mod-lt c (omega arith))))
    ∙ sym (xor_step a (bit_xor b c)))
  where
    low : (x y : ℕ) → x < 2 → y < 2 → bit_xor x y ≡ differ x y
    low zero y hx hy = refl
    low (suc zero) zero hx hy = refl
    low (suc zero) (suc zero) hx hy = refl
    low (suc zero) (suc (suc y)) hx hy = omega arith
    low (suc (suc x)) y hx hy = omega arith

pub ⊕_assoc : (a b c : ℕ) → a ⊕ b ⊕ c ≡ a ⊕ (b ⊕ c)
unfolding ◌⊕◌
⊕_assoc a b c = assoc a b c

pub ⊕_comm : (a b : ℕ) → a ⊕ b ≡ b ⊕ a
unfolding ◌⊕◌
⊕_comm a b = xor_comm a b

pub ⊕_self : (a : ℕ) → a ⊕ a ≡ 0
unfolding ◌⊕◌
⊕_self a = xor_self a

pub ⊕-zero : (a : ℕ) → a ⊕ 0 ≡ a
unfolding ◌⊕◌
⊕-zero a = xor_zero_r a

pub zero-⊕ : (a : ℕ) → 0 ⊕ a ≡ a
unfolding ◌⊕◌
zero-⊕ a = xor_zero_l a

pub ⊕-byte : {a b : ℕ} → a < 256 → b < 256 → a ⊕ b < 256
unfolding ◌⊕◌
⊕-byte {a} {b} ha hb = xor_lt 8 a b ha hb

-- ---- what follows from these
pub ⊕_cancel : (a b : ℕ) → a ⊕ (a ⊕ b) ≡ b
⊕_cancel a b = sym (⊕_assoc a a b) ∙ ap (λ (x : ℕ). x ⊕ b) (⊕_self a) ∙ zero-⊕ b

pub ⊕_swap : (a b c : ℕ) → a ⊕ (b ⊕ c) ≡ b ⊕ (a ⊕ c)
⊕_swap a b c = sym (⊕_assoc a b c) ∙ ap (λ (x : ℕ). x ⊕ c) (⊕_comm a b) ∙ ⊕_assoc b a c

pub ⊕_swap4 : (a b c d : ℕ) → a ⊕ b ⊕ (c ⊕ d) ≡ a ⊕ c ⊕ (b ⊕ d)
⊕_swap4 a b c d = ⊕_assoc a b (c ⊕ d) ∙ ap (λ (x : ℕ). a ⊕ x) (⊕_swap b c d) ∙ sym (⊕_assoc a c (b ⊕ d))

-- A sum is zero exactly if its two parts are equal.
pub equal_of_zero : (a b : ℕ) → a ⊕ b ≡ 0 → a ≡ b
equal_of_zero a b e = sym (⊕-zero a) ∙ ap (λ (x : ℕ). a ⊕ x) (sym e) ∙ ⊕_cancel a b

pub zero_of_equal : (a b : ℕ) → a ≡ b → a ⊕ b ≡ 0
zero_of_equal a b e = ap (λ (x : ℕ). x ⊕ b) e ∙ ⊕_self b

-- ---- the inclusive or
pub or_above_left : (a b : ℕ) → a ≤ bit_or a b
or_above_left a b = let sum = or_add_and a b in let both = and_le_r a b in omega arith

pub or_above_right : (a b : ℕ) → b ≤ bit_or a b
or_above_right a b = let sum = or_add_and a b in let both = and_le_l a b in omega arith
