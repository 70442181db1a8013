-- Words that stand for sets: the stripes of a word that the code computes, and a word taken apart from its lowest stripe on.
-- Assumes nothing.
use mathlib.Core.Path.{◌≡◌, refl, sym, ◌∙◌, ap, ap₂}
use mathlib.Core.Bool.{Bool, true, false, cond, not, ◌&&◌, ◌||◌}
use mathlib.Core.Logic.{⊎_elim}
use Prim.Native.Nat.{ℕ, zero, suc, ◌+◌, ◌*◌, ◌-◌, ◌/◌, ◌%◌, ◌^◌, ◌<◌}
use native.Mathlib.Nat.{div-eq_of_lt, mod-lt, mod_self, mul_assoc, suc-mul, pow-suc, pow-succ', add-zero, zero-mul, zero-add}
use native.Mathlib.Omega.{arith}
use borrow.Author.Tests.{eqb-true, eqb-false, eq-eqb}
use lib.Bits.{bit_and, bit_or, bit_xor, and_le_r, and_self, and_mask, and_block, and_shr, and_mod, xor_self, xor_block, xor_zero_r}
use lib.Count.{count_trailing_zeros, under}
use lib.Dec.{eqb}
use lib.Pow.{pow_pos, pow_mono, pow-lt, shl-shr}
use Rattle.stripes.specs.Fold.{◌⊕◌, bit}
use Rattle.stripes.proofs.Fold.{lt_or_le}
use Rattle.stripes.proofs.Digits.{digit, digit-none, digit-one, digit_or, digit-⊕}
use Rattle.reach.specs.Reached.{has}
pub use Rattle.reach.specs.Members.{Without}

-- ---- digits and tests
-- A digit is 1 for a stripe that the set has, else 0.
digit-has : (set t : ℕ) → digit set t ≡ bit (has set t)
unfolding has bit
digit-has set t = go (eqb (digit set t) 1) refl
  where
    go : (b : Bool) → eqb (digit set t) 1 ≡ b → digit set t ≡ bit b
    go true e = eqb-true _ _ e
    go false e = let few : digit set t < 2 = mod-lt (set / 2 ^ t) (omega arith) in let other = eqb-false (digit set t) 1 e in omega arith

bit_is : (b : Bool) → eqb (bit b) 1 ≡ b
unfolding bit
bit_is true = refl
bit_is false = refl

-- So a test of a set's stripes follows from its digits.
has_by : (set t : ℕ) (b : Bool) → digit set t ≡ bit b → has set t ≡ b
unfolding has
has_by set t b e = ap (λ (x : ℕ). eqb x 1) e ∙ bit_is b

-- ---- the empty set, a set of one stripe, two sets together, and what two sets share
pub has-none : (t : ℕ) → has 0 t ≡ false
unfolding bit
has-none t = has_by 0 t false (digit-none t)

pub has_one : (s t : ℕ) → has (2 ^ s) t ≡ eqb t s
has_one s t = has_by (2 ^ s) t (eqb t s) (digit-one s t)

pub has_or : (a b t : ℕ) → has (bit_or a b) t ≡ (has a t || has b t)
unfolding bit
has_or a b t = has_by (bit_or a b) t _ (digit_or a b t ∙ ap₂ bit_or (digit-has a t) (digit-has b t) ∙ both (has a t) (has b t))
  where
    both : (x y : Bool) → bit_or (bit x) (bit y) ≡ bit (x || y)
    both true true = refl
    both true false = refl
    both false true = refl
    both false false = refl

pub has_and : (a b t : ℕ) → has (bit_and a b) t ≡ (has a t && has b t)
unfolding bit
has_and a b t =
    has_by (bit_and a b) t _
    (ap (λ (x : ℕ). x % 2) (and_shr a b t) ∙ and_mod (a / 2 ^ t) (b / 2 ^ t) 1 ∙ ap₂ bit_and (digit-has a t) (digit-has b t)
    ∙ both (has a t) (has b t))
  where
    both : (x y : Bool) → bit_and (bit x) (bit y) ≡ bit (x && y)
    both true true = refl
    both true false = refl
    both false true = refl
    both false false = refl

pub has_xor : (a b t : ℕ) → has (bit_xor a b) t ≡ cond (has a t) (not (has b t)) (has b t)
unfolding ◌⊕◌ bit
has_xor a b t = has_by (bit_xor a b) t _ (digit-⊕ a b t ∙ ap₂ bit_xor (digit-has a t) (digit-has b t) ∙ one (has a t) (has b t))
  where
    one : (x y : Bool) → bit_xor (bit x) (bit y) ≡ bit (cond x (not y) y)
    one true true = refl
    one true false = refl
    one false true = refl
    one false false = refl

-- The stripes of one set that are not in another.
pub has-without : (a b t : ℕ) → has (bit_xor (bit_or a b) b) t ≡ (has a t && not (has b t))
has-without a b t = has_xor (bit_or a b) b t ∙ ap (λ (x : Bool). cond x (not (has b t)) (has b t)) (has_or a b t) ∙ only (has a t) (has b t)
  where
    only : (x y : Bool) → cond (x || y) (not y) y ≡ (x && not y)
    only true y = refl
    only false true = refl
    only false false = refl

-- A word has room for no more stripes than it has digits.
pub has_room : (set t : ℕ) → set < 2 ^ 64 → has set t ≡ true → t < 64
unfolding has
has_room set t fits h =
    ⊎_elim (λ l. l)
    (λ le.
    let wide = pow_mono {i = 64} {j = t} le in
    let none : set / 2 ^ t ≡ 0 = div-eq_of_lt (omega arith) in
    let digit = eqb-true (set / 2 ^ t % 2) 1 h in
    absurd (omega arith))
    (lt_or_le t 64)

-- ---- the lowest stripe of a set
-- One of a number's w digits is its lowest that is 1: below it are zeros, and above it is whatever there is.
abbrev LowestAt : (w set s : ℕ) → Type 0
LowestAt w set s = (q : ℕ) × (set ≡ q * 2 ^ suc s + 2 ^ s) × (s < w)

lowest-form : (w set : ℕ) → (set ≡ 0 → ⊥) → set < 2 ^ w → LowestAt w set (count_trailing_zeros w set)
unfolding count_trailing_zeros
lowest-form zero set some small = absurd (some (omega arith))
lowest-form (suc w) set some small = go (set % 2) refl (lowest-form w (set / 2))
  where
    go : (r : ℕ) → set % 2 ≡ r → ((set / 2 ≡ 0 → ⊥) → set / 2 < 2 ^ w → LowestAt w (set / 2) (count_trailing_zeros w (set / 2)))
        → LowestAt (suc w) set (under r (count_trailing_zeros w (set / 2)))
    go zero e up =
        let s = count_trailing_zeros w (set / 2) in
        let (q, form, l) = up (λ z. some (omega arith)) (let p = pow-suc 2 w in omega arith) in
        let above : q * 2 ^ suc (suc s) ≡ q * 2 ^ suc s * 2 = rw (pow-suc 2 (suc s), mul_assoc) in
        let low = pow-suc 2 s in
        (q, omega arith, omega arith)
    go (suc r) e up = (set / 2, omega arith, omega arith)

module _ (q s : ℕ) where
  -- Such a word without its lowest digit,
  clear-lowest : bit_and (q * 2 ^ suc s + 2 ^ s) (q * 2 ^ suc s + 2 ^ s - 1) ≡ q * 2 ^ suc s
  clear-lowest =
      let pos = pow_pos s in
      let below = pow-lt {i = s} {j = suc s} (omega arith) in
      let less : q * 2 ^ suc s + 2 ^ s - 1 ≡ q * 2 ^ suc s + (2 ^ s - 1) = omega arith in
      ap (λ (x : ℕ). bit_and (q * 2 ^ suc s + 2 ^ s) x) less ∙ and_block (suc s) q q (2 ^ s) (2 ^ s - 1) below (omega arith)
      ∙ ap₂ (λ (x y : ℕ). x * 2 ^ suc s + y) (and_self q) (and_mask (2 ^ s) s ∙ mod_self (2 ^ s)) ∙ add-zero _

  -- which an exclusive or takes away too,
  xor-lowest : bit_xor (q * 2 ^ suc s + 2 ^ s) (2 ^ s) ≡ q * 2 ^ suc s
  xor-lowest =
      let below = pow-lt {i = s} {j = suc s} (omega arith) in
      ap (λ (x : ℕ). bit_xor (q * 2 ^ suc s + 2 ^ s) x) (sym (ap (λ (x : ℕ). x + 2 ^ s) (zero-mul (2 ^ suc s)) ∙ zero-add (2 ^ s)))
      ∙ xor_block (suc s) q 0 (2 ^ s) (2 ^ s) below below
      ∙ ap₂ (λ (x y : ℕ). x * 2 ^ suc s + y) (xor_zero_r q) (xor_self (2 ^ s)) ∙ add-zero _

  -- and which stands for a stripe of the set.
  has-lowest : has (q * 2 ^ suc s + 2 ^ s) s ≡ true
  unfolding has
  has-lowest =
      let form : q * 2 ^ suc s + 2 ^ s ≡ suc (q * 2) * 2 ^ s = rw (suc-mul, mul_assoc, pow-succ') in
      eq-eqb _ _ (ap (λ (x : ℕ). x / 2 ^ s % 2) form ∙ ap (λ (x : ℕ). x % 2) (shl-shr (suc (q * 2)) s) ∙ omega arith)

-- The code takes the lowest stripe out of a set that is not empty.
pub lowest_out : (set : ℕ) → (set ≡ 0 → ⊥) → set < 2 ^ 64 → Without set (count_trailing_zeros 64 set) (bit_and set (set - 1))
lowest_out set some fits =
    let s = count_trailing_zeros 64 set in
    let (q, form, small) = lowest-form 64 set some fits in
    let rest : bit_and set (set - 1) ≡ bit_xor set (2 ^ s) =
    ap (λ (x : ℕ). bit_and x (x - 1)) form ∙ clear-lowest q s ∙ sym (ap (λ (x : ℕ). bit_xor x (2 ^ s)) form ∙ xor-lowest q s) in
    let member : has set s ≡ true = ap (λ (x : ℕ). has x s) form ∙ has-lowest q s in
    record {
      small = small;
      member = member;
      others = λ t.
          ap (λ (x : ℕ). has x t) rest ∙ has_xor set (2 ^ s) t ∙ ap (λ (x : Bool). cond (has set t) (not x) x) (has_one s t)
          ∙ out (has set t) (eqb t s) (λ e. ap (λ (x : ℕ). has set x) (eqb-true t s e) ∙ member);
      less = let le = and_le_r set (set - 1) in omega arith;
    }
  where
    out : (x y : Bool) → (y ≡ true → x ≡ true) → cond x (not y) y ≡ (x && not y)
    out true y h = refl
    out false true h = sym (h refl)
    out false false h = refl
