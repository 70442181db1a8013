-- What is reached by more and more steps, and how many it takes.
-- Assumes nothing.
use mathlib.Core.Path.{◌≡◌, refl, sym, ◌∙◌, ap, ap₂}
use mathlib.Core.Bool.{Bool, true, false, ◌&&◌, ◌||◌}
use Prim.Native.Nat.{ℕ, zero, suc, ◌+◌, ◌≤◌, ◌<◌}
use native.Mathlib.Nat.{not-suc-le-zero}
use native.Mathlib.Decide.{le_ind}
use native.Mathlib.Numerals.{add-one}
use native.Mathlib.Omega.{arith}
use borrow.Author.Tests.{lt-ltb, eq-eqb, ne_eqb}
use lib.Dec.{ltb}
use Rattle.stripes.specs.Fold.{count, bit}
use Rattle.stripes.proofs.Fold.{count_ext, count_none, count-some, fails_with, lowest_found, lowest-end}
use Rattle.reach.specs.Reached.{some, reached, steps_to}

-- ---- some number below n
-- Equal tests hold of some number alike; a test that always fails holds of none; and one that holds at i < n holds of some.
pub some_ext : (n : ℕ) {t u : ℕ → Bool} → ((i : ℕ) → t i ≡ u i) → some n t ≡ some n u
unfolding some
some_ext n h = ap (λ (k : ℕ). ltb 0 k) (count_ext n (λ i l. h i))

pub some-none : (n : ℕ) {t : ℕ → Bool} → ((i : ℕ) → t i ≡ false) → some n t ≡ false
unfolding some
some-none n h = ap (λ (k : ℕ). ltb 0 k) (count_none n (λ i l. h i))

pub some_at : (n : ℕ) (t : ℕ → Bool) (i : ℕ) → i < n → t i ≡ true → some n t ≡ true
unfolding some
some_at n t i l h = lt-ltb 0 _ (count-some n t i l h)

-- From n numbers to one more.
some-suc : (n : ℕ) (t : ℕ → Bool) → some (suc n) t ≡ (some n t || t n)
unfolding some count bit
some-suc n t = go (count n t) (t n)
  where
    go : (k : ℕ) (b : Bool) → ltb 0 (k + bit b) ≡ (ltb 0 k || b)
    go zero true = refl
    go zero false = refl
    go (suc k) b = lt-ltb 0 (suc k + bit b) (omega arith) ∙ sym (ap (λ (x : Bool). x || b) (lt-ltb 0 (suc k) (omega arith)))

-- One of two tests holds of some number exactly if one of them holds of some number.
pub some_or : (n : ℕ) (t u : ℕ → Bool) → some n (λ i. t i || u i) ≡ (some n t || some n u)
unfolding some count
some_or zero t u = refl
some_or (suc n) t u =
    some-suc n (λ i. t i || u i) ∙ ap (λ (x : Bool). x || (t n || u n)) (some_or n t u) ∙ swap (some n t) (some n u) (t n) (u n)
    ∙ sym (ap₂ (λ (x y : Bool). x || y) (some-suc n t) (some-suc n u))
  where
    swap : (a b c d : Bool) → ((a || b) || (c || d)) ≡ ((a || c) || (b || d))
    swap true b c d = refl
    swap false true true d = refl
    swap false true false d = refl
    swap false false c d = refl

-- ---- more and more steps
module _ (next : ℕ → ℕ → Bool) (n from : ℕ) where
  -- What is reached by fewer steps is reached by more.
  pub reached_more : (i k t : ℕ) → i ≤ k → reached next n from i t ≡ true → reached next n from k t ≡ true
  unfolding reached
  reached_more i k t l h =
      le_ind (λ (m : ℕ). reached next n from m t ≡ true) h
      (λ m w e. ap (λ (x : Bool). x || some n (λ x. reached next n from m x && next x t)) e) k l

  pub unreached : (i k t : ℕ) → i ≤ k → reached next n from k t ≡ false → reached next n from i t ≡ false
  unreached i k t l h = fails_with _ _ (reached_more i k t l) h

  -- Where a step reaches nothing new, no further one does.
  pub reached_still : (k : ℕ) → ((t : ℕ) → reached next n from (suc k) t ≡ reached next n from k t)
      → (m : ℕ) → k ≤ m → (t : ℕ) → reached next n from m t ≡ reached next n from k t
  unfolding reached
  reached_still k still m l =
      le_ind (λ (m : ℕ). (t : ℕ) → reached next n from m t ≡ reached next n from k t) (λ t. refl)
      (λ m w same t. ap₂ (λ (x y : Bool). x || y) (same t) (some_ext n (λ x. ap (λ (b : Bool). b && next x t) (same x))) ∙ still t) m l

  -- The number of steps is the first at which a number is reached, or one more than the limit if it is not reached by then.
  pub steps_found : (limit k t : ℕ) → k < limit → reached next n from k t ≡ false → reached next n from (k + 1) t ≡ true
      → k + 1 ≡ steps_to next n from limit t
  unfolding steps_to
  steps_found limit k t l out found =
      lowest_found (suc limit) (λ i. reached next n from i t) (k + 1) (omega arith) (λ i w. unreached i k t (omega arith) out) found

  pub steps_none : (limit t : ℕ) → reached next n from limit t ≡ false → limit + 1 ≡ steps_to next n from limit t
  unfolding steps_to
  steps_none limit t out =
      add-one limit ∙ lowest-end (suc limit) (λ i. reached next n from i t) (λ i w. unreached i limit t (omega arith) out)

  -- No step is needed to get to the first number, and without one no other is reached.
  pub steps_self : (limit t : ℕ) → from ≡ t → 0 ≡ steps_to next n from limit t
  unfolding steps_to reached
  steps_self limit t e =
      lowest_found (suc limit) (λ i. reached next n from i t) 0 (omega arith) (λ i w. absurd (not-suc-le-zero w)) (eq-eqb t from (sym e))

  pub unreached-other : (t : ℕ) → (from ≡ t → ⊥) → reached next n from 0 t ≡ false
  unfolding reached
  unreached-other t other = ne_eqb t from (λ e. other (sym e))
