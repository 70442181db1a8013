-- Two stripes that a disk of a set lies on: found, and shown.
-- Assumes nothing.
use mathlib.Core.Path.{◌≡◌, refl, ◌∙◌, ap}
use mathlib.Core.Bool.{Bool, true, false, ◌&&◌, ◌||◌, or-true}
use mathlib.Core.Logic.{◌⊎◌, inl, inr, ⊎_elim}
use Prim.Native.Nat.{ℕ, ◌<◌}
use native.Mathlib.Omega.{arith}
use borrow.Author.Tests.{ltb-true, lt-ltb, eq-eqb, eqb-true}
use lib.Dec.{eqb}
use Rattle.stripes.specs.Fold.{count}
use Rattle.stripes.specs.System.{Layout, TwoStripes, on, other_than}
use Rattle.stripes.proofs.Fold.{and_left, and_right, and_both, count-some, count_found}
use Rattle.stripes.proofs.Degree.{other-first, other_second, on-low, on-high, on_which, on-bound}
use Rattle.reach.specs.Reached.{some}
use Rattle.neighbours.specs.Near.{meets, Met}

-- ---- tests

-- One of two tests holds.
pub or_which : (a b : Bool) → (a || b) ≡ true → (a ≡ true) ⊎ (b ≡ true)
or_which true b h = inl refl
or_which false b h = inr h

pub or_first : (a b : Bool) → a ≡ true → (a || b) ≡ true
or_first a b h = ap (λ (x : Bool). x || b) h

pub or_second : (a b : Bool) → b ≡ true → (a || b) ≡ true
or_second a b h = ap (λ (x : Bool). a || x) h ∙ or-true a

-- A test that holds of some number.
pub some_found : (n : ℕ) (t : ℕ → Bool) → some n t ≡ true → (i : ℕ) × (i < n) × (t i ≡ true)
unfolding some
some_found n t h = count_found n t (ltb-true 0 (count n t) h)

pub some_of : (n : ℕ) (t : ℕ → Bool) (i : ℕ) → i < n → t i ≡ true → some n t ≡ true
unfolding some
some_of n t i l h = lt-ltb 0 (count n t) (count-some n t i l h)

-- ---- a disk and its two stripes
module _ (L : Layout) (two : TwoStripes L) (d : ℕ) (inside : d < L.disks) (t : ℕ) (there : on L d t ≡ true) where
  apart : two.high d ≡ two.low d → ⊥
  apart e = let h = two.order d inside in omega arith

  -- A disk lies on the other of its stripes as well,
  pub on-other : on L d (other_than t (L.through d)) ≡ true
  on-other =
      ⊎_elim
      (λ (q : t ≡ two.low d). rw (q, two.two d inside, other-first (two.low d) (two.high d) apart) (on-high L two d inside))
      (λ (q : t ≡ two.high d). rw (q, two.two d inside, other_second (two.low d) (two.high d) apart) (on-low L two d inside))
      (on_which L two d inside t there)

  -- from which the first is the other.
  pub other_back : other_than (other_than t (L.through d)) (L.through d) ≡ t
  other_back =
      ⊎_elim
      (λ (q : t ≡ two.low d).
      rw (q, two.two d inside, other-first (two.low d) (two.high d) apart) (other_second (two.low d) (two.high d) apart))
      (λ (q : t ≡ two.high d).
      rw (q, two.two d inside, other_second (two.low d) (two.high d) apart) (other-first (two.low d) (two.high d) apart))
      (on_which L two d inside t there)

  pub other-bound : other_than t (L.through d) < L.stripe_bound
  other-bound = on-bound L two d inside (other_than t (L.through d)) on-other

-- ---- a disk that two stripes share
pub meets_is : (L : Layout) (c : ℕ → Bool) (s t : ℕ) → meets L c s t ≡ true → Met L c s t
unfolding meets
meets_is L c s t h =
    let (d, l, e) = some_found L.disks (λ d. c d && (on L d s && eqb (other_than s (L.through d)) t)) h in
    let rest = and_right (c d) (on L d s && eqb (other_than s (L.through d)) t) e in
    record {
      disk = d;
      inside = l;
      held = and_left (c d) (on L d s && eqb (other_than s (L.through d)) t) e;
      here = and_left (on L d s) (eqb (other_than s (L.through d)) t) rest;
      next = eqb-true (other_than s (L.through d)) t (and_right (on L d s) (eqb (other_than s (L.through d)) t) rest);
    }

pub meets_of : (L : Layout) (c : ℕ → Bool) (s t d : ℕ) → d < L.disks → c d ≡ true → on L d s ≡ true → other_than s (L.through d) ≡ t
    → meets L c s t ≡ true
unfolding meets
meets_of L c s t d l h there next =
    some_of L.disks (λ d. c d && (on L d s && eqb (other_than s (L.through d)) t)) d l
    (and_both h (and_both there (eq-eqb (other_than s (L.through d)) t next)))
