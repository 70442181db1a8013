-- What the numbers of erased disks on the stripes say of the repairs that are allowed.
-- Assumes nothing.
use mathlib.Core.Path.{◌≡◌, refl, sym, ◌∙◌, ap, ap₂}
use mathlib.Core.Bool.{Bool, true, false, cond, not, ◌&&◌, ◌||◌, or-false, and-false, or-true}
use mathlib.Core.List.{List, ◌∷◌, []}
use Prim.Native.Nat.{ℕ, ◌<◌}
use native.Mathlib.Numerals.{add-one}
use borrow.Author.Tests.{eq-eqb, eqb-true, lt-ltb, not-true}
use lib.Dec.{eqb, eqb-suc-suc}
use Rattle.stripes.specs.Fold.{every, count}
use Rattle.stripes.specs.System.{Layout, on, among}
use Rattle.stripes.specs.Repair.{alone, allowed, first_allowed, some_allowed}
use Rattle.stripes.proofs.Fold.{same_test, and_both, every_ext, every_all, every_at, count_none, count-zero-none, count-without}
use Rattle.stripes.proofs.Degree.{degree}

-- A test that fails everywhere counts nothing.
every-count : (n : ℕ) (t : ℕ → Bool) → every n (λ i. not (t i)) ≡ eqb (count n t) 0
every-count n t =
    same_test (every n (λ i. not (t i))) (eqb (count n t) 0)
    (λ a. eq-eqb (count n t) 0 (count_none n (λ i l. not-true (t i) (every_at n (λ i. not (t i)) a i l))))
    (λ z. every_all n (λ i l. ap not (count-zero-none n t (eqb-true (count n t) 0 z) i l)))

-- No stripe serves a disk that is present.
module _ (L : Layout) (e : ℕ → Bool) (d : ℕ) (present : e d ≡ false) where
  pub allowed-present : (s : ℕ) → allowed L e d s ≡ false
  unfolding allowed
  allowed-present s = simp (present, and-false)

  pub none-present : (ss : List ℕ) → some_allowed L e d ss ≡ false
  unfolding some_allowed
  none-present [] = refl
  none-present (s ∷ ss) = simp (allowed-present s, none-present ss)

-- An erased disk
module _ (L : Layout) (e : ℕ → Bool) (d : ℕ) (inside : d < L.disks) (erased : e d ≡ true) where
  -- can be repaired by a stripe of its own on which one disk is counted,
  pub allowed-count : (s : ℕ) → on L d s ≡ true → allowed L e d s ≡ eqb (degree L e s) 1
  unfolding allowed alone degree
  allowed-count s k =
      let t : ℕ → Bool = λ i. e i && on L i s in
      ap₂ (λ (x y : Bool). x && (y && alone L e d s)) (and_both (lt-ltb d L.disks inside) erased) k
      ∙ every_ext L.disks (λ i l. swapped (eqb i d) (t i)) ∙ every-count L.disks (λ i. t i && not (eqb i d))
      ∙ sym (eqb-suc-suc (count L.disks (λ i. t i && not (eqb i d))) 0)
      ∙ ap (λ (n : ℕ). eqb n 1) (sym (add-one _) ∙ count-without L.disks t d inside (and_both erased k))
    where
      swapped : (a b : Bool) → (a || not b) ≡ not (b && not a)
      swapped true true = refl
      swapped true false = refl
      swapped false true = refl
      swapped false false = refl

  -- by the first of its two before the second.
  module _ (low high : ℕ) (pair : L.through d ≡ low ∷ high ∷ []) where
    pub allowed-first : allowed L e d low ≡ eqb (degree L e low) 1
    unfolding on among
    allowed-first = allowed-count low (simp (pair, eq-eqb low low refl))

    pub allowed_second : allowed L e d high ≡ eqb (degree L e high) 1
    unfolding on among
    allowed_second = allowed-count high (simp (pair, eq-eqb high high refl, or-true))

    pub some-count : some_allowed L e d (L.through d) ≡ (eqb (degree L e low) 1 || eqb (degree L e high) 1)
    unfolding some_allowed
    some-count = simp (pair, allowed-first, allowed_second, or-false)

    pub first_count : first_allowed L e d (L.through d) ≡ cond (eqb (degree L e low) 1) low (cond (eqb (degree L e high) 1) high 0)
    unfolding first_allowed
    first_count = simp (pair, allowed-first, allowed_second)
