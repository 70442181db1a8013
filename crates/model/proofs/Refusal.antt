-- The laws of refusals: a call that is not refused has passed each of its tests.
-- Assumes nothing.
use mathlib.Core.Path.{◌≡◌, refl, ◌∙◌, ap}
use mathlib.Core.Bool.{Bool, true, false, cond}
use mathlib.Core.List.{List, [], ◌∷◌, ◌++◌}
use Prim.Native.Nat.{ℕ}
use native.Mathlib.Omega.{arith}
use borrow.Author.Tests.{eq-eqb, ne_eqb, eqb-true}
use lib.Dec.{eqb}
use Rattle.model.specs.Grid.{size_fits, block_fits, array_bytes, sector_fits}
use Rattle.model.specs.Refusal.{Test, ◌unless◌, refusal, array_tests, sector_tests}
use Rattle.model.specs.declared.Size.{Size}

-- What a call gives where it is not refused, and where it is.
pub given-accepted {ℓ} : {A : Type ℓ} (k : ℕ) (x y : A) → k ≡ 0 → cond (eqb k 0) x y ≡ x
given-accepted k x y e = ap (λ (b : Bool). cond b x y) (eq-eqb k 0 e)

pub given-refused {ℓ} : {A : Type ℓ} (k : ℕ) (x y : A) → (k ≡ 0 → ⊥) → cond (eqb k 0) x y ≡ y
given-refused k x y e = ap (λ (b : Bool). cond b x y) (ne_eqb k 0 e)

-- No tests, no refusal.
pub no_tests : refusal [] ≡ 0
unfolding refusal
no_tests = refl

-- The first test fails, or it is passed over.
pub fails : (k : ℕ) (t : Bool) (ts : List Test) → t ≡ false → refusal (k unless t ∷ ts) ≡ k
unfolding refusal
fails k t ts e = ap (λ (b : Bool). cond b (refusal ts) k) e

pub passes : (k : ℕ) (t : Bool) (ts : List Test) → t ≡ true → refusal (k unless t ∷ ts) ≡ refusal ts
unfolding refusal
passes k t ts e = ap (λ (b : Bool). cond b (refusal ts) k) e

-- What holds of a test's number and of what the tests after it give holds of what all of them give.
pub by_test : (P : ℕ → Type 0) (k : ℕ) (t : Bool) (ts : List Test) → P k → P (refusal ts) → P (refusal (k unless t ∷ ts))
unfolding refusal
by_test P k true ts own rest = rest
by_test P k false ts own rest = own

-- A refusal by the first tests stands, whatever tests follow.
pub refused_first : (ts us : List Test) → (refusal ts ≡ 0 → ⊥) → refusal (ts ++ us) ≡ refusal ts
unfolding refusal
refused_first [] us h = absurd (h refl)
refused_first (k unless true ∷ ts) us h = refused_first ts us h
refused_first (k unless false ∷ ts) us h = refl

-- Tests that come to the same come to the same behind others.
pub refusal-rest : (ts us vs : List Test) → refusal us ≡ refusal vs → refusal (ts ++ us) ≡ refusal (ts ++ vs)
unfolding refusal
refusal-rest [] us vs same = same
refusal-rest (k unless true ∷ ts) us vs same = refusal-rest ts us vs same
refusal-rest (k unless false ∷ ts) us vs same = refl

-- Where nothing is refused, the first tests refuse nothing.
pub first-accepted : (ts us : List Test) → refusal (ts ++ us) ≡ 0 → refusal ts ≡ 0
unfolding refusal
first-accepted [] us e = refl
first-accepted (k unless true ∷ ts) us e = first-accepted ts us e
first-accepted (k unless false ∷ ts) us e = e

-- A test with a number that is not 0 has passed where nothing is refused, and so have those that follow it.
pub passed : (k : ℕ) (t : Bool) (ts : List Test) → (k ≡ 0 → ⊥) → refusal (k unless t ∷ ts) ≡ 0 → (t ≡ true) × (refusal ts ≡ 0)
unfolding refusal
passed k true ts h e = (refl, e)
passed k false ts h e = absurd (h e)

-- What the tests with which seal, check and write begin have established.
pub record ArrayFits (z : Size) (B len : ℕ) : Type 0 where
  pub size : size_fits z ≡ true
  pub block : block_fits B ≡ true
  pub long : len ≡ array_bytes z B

module _ (z : Size) (B len : ℕ) where
  pub array_tests_lem : (ts : List Test) → refusal (array_tests z B len ++ ts) ≡ 0 → ArrayFits z B len × (refusal ts ≡ 0)
  unfolding array_tests
  array_tests_lem ts e =
      let (size, e₂) = passed 1 (size_fits z) _ (omega arith) e in
      let (block, e₃) = passed 2 (block_fits B) _ (omega arith) e₂ in
      let (long, e₄) = passed 3 (eqb len (array_bytes z B)) _ (omega arith) e₃ in
      (record { size = size; block = block; long = eqb-true len (array_bytes z B) long }, e₄)

  pub array-fits : refusal (array_tests z B len) ≡ 0 → ArrayFits z B len
  unfolding array_tests
  array-fits e = (array_tests_lem [] e).0

  -- Where they are passed, the tests that follow decide.
  pub array_passed : ArrayFits z B len → (ts : List Test) → refusal (array_tests z B len ++ ts) ≡ refusal ts
  unfolding array_tests refusal
  array_passed f ts = rw (f.size, f.block, eq-eqb len (array_bytes z B) f.long)

  pub array-accepted : ArrayFits z B len → refusal (array_tests z B len) ≡ 0
  unfolding array_tests refusal
  array-accepted f = array_passed f []

-- The tests of the sectors, besides.
module _ (z : Size) (B len w : ℕ) where
  pub sector_tests_lem : (ts : List Test) → refusal (sector_tests z B len w ++ ts) ≡ 0
      → ArrayFits z B len × (sector_fits B w ≡ true) × (refusal ts ≡ 0)
  unfolding sector_tests array_tests
  sector_tests_lem ts e =
      let (array, e₂) = array_tests_lem z B len _ e in
      let (sector, e₃) = passed 16 (sector_fits B w) _ (omega arith) e₂ in
      (array, sector, e₃)

  pub sector_fits_lem : refusal (sector_tests z B len w) ≡ 0 → ArrayFits z B len × (sector_fits B w ≡ true)
  unfolding sector_tests array_tests
  sector_fits_lem e =
      let (array, e₂) = array_tests_lem z B len _ e in
      (array, (passed 16 (sector_fits B w) _ (omega arith) e₂).0)

  pub sector_passed : ArrayFits z B len → sector_fits B w ≡ true → (ts : List Test) → refusal (sector_tests z B len w ++ ts) ≡ refusal ts
  unfolding sector_tests array_tests
  sector_passed array sector ts = array_passed z B len array _ ∙ passes 16 (sector_fits B w) ts sector

  pub sector-accepted : ArrayFits z B len → sector_fits B w ≡ true → refusal (sector_tests z B len w) ≡ 0
  unfolding sector_tests array_tests
  sector-accepted array sector = array_passed z B len array _ ∙ passes 16 (sector_fits B w) [] sector ∙ no_tests
