-- Laws of the loops that go by parts of w bytes, over the values that a function u gives for the places from `first` on.
-- Assumes nothing.
use mathlib.Core.Path.{◌≡◌, refl, sym, ◌∙◌, ap, ap₂}
use mathlib.Core.Bool.{Bool, true, false, ◌&&◌}
use mathlib.Core.List.{List}
use Prim.Native.Nat.{ℕ, suc, ◌+◌, ◌*◌, ◌≤◌, ◌<◌}
use native.Mathlib.Nat.{mul-zero, mul-suc, mul-le-mul_left, add_assoc, zero-add, sub-zero, le_refl}
use native.Mathlib.Numerals.{add-one}
use native.Mathlib.Omega.{arith}
use lib.Dec.{eqb}
use lib.Bits.{bit_xor}
use lib.ListN.{length, get_or, set}
use Rattle.stripes.specs.Fold.{◌⊕◌, every}
use Rattle.stripes.proofs.Fold.{every_add, every_ext, every_all, every_at, every-not, every_fails}
use Rattle.zeros.specs.Stored.{stored}
use Rattle.zeros.proofs.Stored.{stored_more, stored_ext, stored-none, get_or-stored}
use Rattle.xor.specs.Parts.{zero_from, stored_from}
use Rattle.xor.specs.Strided.{added}
use Rattle.xor.proofs.Added.{added_next}

-- The bytes of the turns up to this one.
pub upto : (w : ℕ) {i parts : ℕ} → i < parts → w * i + w ≤ w * parts
upto w {i} {parts} h = let m : w * suc i ≤ w * parts = mul-le-mul_left w h in let n : w * suc i ≡ w * i + w = mul-suc w i in omega arith

-- and of one more turn.
turn_more : (w i : ℕ) → w * (i + 1) ≡ w * i + w
turn_more w i = ap (λ (k : ℕ). w * k) (add-one i) ∙ mul-suc w i

-- ---- the loops that make an array of w bytes
pub stored_at : (l : List ℕ) (f : ℕ → ℕ) (w n : ℕ) (r : List ℕ) → r ≡ stored l 0 n f → n ≡ w → w ≤ length l
    → (i : ℕ) → i < w → get_or r i 0 ≡ f i
stored_at l f w n r e m h i b =
    ap (λ (k : List ℕ). get_or k i 0) e ∙ get_or-stored l 0 n f i (omega arith) (omega arith) (omega arith) ∙ ap f (sub-zero i)

abbrev pub differ : List ℕ → ℕ → List ℕ → ℕ → ℕ → ℕ
differ a at b from i = get_or a (at + i) 0 ⊕ get_or b (from + i) 0

pub mix_next : (acc a : List ℕ) (at i : ℕ) (r : List ℕ) → r ≡ added acc 0 i (λ j. get_or a (at + j) 0) → i < length acc
    → set r i (bit_xor (get_or r i 0) (get_or a (at + i) 0)) ≡ added acc 0 (i + 1) (λ j. get_or a (at + j) 0)
unfolding ◌⊕◌
mix_next acc a at i r e h =
    ap (λ (k : ℕ). set r k (get_or r k 0 ⊕ get_or a (at + i) 0)) (sym (zero-add i)) ∙ added_next acc 0 (λ j. get_or a (at + j) 0) i r e (omega arith)

-- ---- w sums side by side
-- The first w bytes of v are the values at w places.
abbrev pub Holds : ℕ → List ℕ → (u : ℕ → ℕ) → (first : ℕ) → Type 0
Holds w v u first = (i : ℕ) → i < w → get_or v i 0 ≡ u (first + i)

module _ (w first : ℕ) where
  -- After a stretch that begins m places behind `first` is added, they are the values with its bytes added.
  pub holds_next : (a : List ℕ) (m : ℕ) (u more : ℕ → ℕ) → ((j : ℕ) → more j ≡ u j ⊕ get_or a (j + m) 0)
      → (v r : List ℕ) → w ≤ length v → Holds w v u first → r ≡ added v 0 w (λ i. get_or a (first + m + i) 0) → Holds w r more first
  unfolding added
  holds_next a m u more next v r long e mix i b =
      stored_at v _ w w r mix refl long i b
      ∙ ap₂ (λ (x j : ℕ). x ⊕ get_or a j 0) (ap (λ (k : ℕ). get_or v k 0) (zero-add i) ∙ e i b) (omega arith)
      ∙ sym (next (first + i))

-- ---- the test of a stretch
abbrev pub zero_at : List ℕ → ℕ → Bool
zero_at v i = eqb (get_or v i 0) 0

module _ (u : ℕ → ℕ) (first : ℕ) where
  pub zero-none : (w : ℕ) → zero_from u first (w * 0) ≡ true
  unfolding every
  zero-none w = rw (mul-zero w) refl

  -- Where the first m places pass, the test up to len is that of the w places that end there, if they leave out none behind m.
  pub zero-after : (m k w len at : ℕ) → k ≤ m → k + w ≡ len → at ≡ first + k → zero_from u first m ≡ true → zero_from u first len ≡ zero_from u at w
  zero-after m k w len at low sum p e =
      ap (zero_from u first) (sym sum)
      ∙ every_add k w _
      ∙ ap₂ ◌&&◌ (every_all k (λ i b. every_at m _ e i (omega arith))) (every_ext w (λ i b. ap (λ (n : ℕ). eqb (u n) 0) (omega arith)))

  -- Where w places behind n fail, so does every test that takes them in.
  pub zero_fails : (n w len at : ℕ) → at ≡ first + n → n + w ≤ len → zero_from u at w ≡ false → false ≡ zero_from u first len
  zero_fails n w len at p h e =
      let (i, b, z) = every_fails w _ e in
      sym (every-not len _ (n + i) (omega arith) (ap (λ (j : ℕ). eqb (u j) 0) (omega arith) ∙ z))

  -- A test t of the first m places, and where it passes the test s of those w places: the answer is that of the test up to len.
  pub zero-passes : (m k w len at : ℕ) → k ≤ m → k + w ≡ len → at ≡ first + k → {t s : Bool} → t ≡ zero_from u first m → t ≡ true
      → s ≡ zero_from u at w → s ≡ zero_from u first len
  zero-passes m k w len at low sum p front passes back = back ∙ sym (zero-after m k w len at low sum p (sym front ∙ passes))

  pub zero_stops : (m len : ℕ) → m ≤ len → {t : Bool} → t ≡ zero_from u first m → t ≡ false → t ≡ zero_from u first len
  zero_stops m len low front stops = stops ∙ zero_fails 0 m len first (omega arith) (omega arith) (sym front ∙ stops)

-- A turn of the loop that tests w bytes, of which t says whether they are zero.
module _ (u : ℕ → ℕ) (w first parts i : ℕ) (h : i < parts) (v : List ℕ) (t : Bool)
    (sum_is_lem : Holds w v u (first + w * i)) (test-is : t ≡ every w (zero_at v)) where
  test : t ≡ zero_from u (first + w * i) w
  test = test-is ∙ every_ext w (λ j b. ap (λ (x : ℕ). eqb x 0) (sum_is_lem j b))

  pub turn_fails : t ≡ false → false ≡ zero_from u first (w * parts)
  turn_fails e = let m = upto w h in zero_fails u first (w * i) w (w * parts) (first + w * i) refl (omega arith) (sym test ∙ e)

  pub turn_passes : zero_from u first (w * i) ≡ true → t ≡ true → zero_from u first (w * (i + 1)) ≡ true
  turn_passes before e = zero-after u first (w * i) (w * i) w _ _ (le_refl _) (sym (turn_more w i)) refl before ∙ sym test ∙ e

-- ---- the loop that fills a stretch
-- The n bytes from `at` on lie within the list, and none of the values that u gives for n places from `first` on reads them.
pub record Aside (u : List ℕ → ℕ → ℕ) (a : List ℕ) (at first n : ℕ) : Type 0 where
  pub room : at + n ≤ length a
  pub kept : (m : ℕ) (f : ℕ → ℕ) (i : ℕ) → m ≤ n → i < n → u (stored a at m f) (first + i) ≡ u a (first + i)

pub filled_none : (w : ℕ) (a : List ℕ) (at : ℕ) (u : ℕ → ℕ) (first : ℕ) → a ≡ stored_from a at u first (w * 0)
filled_none w a at u first = rw (mul-zero w) (stored-none a at _)

module _ {u : List ℕ → ℕ → ℕ} {a : List ℕ} {at first len : ℕ} (s : Aside u a at first len) where
  -- w places behind k of m that are filled, and on past them.
  fill-next : (m k w : ℕ) (r : List ℕ) (p : ℕ) (f : ℕ → ℕ)
      → k + w ≤ len → k ≤ m → m ≤ k + w
      → r ≡ stored_from a at (u a) first m
      → p ≡ at + k
      → ((i : ℕ) → i < w → f i ≡ u r (first + k + i))
      → stored r p w f ≡ stored_from a at (u a) first (k + w)
  fill-next m k w r p f h low high e q v =
      ap₂ (λ (l : List ℕ) (j : ℕ). stored l j w f) e q
      ∙ stored_ext (stored_from a at (u a) first m) (at + k) w
      (λ i b. v i b ∙ ap₂ u e (add_assoc first k i) ∙ s.kept m _ (k + i) (omega arith) (omega arith))
      ∙ stored_more a at m k w (λ i. u a (first + i)) low high

  -- The same where they are filled from another first place on.
  pub filled_then : (m k n l : ℕ) (r q : List ℕ) (start p : ℕ) → l ≤ len → k ≤ m → m ≤ l → k + n ≡ l
      → r ≡ stored_from a at (u a) first m
      → start ≡ first + k → p ≡ at + k
      → q ≡ stored_from r p (u r) start n
      → q ≡ stored_from a at (u a) first l
  filled_then m k n l r q start p h low high sum e from to g =
      g
      ∙ fill-next m k n r p (λ i. u r (start + i)) (omega arith) low (omega arith) e to (λ i b. ap (λ (j : ℕ). u r (j + i)) from)
      ∙ ap (stored_from a at (u a) first) sum

module _ {u : List ℕ → ℕ → ℕ} {a : List ℕ} {at first : ℕ} (w parts : ℕ) (s : Aside u a at first (w * parts)) (i : ℕ) (h : i < parts)
    (r : List ℕ) (e : r ≡ stored_from a at (u a) first (w * i)) where
  -- After a turn of that loop w places more hold the sum.
  pub turned : (v l : List ℕ) (p : ℕ) → Holds w v (u r) (first + w * i) → p ≡ at + w * i → l ≡ stored r p w (λ j. get_or v j 0)
      → l ≡ stored_from a at (u a) first (w * (i + 1))
  turned v l p sum_is_lem to put_is =
      let part = upto w h in
      put_is ∙ fill-next s (w * i) (w * i) w r p _ (omega arith) (le_refl _) (omega arith) e to sum_is_lem
      ∙ ap (stored_from a at (u a) first) (sym (turn_more w i))
