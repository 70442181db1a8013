-- The bytes of an array: where they stand, and an array with those of a stretch changed.
-- Assumes nothing.
use mathlib.Core.Path.{◌≡◌, refl, sym, ◌∙◌, ap, subst}
use mathlib.Core.Bool.{Bool, true, false, ◌&&◌, cond}
use mathlib.Core.List.{List}
use Prim.Native.Nat.{ℕ, ◌+◌, ◌*◌, ◌/◌, ◌%◌, ◌-◌, ◌≤◌, ◌<◌}
use native.Mathlib.Nat.{add-mul, one-mul, mul-le-mul_right, zero-add, mul-zero, add-sub_of_le, mod-lt, div-lt_iff_lt-mul, div-add-mod', pos_of_ne-zero, add-sub_cancel_left, sub-lt_left_of_lt-add}
use native.Mathlib.Decide.{dec_lt}
use native.Mathlib.Omega.{arith}
use borrow.Author.Tests.{leb-true, ltb-true, lt-ltb, le-leb}
use lib.Arith.{digits_div, digits_mod, digits_lt}
use lib.Dec.{leb, ltb}
use lib.ListN.{length, get_or, get_or-eq_default}
use Rattle.stripes.specs.System.{whole, byte, Bytes, changed}
use Rattle.stripes.specs.declared.Stretch.{Stretch}
use Rattle.stripes.proofs.Fold.{and_left, and_right, length-tabulate, get_d_tabulate, by_cases, lt_or_le}
use mathlib.Core.Logic.{⊎_elim}
use lib.Seq.{ext_get_or}

-- ---- bytes

-- Where a disk's byte stands in the array.
pub byte-whole : (B : ℕ) (a : List ℕ) (d p : ℕ) → byte (whole B) a d p ≡ get_or a (d * B + p) 0
unfolding byte whole
byte-whole B a d p = rw zero-add

-- Where all bytes of an array are below 256, so is the byte that is read at any place, also outside the array.
pub small-byte : (a : List ℕ) → ((i : ℕ) → i < length a → get_or a i 0 < 256) → (x : Stretch) (d p : ℕ) → byte x a d p < 256
unfolding byte
small-byte a small x d p = go (d * x.block + (x.offset + p)) (dec_lt _ (length a))
  where
    go : (i : ℕ) → Dec (i < length a) → get_or a i 0 < 256
    go i (yes h) = small i h
    go i (no h) = let out = get_or-eq_default a 0 {n = i} (omega arith) in omega arith

-- What holds of each byte of each of n blocks holds of every byte, and so for an array's disks.
pub by_block : (n B : ℕ) (P : ℕ → Type 0) → ((d p : ℕ) → d < n → p < B → P (d * B + p)) → (i : ℕ) → i < n * B → P i
by_block n B P all i l =
    let some : 0 < B = pos_of_ne-zero (λ q. let none : n * B ≡ 0 = ap (λ (k : ℕ). n * k) q ∙ mul-zero n in omega arith) in
    subst P (div-add-mod' i B) (all (i / B) (i % B) ((div-lt_iff_lt-mul {k = B} some).1 l) (mod-lt i some))

-- A block ends before a later one begins.
pub block-before : (B : ℕ) {d e : ℕ} → d < e → d * B + B ≤ e * B
block-before B {d} {e} l =
    let sum : (d + 1) * B ≡ d * B + 1 * B = add-mul d 1 B in
    let one = one-mul B in
    let all : (d + 1) * B ≤ e * B = mul-le-mul_right B (omega arith) in
    omega arith

-- Two arrays of n blocks are equal if their blocks are.
pub whole_equal : (n B : ℕ) (a b : List ℕ) → length a ≡ n * B → length b ≡ n * B
    → ((d p : ℕ) → d < n → p < B → byte (whole B) a d p ≡ byte (whole B) b d p) → a ≡ b
whole_equal n B a b long size same =
    ext_get_or 0 a b (long ∙ sym size)
    (λ i l.
    by_block n B (λ i. get_or a i 0 ≡ get_or b i 0) (λ d p k h. sym (byte-whole B a d p) ∙ same d p k h ∙ byte-whole B b d p) i
    (subst (λ (k : ℕ). i < k) long l))

-- ---- places of a stretch

-- Place q of a block lies in the stretch.
unfoldable pub covers : Stretch → ℕ → Bool
covers x q = leb x.offset q && ltb q (x.offset + x.width)

-- What holds of each place of the stretch on each of n disks, and of every place outside, holds of every place of an array.
by_place : (x : Stretch) (n : ℕ) (P : ℕ → Type 0)
    → ((d p : ℕ) → d < n → p < x.width → P (d * x.block + (x.offset + p)))
    → ((i : ℕ) → covers x (i % x.block) ≡ false → P i) → (i : ℕ) → i < n * x.block → P i
unfolding covers
by_place x n P at out = by_block n x.block P (λ d q l h. go d q l h (covers x q) refl)
  where
    go : (d q : ℕ) → d < n → q < x.block → (t : Bool) → covers x q ≡ t → P (d * x.block + q)
    go d q l h true e =
        let low : x.offset ≤ q = leb-true _ _ (and_left _ (ltb q (x.offset + x.width)) e) in
        let high : q < x.offset + x.width = ltb-true _ _ (and_right (leb x.offset q) _ e) in
        subst (λ (k : ℕ). P (d * x.block + k)) (add-sub_of_le low) (at d (q - x.offset) l (sub-lt_left_of_lt-add low high))
    go d q l h false e = out (d * x.block + q) (ap (covers x) (digits_mod d h) ∙ e)

-- The whole block lies within the block.
pub whole-inside : (B : ℕ) → (whole B).offset + (whole B).width ≤ (whole B).block
unfolding whole
whole-inside B = omega arith

-- ---- an array with the bytes of a stretch changed
module _ (x : Stretch) (a : List ℕ) (f : ℕ → ℕ → ℕ) where
  pub length-changed : length (changed x a f) ≡ length a
  unfolding changed
  length-changed = length-tabulate (length a) _

  pub changed_at : (i : ℕ) → i < length a
      → get_or (changed x a f) i 0 ≡ cond (covers x (i % x.block)) (f (i / x.block) (i % x.block - x.offset)) (get_or a i 0)
  unfolding changed covers
  changed_at i l = get_d_tabulate (length a) _ i l

  pub changed_outside : (i : ℕ) → covers x (i % x.block) ≡ false → get_or (changed x a f) i 0 ≡ get_or a i 0
  changed_outside i e =
      ⊎_elim (λ l. changed_at i l ∙ (rw e))
      (λ o.
      let out : length (changed x a f) ≤ i = let same = length-changed in omega arith in
      get_or-eq_default (changed x a f) 0 out ∙ sym (get_or-eq_default a 0 o))
      (lt_or_le i (length a))

  pub changed-small : ((d p : ℕ) → f d p < 256) → Bytes a → Bytes (changed x a f)
  changed-small new old i l =
      let b : i < length a = subst (λ (n : ℕ). i < n) length-changed l in
      subst (λ (v : ℕ). v < 256) (sym (changed_at i b))
      (by_cases (λ (t : Bool). cond t (f (i / x.block) (i % x.block - x.offset)) (get_or a i 0) < 256) (covers x (i % x.block))
      (λ e. new _ _) (λ e. old i b))

-- The same where the stretch lies within the block and the array holds n blocks.
module _ (x : Stretch) (inside : x.offset + x.width ≤ x.block) (n : ℕ) (a : List ℕ) (sized : length a ≡ n * x.block) where
  pub byte-changed : (f : ℕ → ℕ → ℕ) (d p : ℕ) → d < n → p < x.width → byte x (changed x a f) d p ≡ f d p
  unfolding byte covers
  byte-changed f d p l h =
      let b : x.offset + p < x.block = omega arith in
      let low : leb x.offset (x.offset + p) ≡ true = le-leb x.offset (x.offset + p) (omega arith) in
      let high : ltb (x.offset + p) (x.offset + x.width) ≡ true = lt-ltb (x.offset + p) (x.offset + x.width) (omega arith) in
      changed_at x a f (d * x.block + (x.offset + p)) (subst (λ (k : ℕ). d * x.block + (x.offset + p) < k) (sym sized) (digits_lt l b))
      ∙ (rw (digits_div d b, digits_mod d b, low, high) (ap (f d) (add-sub_cancel_left x.offset p)))

  -- An array is the changed one if it has these bytes in the stretch and those of a outside.
  pub changed_is : (f : ℕ → ℕ → ℕ) (l : List ℕ) → length l ≡ length a
      → ((d p : ℕ) → d < n → p < x.width → byte x l d p ≡ f d p)
      → ((i : ℕ) → covers x (i % x.block) ≡ false → get_or l i 0 ≡ get_or a i 0) → l ≡ changed x a f
  unfolding byte
  changed_is f l long same kept =
      ext_get_or 0 l (changed x a f) (long ∙ sym (length-changed x a f))
      (λ i b.
      by_place x n (λ i. get_or l i 0 ≡ get_or (changed x a f) i 0) (λ d p k h. same d p k h ∙ sym (byte-changed f d p k h))
      (λ i e. kept i e ∙ sym (changed_outside x a f i e)) i (subst (λ (k : ℕ). i < k) (long ∙ sized) b))

module _ (x : Stretch) (inside : x.offset + x.width ≤ x.block) (n : ℕ) (a : List ℕ) (sized : length a ≡ n * x.block) where
  -- What is changed twice has the bytes of the second change,
  pub changed-again : (f g h : ℕ → ℕ → ℕ) → ((d p : ℕ) → d < n → p < x.width → g d p ≡ h d p)
      → changed x (changed x a f) g ≡ changed x a h
  changed-again f g h same =
      let b : List ℕ = changed x a f in
      let long : length b ≡ n * x.block = length-changed x a f ∙ sized in
      changed_is x inside n a sized h (changed x b g) (length-changed x b g ∙ length-changed x a f)
      (λ d p l k. byte-changed x inside n b long g d p l k ∙ same d p l k)
      (λ i off. changed_outside x b g i off ∙ changed_outside x a f i off)

  -- and what gets its own bytes is not changed.
  pub changed_self : (f : ℕ → ℕ → ℕ) → ((d p : ℕ) → d < n → p < x.width → byte x a d p ≡ f d p) → a ≡ changed x a f
  changed_self f same = changed_is x inside n a sized f a refl same (λ i off. refl)

  pub changed_ext : (f g : ℕ → ℕ → ℕ) → ((d p : ℕ) → d < n → p < x.width → f d p ≡ g d p) → changed x a f ≡ changed x a g
  changed_ext f g same =
      changed_is x inside n a sized g (changed x a f) (length-changed x a f)
      (λ d p l k. byte-changed x inside n a sized f d p l k ∙ same d p l k) (changed_outside x a f)
