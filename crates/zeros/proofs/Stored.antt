-- Laws of a list with a stretch stored anew.
-- Assumes nothing.
use mathlib.Core.Path.{◌≡◌, refl, sym, ◌∙◌, ap}
use mathlib.Core.Bool.{false, ◌&&◌, and-false}
use mathlib.Core.Logic.{⊎_elim}
use mathlib.Core.List.{List, ◌++◌}
use Prim.Native.Nat.{ℕ, ◌+◌, ◌-◌, ◌≤◌, ◌<◌}
use native.Mathlib.Nat.{add-sub_cancel_left, add-sub_of_le, le-add_right, le_refl, not-suc-le-zero}
use native.Mathlib.Omega.{arith}
use borrow.Author.Tests.{le-leb, lt-leb, lt-ltb, le-ltb}
use lib.Dec.{leb, ltb}
use lib.ListN.{length, get_or, set, take, drop, replicate, length-set, length-append, length-drop, length-replicate, get_or-append, get_or-eq_default}
use borrow.Rule.Slice.PartMut.{put_mid, Post-is}
use lib.Seq.{length-take-le, ext_get_or, get_or-set_same, get_or-set_other}
use Rattle.std.proofs.lemmas.List.{get_or-append_right, get_or-replicate, get_or-take, get_or-drop}
use Rattle.stripes.proofs.Fold.{length-tabulate, get_d_tabulate, lt_or_le}
use Rattle.zeros.specs.Stored.{stored}

module _ (l : List ℕ) (at n : ℕ) (f : ℕ → ℕ) where
  pub length-stored : length (stored l at n f) ≡ length l
  unfolding stored
  length-stored = length-tabulate (length l) _

  pub get_or-stored : (i : ℕ) → i < length l → at ≤ i → i < at + n → get_or (stored l at n f) i 0 ≡ f (i - at)
  unfolding stored
  get_or-stored i b p q = get_d_tabulate (length l) _ i b ∙ simp (le-leb _ _ p, lt-ltb _ _ q)

  -- Outside the stretch, also past the end, where there is nothing in either list.
  outside : (i : ℕ) → (leb at i && ltb i (at + n)) ≡ false → get_or (stored l at n f) i 0 ≡ get_or l i 0
  unfolding stored
  outside i e =
      ⊎_elim (λ b. get_d_tabulate (length l) _ i b ∙ simp e)
      (λ b. get_or-eq_default (stored l at n f) 0 {n = i} (let h = length-stored in omega arith) ∙ sym (get_or-eq_default l 0 b)) (lt_or_le i (length l))

  -- Before the stretch and after it the list is as it was.
  pub get_or-before : (i : ℕ) → i < at → get_or (stored l at n f) i 0 ≡ get_or l i 0
  get_or-before i p = outside i (simp (lt-leb _ _ p))

  pub get_d_after : (i : ℕ) → at + n ≤ i → get_or (stored l at n f) i 0 ≡ get_or l i 0
  get_d_after i p = outside i (simp (le-ltb _ _ p, and-false))

  -- A list that has these values is the list so stored.
  pub stored_is : (r : List ℕ) → length r ≡ length l
      → ((i : ℕ) → i < n → at + i < length l → get_or r (at + i) 0 ≡ f i)
      → ((i : ℕ) → i < at → get_or r i 0 ≡ get_or l i 0)
      → ((i : ℕ) → at + n ≤ i → get_or r i 0 ≡ get_or l i 0)
      → r ≡ stored l at n f
  stored_is r e inside before after =
      ext_get_or 0 r (stored l at n f) (e ∙ sym length-stored)
      (λ i b.
      ⊎_elim (λ p. before i p ∙ sym (get_or-before i p))
      (λ p.
      ⊎_elim
      (λ q.
      let s : at + (i - at) ≡ i = add-sub_of_le p in
      let h : i - at < n = omega arith in
      let g : at + (i - at) < length l = omega arith in
      ap (λ (k : ℕ). get_or r k 0) (sym s) ∙ inside (i - at) h g ∙ sym (get_or-stored i (omega arith) p q))
      (λ q. after i q ∙ sym (get_d_after i q)) (lt_or_le i (at + n)))
      (lt_or_le i at))

-- ---- what a loop of stores does
module _ (l : List ℕ) (at : ℕ) where
  pub stored-none : (f : ℕ → ℕ) → l ≡ stored l at 0 f
  stored-none f = stored_is l at 0 f l refl (λ i h. absurd (not-suc-le-zero h)) (λ i h. refl) (λ i h. refl)

  pub stored_ext : (n : ℕ) {f g : ℕ → ℕ} → ((i : ℕ) → i < n → f i ≡ g i) → stored l at n f ≡ stored l at n g
  stored_ext n {f} {g} h =
      stored_is l at n g (stored l at n f) (length-stored l at n f)
      (λ i b c. get_or-stored l at n f (at + i) c (le-add_right at i) (omega arith) ∙ ap f (add-sub_cancel_left at i) ∙ h i b)
      (get_or-before l at n f) (get_d_after l at n f)

  -- A stretch stored behind k places of a stretch of m, and on past its end: the same, where both store the same values.
  pub stored_more : (m k n : ℕ) (f : ℕ → ℕ) → k ≤ m → m ≤ k + n
      → stored (stored l at m f) (at + k) n (λ i. f (k + i)) ≡ stored l at (k + n) f
  stored_more m k n f low high =
      let b : List ℕ = stored l at m f in
      stored_is l at (k + n) f (stored b (at + k) n (λ i. f (k + i))) (length-stored b (at + k) n (λ i. f (k + i)) ∙ length-stored l at m f)
      (λ i h c.
      ⊎_elim
      (λ p.
      get_or-before b (at + k) n (λ i. f (k + i)) (at + i) (omega arith)
      ∙ get_or-stored l at m f (at + i) c (le-add_right at i) (omega arith)
      ∙ ap f (add-sub_cancel_left at i))
      (λ p.
      get_or-stored b (at + k) n (λ i. f (k + i)) (at + i) (rw length-stored c) (omega arith) (omega arith)
      ∙ ap f (omega arith))
      (lt_or_le i k))
      (λ i h. get_or-before b (at + k) n (λ i. f (k + i)) i (omega arith) ∙ get_or-before l at m f i h)
      (λ i h. get_d_after b (at + k) n (λ i. f (k + i)) i (omega arith) ∙ get_d_after l at m f i (omega arith))

  -- A single store.
  pub stored_one : (v : ℕ) → at < length l → set l at v ≡ stored l at 1 (λ i. v)
  stored_one v h =
      stored_is l at 1 (λ i. v) (set l at v) (length-set l at v)
      (λ i b c. let z : i ≡ 0 = omega arith in ap (λ (k : ℕ). get_or (set l at v) k 0) (omega arith) ∙ get_or-set_same l at v 0 h)
      (λ i p. get_or-set_other l at i v 0 (λ e. omega arith)) (λ i p. get_or-set_other l at i v 0 (λ e. omega arith))

pub stored_next : (l : List ℕ) (at n : ℕ) (f : ℕ → ℕ) (v : ℕ) → v ≡ f n → at + n < length l
    → set (stored l at n f) (at + n) v ≡ stored l at (n + 1) f
stored_next l at n f v e h =
    let k : List ℕ = stored l at n f in
    stored_one k (at + n) v (rw length-stored h) ∙ stored_ext k (at + n) 1 (λ i b. e ∙ ap f (omega arith)) ∙ stored_more l at n n 1 f (le_refl n) (le-add_right n 1)

-- A stretch that holds one number.
pub stored_all : (l : List ℕ) (at n v : ℕ) → at + n ≤ length l → put_mid at (at + n - at) l (replicate n v) ≡ stored l at n (λ i. v)
stored_all l at n v h =
    let front : List ℕ = take at l in
    let all : List ℕ = replicate n v in
    let back : List ℕ = drop (at + n) l in
    let here : length front ≡ at = length-take-le at l (omega arith) in
    let there : length all ≡ n = length-replicate n v in
    let rest : length back ≡ length l - (at + n) = length-drop (at + n) l in
    ap (λ (t : List ℕ). front ++ (all ++ t)) (Post-is at (at + n) l (omega arith))
    ∙ stored_is l at n (λ i. v) (front ++ (all ++ back))
    (length-append front (all ++ back) ∙ omega (arith, length-append all back))
    (λ i b c.
    get_or-append_right front (all ++ back) at (at + i) 0 here (omega arith)
    ∙ ap (λ (k : ℕ). get_or (all ++ back) k 0) (add-sub_cancel_left at i)
    ∙ get_or-append all back 0 i (omega arith) ∙ get_or-replicate n i v 0 b)
    (λ i b. get_or-append front (all ++ back) 0 i (omega arith) ∙ get_or-take at l i 0 b)
    (λ i b.
    let far : at + n + (i - at - n) ≡ i = omega arith in
    get_or-append_right front (all ++ back) at i 0 here (omega arith)
    ∙ get_or-append_right all back n (i - at) 0 there (omega arith)
    ∙ get_or-drop (at + n) l (i - at - n) 0 ∙ ap (λ (k : ℕ). get_or l k 0) far)
