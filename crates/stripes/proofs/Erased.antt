-- The laws of sets of disks: those erased in a map, those below a number or above one, and all but one.
-- Assumes nothing.
use mathlib.Core.Path.{◌≡◌, refl, ◌∙◌, ap, fun_ext, sym}
use mathlib.Core.Bool.{Bool, true, false, ◌&&◌, true≢false}
use mathlib.Core.Logic.{⊎_elim}
use mathlib.Core.List.{List, [], ◌∷◌}
use Prim.Native.Nat.{ℕ, zero, suc, ◌+◌, ◌≤◌, ◌<◌}
use native.Mathlib.Omega.{arith}
use borrow.Author.Tests.{eq-eqb, ne_eqb, eqb-true, eqb-false, lt-ltb, le-ltb, ltb-true}
use lib.Dec.{eqb, ltb}
use lib.ListN.{length, get_or, set, get_or-eq_default}
use lib.Seq.{get_or-set_other}
use Rattle.stripes.specs.Erased.{erasures, without, below, above}
use Rattle.stripes.specs.Fold.{count}
use Rattle.stripes.proofs.Fold.{and_left, and_right, and_both, same_test, by_cases, lt_or_le, count-without}
use Rattle.stripes.proofs.Peel.{without_at, without_other, without_sub, without-apart}

-- ---- maps

-- A byte that was set to 0; behind the end it counts as 0 anyway.
pub zero-set : (m : List ℕ) (d : ℕ) → get_or (set m d 0) d 0 ≡ 0
zero-set [] d = refl
zero-set (x ∷ xs) zero = refl
zero-set (x ∷ xs) (suc d) = zero-set xs d

module _ (m : List ℕ) (d : ℕ) where
  pub is_erased : get_or m d 0 ≡ 1 → erasures m d ≡ true
  unfolding erasures
  is_erased h = eq-eqb (get_or m d 0) 1 h

  pub is_present : (get_or m d 0 ≡ 1 → ⊥) → erasures m d ≡ false
  unfolding erasures
  is_present h = ne_eqb (get_or m d 0) 1 h

  -- Nothing is erased past the end.
  pub past_end : length m ≤ d → erasures m d ≡ false
  past_end h = let none : get_or m d 0 ≡ 0 = get_or-eq_default m 0 {n = d} h in is_present (λ e. omega arith)

  pub erasures-clear : erasures (set m d 0) ≡ without (erasures m) d
  unfolding erasures
  erasures-clear =
      fun_ext (λ i.
      by_cases (λ (b : Bool). eqb i d ≡ b → erasures (set m d 0) i ≡ without (erasures m) d i) (eqb i d)
      (λ q h. rw (eqb-true i d h) (ap (λ (x : ℕ). eqb x 1) (zero-set m d) ∙ sym (without_at (erasures m) d)))
      (λ q h. ap (λ (x : ℕ). eqb x 1) (get_or-set_other m d i 0 0 (eqb-false i d h)) ∙ sym (without_other (erasures m) d i (eqb-false i d h)))
      refl)

-- ---- those below a number
pub below_is : (k : ℕ) (e : ℕ → Bool) (d : ℕ) → d < k → e d ≡ true → below k e d ≡ true
unfolding below
below_is k e d l h = and_both (lt-ltb d k l) h

pub is_below : (k : ℕ) (e : ℕ → Bool) (d : ℕ) → below k e d ≡ true → (d < k) × (e d ≡ true)
unfolding below
is_below k e d h = (ltb-true d k (and_left (ltb d k) (e d) h), and_right (ltb d k) (e d) h)

pub below-not : (k : ℕ) (e : ℕ → Bool) (d : ℕ) → k ≤ d → below k e d ≡ false
below-not k e d h = by_cases (λ (b : Bool). b ≡ false) (below k e d) (λ q. let l = (is_below k e d q).0 in absurd (omega arith)) (λ q. refl)

-- Where no disk of the set has the number k or a higher one, all are below.
module _ (k : ℕ) (e : ℕ → Bool) (none : (d : ℕ) → k ≤ d → e d ≡ false) where
  pub is_inside : (d : ℕ) → e d ≡ true → d < k
  is_inside d h = ⊎_elim (λ l. l) (λ l. absurd (true≢false (sym h ∙ none d l))) (lt_or_le d k)

  pub below_all : below k e ≡ e
  below_all = fun_ext (λ d. same_test (below k e d) (e d) (λ h. (is_below k e d h).1) (λ h. below_is k e d (is_inside d h) h))

-- No disk more is below k than below j where none of them lies between.
pub below_over : (j k : ℕ) (e : ℕ → Bool) → j ≤ k → ((d : ℕ) → j ≤ d → d < k → e d ≡ false) → below k e ≡ below j e
below_over j k e le none =
    fun_ext (λ d.
    same_test (below k e d) (below j e d)
    (λ h.
    let (l, q) = is_below k e d h in
    ⊎_elim (λ w. below_is j e d w q) (λ w. absurd (true≢false (sym q ∙ none d w l))) (lt_or_le d j))
    (λ h. let (l, q) = is_below j e d h in below_is k e d (omega arith) q))

-- Up to disk d, all but this one.
pub below_last : (d : ℕ) (e : ℕ → Bool) → below d e ≡ without (below (d + 1) e) d
below_last d e =
    fun_ext (λ i.
    same_test (below d e i) (without (below (d + 1) e) d i)
    (λ h. let (l, q) = is_below d e i h in without_other (below (d + 1) e) d i (λ w. omega arith) ∙ below_is (d + 1) e i (omega arith) q)
    (λ h.
    let (l, q) = is_below (d + 1) e i (without_sub (below (d + 1) e) d i h) in
    let apart = without-apart (below (d + 1) e) d i h in
    below_is d e i (⊎_elim (λ w. w) (λ w. absurd (apart (omega arith))) (lt_or_le i d)) q))

-- One disk fewer.
pub count_less : (n : ℕ) (e : ℕ → Bool) (d : ℕ) → d < n → e d ≡ true → count n (without e d) + 1 ≡ count n e
unfolding without
count_less n e d l h = count-without n e d l h

-- ---- the disks above one
pub above_is : (d : ℕ) (e : ℕ → Bool) (i : ℕ) → d < i → e i ≡ true → above d e i ≡ true
unfolding above
above_is d e i l h = and_both (lt-ltb d i l) h

pub is_above : (d : ℕ) (e : ℕ → Bool) (i : ℕ) → above d e i ≡ true → (d < i) × (e i ≡ true)
unfolding above
is_above d e i h = (ltb-true d i (and_left (ltb d i) (e i) h), and_right (ltb d i) (e i) h)

pub above-not : (d : ℕ) (e : ℕ → Bool) (i : ℕ) → i ≤ d → above d e i ≡ false
unfolding above
above-not d e i l = ap (λ (b : Bool). b && e i) (le-ltb d i l)
