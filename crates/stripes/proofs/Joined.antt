-- The laws of joined stripes and of the parts that they make.
-- Assumes nothing.
use mathlib.Core.Path.{◌≡◌, refl, sym, ◌∙◌, ap, ap₂, subst}
use mathlib.Core.Bool.{Bool, true, false, cond, not}
use mathlib.Core.Logic.{⊎_elim, ◌↔◌}
use Prim.Native.Nat.{ℕ, zero, suc, ◌≤◌, ◌<◌}
use native.Mathlib.Nat.{eq-or-lt_of_le, le_of_suc-le-suc, lt-suc_self, le_step}
use native.Mathlib.Omega.{arith}
use borrow.Author.Tests.{eq-eqb, eqb-true}
use lib.Dec.{eqb}
use Rattle.stripes.specs.System.{Layout, TwoStripes, lower, higher, first_of, other_than}
use Rattle.stripes.specs.Joined.{united, part_by, part, joined, crosses}
use Rattle.stripes.proofs.Fold.{by_cases, eqb_comm}
use Rattle.stripes.proofs.Degree.{low-bound, other-first}

-- ---- the two stripes of a disk
module _ (L : Layout) (two : TwoStripes L) (d : ℕ) (inside : d < L.disks) where
  pub lower_is : lower L d ≡ two.low d
  unfolding first_of
  lower_is = ap first_of (two.two d inside)

  pub higher_is : higher L d ≡ two.high d
  higher_is =
      let order = two.order d inside in
      ap₂ other_than lower_is (two.two d inside) ∙ other-first (two.low d) (two.high d) (λ q. omega arith)

  pub lower-bound : lower L d < L.stripe_bound
  lower-bound = let low = low-bound L two d inside in let same = lower_is in omega arith

  pub higher-bound : higher L d < L.stripe_bound
  higher-bound = let high = two.bound d inside in let same = higher_is in omega arith

-- ---- parts after some disks

-- Two stripes whose parts become one are in one part.
united_both : (a b : ℕ) (p : ℕ → ℕ) → united a b p a ≡ united a b p b
unfolding united
united_both a b p =
    by_cases (λ (t : Bool). cond t (p a) (p a) ≡ p a) (eqb (p a) (p b)) (λ q. refl) (λ q. refl)
    ∙ sym (ap (λ (t : Bool). cond t (p a) (p b)) (eq-eqb (p b) (p b) refl))

module _ (L : Layout) (c : ℕ → Bool) where
  -- A disk of c unites two parts, and another disk none.
  pub part-united : (k : ℕ) → c k ≡ true → part_by L c (suc k) ≡ united (lower L k) (higher L k) (part_by L c k)
  unfolding part_by
  part-united k h = rw h

  pub part-kept : (k : ℕ) → c k ≡ false → part_by L c (suc k) ≡ part_by L c k
  unfolding part_by
  part-kept k h = rw h

  -- After it both its stripes are in one.
  pub part-disk : (k : ℕ) → c k ≡ true → part_by L c (suc k) (lower L k) ≡ part_by L c (suc k) (higher L k)
  part-disk k h = rw (part-united k h) (united_both (lower L k) (higher L k) (part_by L c k))

  -- What is in one part stays in one part.
  part-next : (k s t : ℕ) → part_by L c k s ≡ part_by L c k t → part_by L c (suc k) s ≡ part_by L c (suc k) t
  unfolding part_by united
  part-next k s t e =
      let p : ℕ → ℕ = part_by L c k in
      let q : ℕ → ℕ = united (lower L k) (higher L k) p in
      by_cases (λ (b : Bool). cond b q p s ≡ cond b q p t) (c k) (λ h. rw e) (λ h. e)

  pub part_stays : (j k s t : ℕ) → j ≤ k → part_by L c j s ≡ part_by L c j t → part_by L c k s ≡ part_by L c k t
  part_stays j zero s t l e = let none : j ≡ 0 = omega arith in rw none at e
  part_stays j (suc k) s t l e =
      ⊎_elim (λ q. rw q at e) (λ w. part-next k s t (part_stays j k s t (le_of_suc-le-suc w) e)) (eq-or-lt_of_le l)

-- The parts after k disks depend on these only.
pub part_same : (L : Layout) (c f : ℕ → Bool) (k : ℕ) → ((i : ℕ) → i < k → c i ≡ f i) → part_by L c k ≡ part_by L f k
unfolding part_by
part_same L c f zero same = refl
part_same L c f (suc k) same =
    ap₂ (λ (b : Bool) (p : ℕ → ℕ). cond b (united (lower L k) (higher L k) p) p) (same k (lt-suc_self k))
    (part_same L c f k (λ i l. same i (le_step l)))

-- ---- joined stripes

-- R is reflexive, symmetric and transitive, and holds of the two stripes of each of the first k disks that is one of c.
pub record Joins (L : Layout) (c : ℕ → Bool) (k : ℕ) (R : ℕ → ℕ → Type 0) : Type 0 where
  pub self : (s : ℕ) → R s s
  pub back : (s t : ℕ) → R s t → R t s
  pub chain : (r s t : ℕ) → R r s → R s t → R r t
  pub disk : (d : ℕ) → d < k → c d ≡ true → R (lower L d) (higher L d)

-- It holds of a stripe and the one that names its part.
part-least : (L : Layout) (c : ℕ → Bool) (k : ℕ) (R : ℕ → ℕ → Type 0) → Joins L c k R → (s : ℕ) → R s (part_by L c k s)
unfolding part_by united
part-least L c zero R j s = j.self s
part-least L c (suc k) R j s =
    let up : (s : ℕ) → R s (part_by L c k s) =
    part-least L c k R (record { self = j.self; back = j.back; chain = j.chain; disk = λ d l. j.disk d (le_step l) }) in
    by_cases (λ (b : Bool). R s (cond b (united (lower L k) (higher L k) (part_by L c k)) (part_by L c k) s)) (c k)
    (λ h.
    by_cases (λ (b : Bool). R s (cond b (part_by L c k (lower L k)) (part_by L c k s))) (eqb (part_by L c k s) (part_by L c k (higher L k)))
    (λ q.
    let same : part_by L c k (higher L k) ≡ part_by L c k s = sym (eqb-true (part_by L c k s) (part_by L c k (higher L k)) q) in
    let end : R (part_by L c k s) (higher L k) = j.back _ _ (subst (R (higher L k)) same (up (higher L k))) in
    j.chain _ _ _ (j.chain _ _ _ (up s) end)
    (j.chain _ _ _ (j.back _ _ (j.disk k (lt-suc_self k) h)) (up (lower L k))))
    (λ q. up s))
    (λ h. up s)

-- So the name is below any bound on the stripes.
pub part-bound : (L : Layout) (c : ℕ → Bool) → TwoStripes L → (n : ℕ) → L.stripe_bound ≤ n → (k s : ℕ) → k ≤ L.disks → s < n
    → part_by L c k s < n
part-bound L c two n bound k s l h =
    (part-least L c k (λ s t. (s < n) ↔ (t < n))
    (record {
      self = λ s. (λ a. a, λ a. a);
      back = λ s t f. (f.1, f.0);
      chain = λ r s t f g. (λ a. g.0 (f.0 a), λ a. f.1 (g.1 a));
      disk = λ d w q.
          let first = lower-bound L two d (omega arith) in
          let second = higher-bound L two d (omega arith) in
          (λ a. omega arith, λ a. omega arith);
    }) s).0 h

module _ (L : Layout) (c : ℕ → Bool) where
  -- Joined is in one part.
  pub joined_of : (s t : ℕ) → part L c s ≡ part L c t → joined L c s t ≡ true
  unfolding joined
  joined_of s t e = eq-eqb (part L c s) (part L c t) e

  pub is_joined : (s t : ℕ) → joined L c s t ≡ true → part L c s ≡ part L c t
  unfolding joined
  is_joined s t h = eqb-true (part L c s) (part L c t) h

  pub joined_self : (s : ℕ) → joined L c s s ≡ true
  joined_self s = joined_of s s refl

  pub joined_comm : (s t : ℕ) → joined L c s t ≡ joined L c t s
  unfolding joined
  joined_comm s t = eqb_comm (part L c s) (part L c t)

  pub joined_back : (s t : ℕ) → joined L c s t ≡ true → joined L c t s ≡ true
  joined_back s t h = sym (joined_comm s t) ∙ h

  pub joined_chain : (r s t : ℕ) → joined L c r s ≡ true → joined L c s t ≡ true → joined L c r t ≡ true
  joined_chain r s t h k = joined_of r t (is_joined r s h ∙ is_joined s t k)

  -- A disk of c joins its two stripes.
  pub joined-disk : (d : ℕ) → d < L.disks → c d ≡ true → joined L c (lower L d) (higher L d) ≡ true
  unfolding part
  joined-disk d l h =
      joined_of (lower L d) (higher L d)
      (part_stays L c (suc d) L.disks (lower L d) (higher L d) l (part-disk L c d h))

  joined-all : Joins L c L.disks (λ s t. joined L c s t ≡ true)
  joined-all = record { self = joined_self; back = joined_back; chain = joined_chain; disk = joined-disk }

  -- Each stripe is joined with the one that names its part.
  pub joined-part : (s : ℕ) → joined L c s (part L c s) ≡ true
  unfolding part
  joined-part s = part-least L c L.disks (λ s t. joined L c s t ≡ true) joined-all s

  -- Of such relations joined is the least.
  pub joined-least : (R : ℕ → ℕ → Type 0) → Joins L c L.disks R → (s t : ℕ) → joined L c s t ≡ true → R s t
  unfolding part
  joined-least R j s t h =
      j.chain s (part L c s) t (part-least L c L.disks R j s)
      (j.back t (part L c s) (subst (R t) (sym (is_joined s t h)) (part-least L c L.disks R j t)))

  -- A disk between joined stripes has both or none of them in any one part.
  pub joined-whole : (d t : ℕ) → joined L c (lower L d) (higher L d) ≡ true → crosses L (λ s. joined L c s t) d ≡ false
  unfolding joined crosses
  joined-whole d t h = rw (is_joined (lower L d) (higher L d) h) (neither (eqb (part L c (higher L d)) (part L c t)))
    where
      neither : (b : Bool) → cond b (not b) b ≡ false
      neither true = refl
      neither false = refl

  -- One between stripes that are not joined has just one of them in the part of the lower one.
  pub apart-crosses : (d : ℕ) → joined L c (lower L d) (higher L d) ≡ false → crosses L (λ s. joined L c s (lower L d)) d ≡ true
  unfolding crosses
  apart-crosses d h =
      ap₂ (λ (s t : Bool). cond s (not t) t) (joined_self (lower L d)) (joined_comm (higher L d) (lower L d) ∙ h)
