-- Stripes that disks lead to, told by sets of disks with two ends: at most k disks lead from one stripe to another exactly if a set of at most k
-- disks has these two for its ends.
-- Assumes nothing.
use mathlib.Core.Path.{◌≡◌, refl, sym, ◌∙◌, subst}
use mathlib.Core.Bool.{Bool, true, false, cond, not, ◌&&◌, true≢false}
use mathlib.Core.Logic.{◌⊎◌, inl, inr, ⊎_elim}
use Prim.Native.Nat.{ℕ, zero, suc, ◌+◌, ◌≤◌, ◌<◌}
use native.Mathlib.Nat.{le_refl, eq-or-lt_of_le, le_of_suc-le-suc}
use native.Mathlib.Omega.{arith}
use borrow.Author.Tests.{leb-true, le-leb, eq-eqb, eqb-true, eqb-false}
use lib.Dec.{eqb, leb}
use Rattle.stripes.specs.Fold.{count}
use Rattle.stripes.specs.System.{Layout, TwoStripes, on, other_than}
use Rattle.stripes.proofs.Fold.{by_cases, lt_or_le, and_left, and_right, and_both, same_test, count-some, count_none, count-without, lowest_is}
use Rattle.stripes.proofs.Ends.{Ends, ends-none, ends-back, ends-chain, ends_chain_count, ends-over, ends_found, ends-step, ends_step_count, ends_wider}
use Rattle.reach.specs.Reached.{some, reached, steps_to, word_stripes}
use Rattle.neighbours.specs.Near.{meets}
use Rattle.neighbours.proofs.Meeting.{or_which, or_first, or_second, some_found, some_of, on-other, other_back, other-bound, meets_is, meets_of}
use Rattle.smallest.specs.Leads.{leads, disks_to}

-- ---- one disk

-- A single disk counts one.
count_single : (n d : ℕ) → d < n → count n (λ i. eqb i d) ≡ 1
count_single n d l =
    let one = count-without n (λ i. eqb i d) d l (eq-eqb d d refl) in
    let rest : count n (λ i. eqb i d && not (eqb i d)) ≡ 0 =
    count_none n (λ i w. by_cases (λ (b : Bool). (b && not b) ≡ false) (eqb i d) (λ h. refl) (λ h. refl)) in
    omega arith

-- ---- from step to step

-- The last of the disks that lead to a stripe may be left out, or it comes from a stripe that fewer lead to.
leads-last : (L : Layout) (c : ℕ → Bool) (s k t : ℕ) → leads L c s (suc k) t ≡ true
    → (leads L c s k t ≡ true) ⊎ ((x : ℕ) × (leads L c s k x ≡ true) × (meets L c x t ≡ true))
unfolding reached
leads-last L c s k t h =
    ⊎_elim (λ q. inl q)
    (λ q.
    let (x, l, e) = some_found word_stripes (λ x. leads L c s k x && meets L c x t) q in
    inr (x, and_left (leads L c s k x) (meets L c x t) e, and_right (leads L c s k x) (meets L c x t) e))
    (or_which (leads L c s k t) (some word_stripes (λ x. leads L c s k x && meets L c x t)) h)

leads_keep : (L : Layout) (c : ℕ → Bool) (s k t : ℕ) → leads L c s k t ≡ true → leads L c s (suc k) t ≡ true
unfolding reached
leads_keep L c s k t h = or_first (leads L c s k t) (some word_stripes (λ x. leads L c s k x && meets L c x t)) h

leads-next : (L : Layout) (c : ℕ → Bool) (s k x t : ℕ) → x < word_stripes → leads L c s k x ≡ true → meets L c x t ≡ true
    → leads L c s (suc k) t ≡ true
unfolding reached
leads-next L c s k x t l h m =
    or_second (leads L c s k t) (some word_stripes (λ x. leads L c s k x && meets L c x t))
    (some_of word_stripes (λ x. leads L c s k x && meets L c x t) x l (and_both h m))

-- It takes no disk to get from a stripe to itself, and without a disk no other stripe is reached.
pub leads_self : (L : Layout) (c : ℕ → Bool) (s k : ℕ) → leads L c s k s ≡ true
unfolding reached
leads_self L c s zero = eq-eqb s s refl
leads_self L c s (suc k) = leads_keep L c s k s (leads_self L c s k)

same-leads : (L : Layout) (c : ℕ → Bool) (s k t : ℕ) → t ≡ s → leads L c s k t ≡ true
same-leads L c s k t q = subst (λ (x : ℕ). leads L c s k x ≡ true) (sym q) (leads_self L c s k)

pub leads-none : (L : Layout) (c : ℕ → Bool) (s t : ℕ) → leads L c s 0 t ≡ true → t ≡ s
unfolding reached
leads-none L c s t h = eqb-true t s h

-- More disks lead at least as far.
pub leads_more : (L : Layout) (c : ℕ → Bool) (s j k t : ℕ) → j ≤ k → leads L c s j t ≡ true → leads L c s k t ≡ true
leads_more L c s j zero t le h = let none : j ≡ 0 = omega arith in subst (λ (i : ℕ). leads L c s i t ≡ true) none h
leads_more L c s j (suc k) t le h =
    ⊎_elim (λ (q : j ≡ suc k). subst (λ (i : ℕ). leads L c s i t ≡ true) q h)
    (λ l. leads_keep L c s k t (leads_more L c s j k t (le_of_suc-le-suc l) h))
    (eq-or-lt_of_le le)

-- ---- sets with two ends

-- No disk has its two ends on one stripe: any set twice in a row is empty.
ends_empty : (L : Layout) (c : ℕ → Bool) (s : ℕ) → (f : Ends L c s s) × (count L.disks f.set ≤ 0)
unfolding ends-chain
ends_empty L c s =
    let f = ends-none L c s in
    let none : count L.disks (ends-chain L c s s s f f).set ≡ 0 =
    count_none L.disks (λ i l. by_cases (λ (b : Bool). cond b (not b) b ≡ false) (f.set i) (λ h. refl) (λ h. refl)) in
    (ends-chain L c s s s f f, omega arith)

module _ (L : Layout) (two : TwoStripes L) where
  -- One more disk behind such a set.
  pub ends-longer : (c : ℕ → Bool) (s x : ℕ) (f : Ends L c s x) (d : ℕ) (l : d < L.disks) (h : c d ≡ true) (there : on L d x ≡ true)
      → count L.disks (ends-step L two c s x f d l h there).set ≤ count L.disks f.set + 1
  unfolding ends-step ends-over
  ends-longer c s x f d l h there =
      let both = ends_chain_count L c s x (other_than x (L.through d)) f (ends-over L two c d l h x there) in
      let one = count_single L.disks d l in
      omega arith

  -- Disks that lead from one stripe to another have a set with these two ends,
  pub leads-ends : (c : ℕ → Bool) (s k t : ℕ) → leads L c s k t ≡ true → (f : Ends L c s t) × (count L.disks f.set ≤ k)
  leads-ends c s zero t h =
      subst (λ (x : ℕ). (f : Ends L c s x) × (count L.disks f.set ≤ 0)) (sym (leads-none L c s t h)) (ends_empty L c s)
  leads-ends c s (suc k) t h =
      ⊎_elim (λ q. let (f, few) = leads-ends c s k t q in (f, omega arith))
      (λ q.
      let (x, near, m) = q in
      let (f, few) = leads-ends c s k x near in
      let met = meets_is L c x t m in
      let more = ends-longer c s x f met.disk met.inside met.held met.here in
      subst (λ (x : ℕ). (f : Ends L c s x) × (count L.disks f.set ≤ suc k)) met.next
      (ends-step L two c s x f met.disk met.inside met.held met.here, omega arith))
      (leads-last L c s k t h)

  module _ (room : L.stripe_bound ≤ word_stripes) where
    -- and a set with two ends leads from one to the other: a disk on the last stripe is taken off, and the others lead to its other stripe.
    pub ends-leads : (c : ℕ → Bool) (s k t : ℕ) → t < L.stripe_bound → (f : Ends L c s t) → count L.disks f.set ≤ k
        → leads L c s k t ≡ true
    ends-leads c s zero t l f few =
        by_cases (λ (b : Bool). eqb t s ≡ b → leads L c s 0 t ≡ true) (eqb t s) (λ _ q. same-leads L c s 0 t (eqb-true t s q))
        (λ _ q.
        let (d, w, h, there) = ends_found L two c s t (eqb-false t s q) f in
        let one = count-some L.disks f.set d w h in
        absurd (omega arith))
        refl
    ends-leads c s (suc k) t l f few =
        by_cases (λ (b : Bool). eqb t s ≡ b → leads L c s (suc k) t ≡ true) (eqb t s) (λ _ q. same-leads L c s (suc k) t (eqb-true t s q))
        (λ _ q.
        let (d, w, h, there) = ends_found L two c s t (eqb-false t s q) f in
        let held : c d ≡ true = f.within d h in
        let y : ℕ = other_than t (L.through d) in
        let bound : y < L.stripe_bound = other-bound L two d w t there in
        let one = ends_step_count L two c s t f d w held there h in
        leads-next L c s k y t (omega arith) (ends-leads c s k y bound (ends-step L two c s t f d w held there) (omega arith))
        (meets_of L c y t d w held (on-other L two d w t there) (other_back L two d w t there)))
        refl

    -- So it is the same from the last stripe to the first,
    pub leads_back : (c : ℕ → Bool) (s k t : ℕ) → s < L.stripe_bound → leads L c s k t ≡ true → leads L c t k s ≡ true
    unfolding ends-back
    leads_back c s k t l h = let (f, few) = leads-ends c s k t h in ends-leads c t k s l (ends-back L c s t f) few

    -- what leads on leads to the end,
    pub leads_chain : (c : ℕ → Bool) (r j s k t : ℕ) → t < L.stripe_bound → leads L c r j s ≡ true → leads L c s k t ≡ true
        → leads L c r (j + k) t ≡ true
    leads_chain c r j s k t l p q =
        let (f, few) = leads-ends c r j s p in
        let (g, fewer) = leads-ends c s k t q in
        let both = ends_chain_count L c r s t f g in
        ends-leads c r (j + k) t l (ends-chain L c r s t f g) (omega arith)

    -- and disks of a set lead as far in a larger one.
    pub leads_wider : (c e : ℕ → Bool) → ((i : ℕ) → c i ≡ true → e i ≡ true) → (s k t : ℕ) → t < L.stripe_bound
        → leads L c s k t ≡ true → leads L e s k t ≡ true
    unfolding ends_wider
    leads_wider c e sub s k t l h = let (f, few) = leads-ends c s k t h in ends-leads e s k t l (ends_wider L c e sub s t f) few

    -- A disk leads from one of its stripes to the other.
    pub leads-disk : (c : ℕ → Bool) (d : ℕ) → d < L.disks → c d ≡ true → (t : ℕ) → on L d t ≡ true
        → leads L c t 1 (other_than t (L.through d)) ≡ true
    unfolding ends-over
    leads-disk c d l h t there =
        let one = count_single L.disks d l in
        ends-leads c t 1 (other_than t (L.through d)) (other-bound L two d l t there) (ends-over L two c d l h t there) (omega arith)

-- The number of disks to a stripe is at most j exactly if at most j disks lead there.
pub disks_to_lem : (L : Layout) (c : ℕ → Bool) (s m t j : ℕ) → j ≤ m → leb (disks_to L c s m t) j ≡ leads L c s j t
unfolding steps_to
disks_to_lem L c s m t j le =
    let is = lowest_is (suc m) (λ k. leads L c s k t) in
    same_test (leb (disks_to L c s m t) j) (leads L c s j t)
    (λ h.
    let near = leb-true (disks_to L c s m t) j h in
    leads_more L c s (disks_to L c s m t) j t near (is.found (omega arith)))
    (λ h.
    ⊎_elim (λ l. absurd (true≢false (sym h ∙ is.none j l))) (λ near. le-leb (disks_to L c s m t) j near) (lt_or_le j (disks_to L c s m t)))

-- As a number: so many lead there, if not more than m do, and it is no more than any number that does.
pub disks_lead : (L : Layout) (c : ℕ → Bool) (s m t : ℕ) → disks_to L c s m t ≤ m → leads L c s (disks_to L c s m t) t ≡ true
disks_lead L c s m t le =
    sym (disks_to_lem L c s m t (disks_to L c s m t) le) ∙ le-leb (disks_to L c s m t) (disks_to L c s m t) (le_refl (disks_to L c s m t))

pub disks-least : (L : Layout) (c : ℕ → Bool) (s m t j : ℕ) → j ≤ m → leads L c s j t ≡ true → disks_to L c s m t ≤ j
disks-least L c s m t j le h = leb-true (disks_to L c s m t) j (disks_to_lem L c s m t j le ∙ h)
