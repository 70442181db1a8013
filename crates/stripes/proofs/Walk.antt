-- Walks from disk to disk along their stripes, within a set of disks that has just two on each stripe touched.
-- Assumes nothing.
use mathlib.Core.Path.{◌≡◌, refl, sym, ◌∙◌, ap, ap₂, subst}
use mathlib.Core.Bool.{Bool, true, false, not, ◌&&◌, true≢false}
use mathlib.Core.Logic.{◌⊎◌, inl, inr, ⊎_elim}
use Prim.Native.Nat.{ℕ, zero, suc, ◌+◌, ◌-◌, ◌≤◌, ◌<◌}
use native.Mathlib.Nat.{lt_of_le_of_lt}
use native.Mathlib.Omega.{arith}
use borrow.Author.Tests.{eqb-true, eqb-false, ne_eqb, not-true}
use lib.Dec.{eqb}
use Rattle.stripes.specs.Fold.{lowest}
use Rattle.stripes.specs.System.{Layout, TwoStripes, on, other_than}
use Rattle.stripes.specs.Repair.{Entry}
use Rattle.stripes.specs.Cycle.{Paired, partner}
use Rattle.stripes.proofs.Fold.{and_left, and_right, and_both, lt_or_le, lowest_is}
use Rattle.stripes.proofs.Degree.{Other, other-first, other_second, on-low, on-high, on_which, on-bound}
use Rattle.stripes.proofs.Core.{paired_other}
use Rattle.stripes.proofs.Counts.{different-below}

-- ---- the two stripes of a disk

-- t is the stripe of disk d besides s.
pub record Besides (L : Layout) (d s t : ℕ) : Type 0 where
  pub lies : on L d t ≡ true
  pub differs : t ≡ s → ⊥
  pub only : (x : ℕ) → on L d x ≡ true → (x ≡ s) ⊎ (x ≡ t)

module _ (L : Layout) (two : TwoStripes L) (d : ℕ) (l : d < L.disks) where
  apart : two.high d ≡ two.low d → ⊥
  apart e = let h = two.order d l in omega arith

  besides-of : (s t a b : ℕ) → s ≡ a → t ≡ b → (b ≡ a → ⊥) → on L d b ≡ true
      → ((x : ℕ) → on L d x ≡ true → (x ≡ a) ⊎ (x ≡ b)) → Besides L d s t
  besides-of s t a b p q differs lies which =
      record {
        lies = ap (on L d) q ∙ lies;
        differs = λ k. differs (sym q ∙ k ∙ p);
        only = λ x k. ⊎_elim (λ f. inl (f ∙ sym p)) (λ f. inr (f ∙ sym q)) (which x k);
      }

  -- The one besides a given one is the first of the list that differs from it.
  pub besides : (s : ℕ) → on L d s ≡ true → Besides L d s (other_than s (L.through d))
  besides s h =
      ⊎_elim
      (λ e.
      besides-of s (other_than s (L.through d)) (two.low d) (two.high d) e
      (ap₂ other_than e (two.two d l) ∙ other-first (two.low d) (two.high d) apart) apart (on-high L two d l) (on_which L two d l))
      (λ e.
      besides-of s (other_than s (L.through d)) (two.high d) (two.low d) e
      (ap₂ other_than e (two.two d l) ∙ other_second (two.low d) (two.high d) apart) (λ q. apart (sym q)) (on-low L two d l)
      (λ x k. ⊎_elim inr inl (on_which L two d l x k)))
      (on_which L two d l s h)

-- ---- one step

-- A disk of c and a stripe through it.
pub record Step (L : Layout) (c : ℕ → Bool) (r : Entry) : Type 0 where
  pub disk : r.disk < L.disks
  pub inside : c r.disk ≡ true
  pub lies : on L r.disk r.stripe ≡ true

-- Along the stripe to the only other disk of c there, to leave it by its other stripe.
unfoldable pub next : Layout → (ℕ → Bool) → Entry → Entry
next L c r = record { disk = partner L c r; stripe = other_than r.stripe (L.through (partner L c r)) }

-- The lowest number of which a test holds is not above any other, and below n if there is one.
pub lowest_le : (n : ℕ) (t : ℕ → Bool) (i : ℕ) → t i ≡ true → lowest n t ≤ i
lowest_le n t i h =
    ⊎_elim (λ k. absurd (true≢false (sym h ∙ (lowest_is n t).none i k))) (λ k. k) (lt_or_le i (lowest n t))

pub lowest_holds : (n : ℕ) (t : ℕ → Bool) (i : ℕ) → i < n → t i ≡ true → (lowest n t < n) × (t (lowest n t) ≡ true)
lowest_holds n t i l h =
    let below : lowest n t < n = lt_of_le_of_lt (lowest_le n t i h) l in
    (below, (lowest_is n t).found below)

module _ (L : Layout) (c : ℕ → Bool) (paired : Paired L c) (r : Entry) (step : Step L c r) where
  -- The partner is the only other disk of c on the stripe.
  pub partner_is : Other L.disks (λ i. c i && on L i r.stripe) r.disk (partner L c r)
  unfolding partner
  partner_is =
      let (j, o) = paired_other L c paired r.disk r.stripe step.disk step.inside step.lies in
      let (l, h) =
      lowest_holds L.disks other j o.inside
      (and_both (and_left (c j) (on L j r.stripe) o.holds)
      (and_both (and_right (c j) (on L j r.stripe) o.holds) (ap not (ne_eqb j r.disk o.apart)))) in
      subst (Other L.disks (λ i. c i && on L i r.stripe) r.disk) (sym (found j o l h)) o
    where
      other : ℕ → Bool
      other d = c d && (on L d r.stripe && not (eqb d r.disk))

      found : (j : ℕ) → Other L.disks (λ i. c i && on L i r.stripe) r.disk j
          → lowest L.disks other < L.disks → other (lowest L.disks other) ≡ true → lowest L.disks other ≡ j
      found j o l h =
          let q : ℕ = lowest L.disks other in
          let rest : (on L q r.stripe && not (eqb q r.disk)) ≡ true = and_right (c q) (on L q r.stripe && not (eqb q r.disk)) h in
          o.only q l
          (and_both (and_left (c q) (on L q r.stripe && not (eqb q r.disk)) h) (and_left (on L q r.stripe) (not (eqb q r.disk)) rest))
          (eqb-false q r.disk (not-true (eqb q r.disk) (and_right (on L q r.stripe) (not (eqb q r.disk)) rest)))

  pub partner-inside : c (partner L c r) ≡ true
  partner-inside = and_left (c (partner L c r)) (on L (partner L c r) r.stripe) partner_is.holds

  pub partner_lies : on L (partner L c r) r.stripe ≡ true
  partner_lies = and_right (c (partner L c r)) (on L (partner L c r) r.stripe) partner_is.holds

  pub next_step : TwoStripes L → Step L c (next L c r)
  unfolding next
  next_step two =
      record {
        disk = partner_is.inside;
        inside = partner-inside;
        lies = (besides L two (partner L c r) partner_is.inside r.stripe partner_lies).lies;
      }

-- ---- a walk

-- One of two, where it is not the other.
is_left : {A B : Type 0} → A ⊎ B → (B → ⊥) → A
is_left (inl a) h = a
is_left (inr b) h = absurd (h b)

is_right : {A B : Type 0} → A ⊎ B → (A → ⊥) → B
is_right (inl a) h = absurd (h a)
is_right (inr b) h = b

is_other_lem : (d a b : ℕ) → ((d ≡ a → ⊥) → d ≡ b) → (d ≡ a) ⊎ (d ≡ b)
is_other_lem d a b h = go (eqb d a) refl
  where
    go : (t : Bool) → eqb d a ≡ t → (d ≡ a) ⊎ (d ≡ b)
    go true e = inl (eqb-true d a e)
    go false e = inr (h (eqb-false d a e))

-- A walk through c that never turns back, where no stripe holds a third disk of c and no disk has a third stripe.
pub record Walk (L : Layout) (c : ℕ → Bool) (at : ℕ → Entry) : Type 0 where
  pub step : (i : ℕ) → Step L c (at i)
  pub there : (i : ℕ) → on L (at (suc i)).disk (at i).stripe ≡ true
  pub moves : (i : ℕ) → (at (suc i)).disk ≡ (at i).disk → ⊥
  pub turns : (i : ℕ) → (at (suc i)).stripe ≡ (at i).stripe → ⊥
  pub only_disk : (i d : ℕ) → d < L.disks → c d ≡ true → on L d (at i).stripe ≡ true → (d ≡ (at i).disk) ⊎ (d ≡ (at (suc i)).disk)
  pub only_stripe : (i s : ℕ) → on L (at (suc i)).disk s ≡ true → (s ≡ (at i).stripe) ⊎ (s ≡ (at (suc i)).stripe)

-- The entries that follow r, one by one.
unfoldable pub walk_from : Layout → (ℕ → Bool) → Entry → ℕ → Entry
walk_from L c r zero = r
walk_from L c r (suc i) = next L c (walk_from L c r i)

module _ (L : Layout) (two : TwoStripes L) (c : ℕ → Bool) (paired : Paired L c) (r : Entry) (start : Step L c r) where
  pub walk_step : (i : ℕ) → Step L c (walk_from L c r i)
  unfolding walk_from
  walk_step zero = start
  walk_step (suc i) = next_step L c paired (walk_from L c r i) (walk_step i) two

  pub walk_is : Walk L c (walk_from L c r)
  unfolding walk_from next
  walk_is =
      record {
        step = walk_step;
        there = there;
        moves = λ i. (met i).apart;
        turns = λ i. (left i).differs;
        only_disk = λ i d l h k. is_other_lem d (walk_from L c r i).disk (partner L c (walk_from L c r i)) ((met i).only d l (and_both h k));
        only_stripe = λ i. (left i).only;
      }
    where
      there : (i : ℕ) → on L (partner L c (walk_from L c r i)) (walk_from L c r i).stripe ≡ true
      there i = partner_lies L c paired (walk_from L c r i) (walk_step i)

      met : (i : ℕ) → Other L.disks (λ d. c d && on L d (walk_from L c r i).stripe) (walk_from L c r i).disk (partner L c (walk_from L c r i))
      met i = partner_is L c paired (walk_from L c r i) (walk_step i)

      left : (i : ℕ) → Besides L (partner L c (walk_from L c r i)) (walk_from L c r i).stripe (walk_from L c r (suc i)).stripe
      left i = besides L two (partner L c (walk_from L c r i)) (met i).inside (walk_from L c r i).stripe (there i)

-- Entries i and j of a walk are the same.
abbrev pub Same : (ℕ → Entry) → ℕ → ℕ → Type 0
Same at i j = ((at i).disk ≡ (at j).disk) × ((at i).stripe ≡ (at j).stripe)

module _ (L : Layout) (c : ℕ → Bool) (at : ℕ → Entry) (walk : Walk L c at) where
  -- A disk left along the same stripe as another is that one or the one reached from there.
  one-stripe : (i j : ℕ) → (at i).stripe ≡ (at j).stripe → ((at i).disk ≡ (at j).disk) ⊎ ((at i).disk ≡ (at (suc j)).disk)
  one-stripe i j e =
      let s = walk.step i in
      walk.only_disk j (at i).disk s.disk s.inside (ap (on L (at i).disk) (sym e) ∙ s.lies)

  -- A disk reached twice is reached along the same stripe, or along the one by which it was left.
  one-disk : (i j : ℕ) → (at (suc i)).disk ≡ (at (suc j)).disk → ((at i).stripe ≡ (at j).stripe) ⊎ ((at i).stripe ≡ (at (suc j)).stripe)
  one-disk i j e = walk.only_stripe j (at i).stripe (ap (λ (d : ℕ). on L d (at i).stripe) (sym e) ∙ walk.there i)

  -- Where two entries are the same, so are the entries before them.
  same-before : (i j : ℕ) → Same at (suc i) (suc j) → Same at i j
  same-before i j (d, s) =
      let e : (at i).stripe ≡ (at j).stripe = is_left (one-disk i j d) (λ q. walk.turns i (s ∙ sym q)) in
      (is_left (one-stripe i j e) (λ q. walk.moves i (d ∙ sym q)), e)

  same_start : (j i g : ℕ) → i ≡ j + g → Same at i j → Same at g 0
  same_start zero i g e s = subst (λ (k : ℕ). Same at k 0) (omega arith) s
  same_start (suc j) zero g e s = absurd (omega arith)
  same_start (suc j) (suc i) g e s = same_start j i g (omega arith) (same-before i j s)

  -- A walk does not come back to a stripe from its other end.
  no_return : (g i j : ℕ) → i ≡ g + j → (at i).stripe ≡ (at j).stripe → (at i).disk ≡ (at (suc j)).disk → ⊥
  no_return zero i j e s d = walk.moves j (sym d ∙ ap (λ (k : ℕ). (at k).disk) (omega arith))
  no_return (suc zero) i j e s d = walk.turns j (ap (λ (k : ℕ). (at k).stripe) (omega arith) ∙ s)
  no_return (suc (suc g)) zero j e s d = absurd (omega arith)
  no_return (suc (suc g)) (suc i) j e s d =
      let t : (at i).stripe ≡ (at (suc j)).stripe = is_right (one-disk i j d) (λ q. walk.turns i (s ∙ sym q)) in
      no_return g i (suc j) (omega arith) t (is_right (one-stripe i (suc j) t) (λ q. walk.moves i (d ∙ sym q)))

  -- So when it leaves a stripe again, it has come back to its start.
  stripe-again : (j i g : ℕ) → i ≡ j + g → (at i).stripe ≡ (at j).stripe → Same at g 0
  stripe-again j i g e s = same_start j i g e (is_left (one-stripe i j s) (no_return g i j (omega arith) s), s)

-- What differs at any two numbers up to m is the same only at the same number.
pub same_number : (f : ℕ → ℕ) (m : ℕ) → ((i j : ℕ) → j < i → i ≤ m → f i ≡ f j → ⊥) → (i j : ℕ) → i ≤ m → j ≤ m → f i ≡ f j → i ≡ j
same_number f m differ i j l k e =
    let above : ¬ (i < j) = λ h. differ j i h k (sym e) in
    let below : ¬ (j < i) = λ h. differ i j h l e in
    omega arith

-- The walk up to entry m, as long as it has not come back to its first disk.
module _ (L : Layout) (c : ℕ → Bool) (at : ℕ → Entry) (walk : Walk L c at) (m : ℕ)
    (fresh : (i : ℕ) → 0 < i → i ≤ m → (at i).disk ≡ (at 0).disk → ⊥) where
  pub stripes_differ : (i j : ℕ) → j < i → i ≤ m → (at i).stripe ≡ (at j).stripe → ⊥
  stripes_differ i j l k e = fresh (i - j) (omega arith) (omega arith) (stripe-again L c at walk j i (i - j) (omega arith) e).0

  pub disks-differ : (i j : ℕ) → j < i → i ≤ m → (at i).disk ≡ (at j).disk → ⊥
  disks-differ i zero l k e = fresh i l k e
  disks-differ i (suc j) l k e =
      ⊎_elim (stripes_differ i j (omega arith) k) (stripes_differ i (suc j) l k)
      (walk.only_stripe j (at i).stripe (ap (λ (d : ℕ). on L d (at i).stripe) (sym e) ∙ (walk.step i).lies))

  -- Its stripes are different, so it is not longer than there are stripes.
  pub walk_bound : TwoStripes L → m < L.stripe_bound
  walk_bound two =
      different-below (suc m) L.stripe_bound (λ i. (at i).stripe)
      (λ i l. let s = walk.step i in on-bound L two (at i).disk s.disk (at i).stripe s.lies)
      (λ i j l k. same_number (λ i. (at i).stripe) m stripes_differ i j (omega arith) (omega arith))

  -- When it reaches its first disk again, it goes on as it began.
  pub comes_back : (at (suc m)).disk ≡ (at 0).disk → Same at (suc m) 0
  comes_back e =
      (e, sym (is_right (walk.only_stripe m (at 0).stripe (ap (λ (d : ℕ). on L d (at 0).stripe) e ∙ (walk.step 0).lies)) (early m refl)))
    where
      early : (k : ℕ) → m ≡ k → (at 0).stripe ≡ (at m).stripe → ⊥
      early zero q s = walk.moves 0 (ap (λ (k : ℕ). (at (suc k)).disk) (sym q) ∙ e)
      early (suc k) q s = stripes_differ m 0 (omega arith) (omega arith) (sym s)
