-- Shortest ways from one stripe to another, as sets of disks with these two ends: which disks are on one, and that it leads but once from the
-- stripes that some number of disks lead to.
-- Assumes nothing.
use mathlib.Core.Path.{◌≡◌, refl, sym, ◌∙◌, ap, ap₂, subst}
use mathlib.Core.Bool.{Bool, true, false, cond, not, ◌&&◌, true≢false}
use mathlib.Core.Logic.{◌⊎◌, inl, inr, ⊎_elim}
use Prim.Native.Nat.{ℕ, zero, suc, ◌+◌, ◌≤◌, ◌<◌}
use native.Mathlib.Nat.{le_refl}
use native.Mathlib.Omega.{arith}
use borrow.Author.Tests.{leb-true, leb-false, eq-eqb, eqb-true, eqb-false}
use lib.Dec.{eqb, leb}
use Rattle.stripes.specs.Fold.{◌⊕◌, xsum, gate, count, lowest}
use Rattle.stripes.specs.System.{Layout, TwoStripes, on, other_than, lower, higher, sum_over}
use Rattle.stripes.specs.Erased.{without}
use Rattle.stripes.specs.Joined.{crosses}
use Rattle.stripes.proofs.Xor.{⊕-zero}
use Rattle.stripes.proofs.Fold.{by_cases, lt_or_le, and_left, and_right, and_both, fails_with, count-some, count_found, count-zero-none, count-without, gate_and, gate-⊕, gate_swap, xsum_ext, xsum-zero, xsum-⊕, xsum_at, lowest_is}
use Rattle.stripes.proofs.Peel.{without_other}
use Rattle.stripes.proofs.Counts.{count-different}
use Rattle.stripes.proofs.Degree.{on-low, on_which}
use Rattle.stripes.proofs.Joined.{lower_is, higher_is}
use Rattle.stripes.proofs.Ends.{Ends, ends-back, ends-chain, ends_chain_count, ends-over, ends_found, ends-step, ends_step_count, crosses-from, cut_sum_lem}
use Rattle.reach.specs.Reached.{word_stripes}
use Rattle.smallest.specs.Leads.{leads, disks_to}
use Rattle.smallest.specs.Ways.{way_level, within}
use Rattle.neighbours.proofs.Meeting.{on-other, other_back, other-bound}
use Rattle.smallest.proofs.Leads.{leads_self, leads_more, ends-longer, leads-ends, ends-leads, leads_back, leads_chain, leads-disk, disks_to_lem, disks_lead, disks-least}

-- ---- out of some stripes

-- A set whose first end is among some stripes and whose last is not has a disk that crosses.
module _ (L : Layout) (two : TwoStripes L) (c : ℕ → Bool) (s t : ℕ) (first : s < L.stripe_bound) (last : t < L.stripe_bound) where
  pub crossed_some : (g : Ends L c s t) → (some : ℕ → Bool) → some s ≡ true → some t ≡ false
      → (d : ℕ) × (d < L.disks) × (g.set d ≡ true) × (crosses L some d ≡ true)
  unfolding gate
  crossed_some g some inside outside =
      ⊎_elim
      (λ found.
      let (d, l, h) = count_found L.disks (λ d. g.set d && crosses L some d) found in
      (d, l, and_left (g.set d) (crosses L some d) h, and_right (g.set d) (crosses L some d) h))
      (λ none.
      let zero-sum : xsum L.disks (λ d. gate (crosses L some d) (gate (g.set d) 1)) ≡ 0 =
      xsum-zero L.disks (λ d l.
      gate_and (crosses L some d) (g.set d) 1
      ∙ ap (λ (b : Bool). gate b 1) (count-zero-none L.disks (λ d. g.set d && crosses L some d) (omega arith) d l)) in
      let one-sum : xsum L.stripe_bound (λ x. gate (some x) (sum_over L (λ d. gate (g.set d) 1) x)) ≡ 1 =
      xsum_ext L.stripe_bound (λ x l.
      ap (gate (some x)) (g.sum 1 x) ∙ gate-⊕ (some x) (gate (eqb x s) 1) (gate (eqb x t) 1)
      ∙ ap₂ (λ (p q : ℕ). p ⊕ q) (gate_swap (some x) (eqb x s) 1) (gate_swap (some x) (eqb x t) 1))
      ∙ xsum-⊕ L.stripe_bound (λ x. gate (eqb x s) (gate (some x) 1)) (λ x. gate (eqb x t) (gate (some x) 1))
      ∙ ap₂ (λ (p q : ℕ). p ⊕ q) (xsum_at L.stripe_bound s first (λ x. gate (some x) 1)) (xsum_at L.stripe_bound t last (λ x. gate (some x) 1))
      ∙ ap₂ (λ (p q : Bool). gate p 1 ⊕ gate q 1) inside outside ∙ ⊕-zero 1 in
      let same = cut_sum_lem L two some (λ d. gate (g.set d) 1) in
      absurd (omega arith))
      (lt_or_le 0 (count L.disks (λ d. g.set d && crosses L some d)))

-- A disk lies on the stripe that is listed first.
on-lower : (L : Layout) (two : TwoStripes L) (d : ℕ) → d < L.disks → on L d (lower L d) ≡ true
on-lower L two d l = ap (on L d) (lower_is L two d l) ∙ on-low L two d l

-- A disk that crosses leads from one of these stripes to another.
pub crosses_where : (L : Layout) (two : TwoStripes L) (some : ℕ → Bool) (d : ℕ) → d < L.disks → crosses L some d ≡ true
    → (x : ℕ) × (on L d x ≡ true) × (some x ≡ true)
unfolding crosses
crosses_where L two some d l r = go (some (lower L d)) refl
  where
    go : (b : Bool) → some (lower L d) ≡ b → (x : ℕ) × (on L d x ≡ true) × (some x ≡ true)
    go true e = (lower L d, on-lower L two d l, e)
    go false e = (
      higher L d,
      on-other L two d l (lower L d) (on-lower L two d l),
      ap (λ (b : Bool). cond b (not (some (higher L d))) (some (higher L d))) (sym e) ∙ r,
    )

-- ---- a disk on a way

-- Disk d on a way from stripe s to stripe x over at most i disks of c: so many come before it, to the stripe that is near, and so many behind.
pub record Passed (L : Layout) (c : ℕ → Bool) (s x i d : ℕ) : Type 0 where
  pub near : ℕ
  pub before : ℕ
  pub behind : ℕ
  pub there : on L d near ≡ true
  pub to : leads L c s before near ≡ true
  pub back : leads L c x behind (other_than near (L.through d)) ≡ true
  pub few : before + 1 + behind ≤ i

-- The number of disks on a way over disk d, by its lower stripe first or by its higher one.
module _ (L : Layout) (c : ℕ → Bool) (s t k d : ℕ) where
  abbrev upward : ℕ
  upward = disks_to L c s k (lower L d) + 1 + disks_to L c t k (higher L d)

  abbrev downward : ℕ
  downward = disks_to L c s k (higher L d) + 1 + disks_to L c t k (lower L d)

  -- The level of the disk in each of three cases.
  level-up : leb upward k ≡ true → way_level L c s t k d ≡ disks_to L c s k (lower L d)
  unfolding way_level
  level-up h = ap (λ (b : Bool). cond b (disks_to L c s k (lower L d)) (cond (leb downward k) (disks_to L c s k (higher L d)) k)) h

  level-down : leb upward k ≡ false → leb downward k ≡ true → way_level L c s t k d ≡ disks_to L c s k (higher L d)
  unfolding way_level
  level-down h q =
      ap₂ (λ (a b : Bool). cond a (disks_to L c s k (lower L d)) (cond b (disks_to L c s k (higher L d)) k)) h q

  level_none : leb upward k ≡ false → leb downward k ≡ false → way_level L c s t k d ≡ k
  unfolding way_level
  level_none h q =
      ap₂ (λ (a b : Bool). cond a (disks_to L c s k (lower L d)) (cond b (disks_to L c s k (higher L d)) k)) h q

module _ (L : Layout) (two : TwoStripes L) (c : ℕ → Bool) (s t k d : ℕ) (l : d < L.disks) where
  -- The disks before it are its level,
  level-passed : way_level L c s t k d < k → (p : Passed L c s t k d) × (p.before ≡ way_level L c s t k d)
  level-passed = go (leb (upward L c s t k d) k) (leb (downward L c s t k d) k) refl refl
    where
      go : (a b : Bool) → leb (upward L c s t k d) k ≡ a → leb (downward L c s t k d) k ≡ b
          → way_level L c s t k d < k → (p : Passed L c s t k d) × (p.before ≡ way_level L c s t k d)
      go true b h q less =
          let sum = leb-true (upward L c s t k d) k h in (
            record {
              near = lower L d;
              before = disks_to L c s k (lower L d);
              behind = disks_to L c t k (higher L d);
              there = on-lower L two d l;
              to = disks_lead L c s k (lower L d) (omega arith);
              back = disks_lead L c t k (higher L d) (omega arith);
              few = sum;
            },
            sym (level-up L c s t k d h),
          )
      go false true h q less =
          let sum = leb-true (downward L c s t k d) k q in (
            record {
              near = higher L d;
              before = disks_to L c s k (higher L d);
              behind = disks_to L c t k (lower L d);
              there = on-other L two d l (lower L d) (on-lower L two d l);
              to = disks_lead L c s k (higher L d) (omega arith);
              back = rw (other_back L two d l (lower L d) (on-lower L two d l)) (disks_lead L c t k (lower L d) (omega arith));
              few = sum;
            },
            sym (level-down L c s t k d h q),
          )
      go false false h q less = let none = level_none L c s t k d h q in absurd (omega arith)

  -- and it has one.
  passed-level : Passed L c s t k d → way_level L c s t k d < k
  passed-level p = go (leb (upward L c s t k d) k) (leb (downward L c s t k d) k) refl refl
    where
      one : (upward L c s t k d ≤ k) ⊎ (downward L c s t k d ≤ k)
      one =
          let fewest : disks_to L c s k p.near ≤ p.before = disks-least L c s k p.near p.before (omega arith) p.to in
          let fewer : disks_to L c t k (other_than p.near (L.through d)) ≤ p.behind =
          disks-least L c t k (other_than p.near (L.through d)) p.behind (omega arith) p.back in
          let sum : disks_to L c s k p.near + 1 + disks_to L c t k (other_than p.near (L.through d)) ≤ k = omega arith in
          ⊎_elim
          (λ q.
          inl
          (subst (λ (x : ℕ). disks_to L c s k x + 1 + disks_to L c t k (other_than x (L.through d)) ≤ k) (q ∙ sym (lower_is L two d l)) sum))
          (λ q.
          inr
          (rw (other_back L two d l (lower L d) (on-lower L two d l)) at
          (subst (λ (x : ℕ). disks_to L c s k x + 1 + disks_to L c t k (other_than x (L.through d)) ≤ k) (q ∙ sym (higher_is L two d l)) sum)))
          (on_which L two d l p.near p.there)

      go : (a b : Bool) → leb (upward L c s t k d) k ≡ a → leb (downward L c s t k d) k ≡ b → way_level L c s t k d < k
      go true b h q = let sum = leb-true (upward L c s t k d) k h in let is = level-up L c s t k d h in omega arith
      go false true h q = let sum = leb-true (downward L c s t k d) k q in let is = level-down L c s t k d h q in omega arith
      go false false h q =
          let long = leb-false (upward L c s t k d) k h in
          let wide = leb-false (downward L c s t k d) k q in
          absurd (⊎_elim (λ le. omega arith) (λ le. omega arith) one)

-- ---- ways over disks of c from stripe s to stripe t, where fewer than k disks do not lead there

-- The stripes that at most j disks lead to.
pub within_is : (L : Layout) (c : ℕ → Bool) (s k j x : ℕ) → j ≤ k → within L c s k j x ≡ leads L c s j x
unfolding within
within_is L c s k j x le = disks_to_lem L c s k x j le

-- Fewer than k disks of c do not lead from s to x.
abbrev pub Far : Layout → (c : ℕ → Bool) → (s k x : ℕ) → Type 0
Far L c s k x = (j : ℕ) → j < k → leads L c s j x ≡ false

module _ (L : Layout) (two : TwoStripes L) (room : L.stripe_bound ≤ word_stripes) (c : ℕ → Bool) where
  -- Each disk of a set that has at most i disks and these two ends is on such a way: the disk at the last stripe is taken off, and is the disk
  -- itself or leads on from where the others lead.
  set-passed : (s i x : ℕ) → x < L.stripe_bound → Far L c s i x → (g : Ends L c s x) → count L.disks g.set ≤ i
      → (d : ℕ) → d < L.disks → g.set d ≡ true → Passed L c s x i d
  unfolding ends-step ends-chain ends-over
  set-passed s zero x last far g few d l h = let one = count-some L.disks g.set d l h in absurd (omega arith)
  set-passed s (suc i) x last far g few d l h =
      let away : x ≡ s → ⊥ = λ q. true≢false (sym (leads_self L c s 0) ∙ ap (λ (y : ℕ). leads L c s 0 y) (sym q) ∙ far 0 (omega arith)) in
      let (e, w, q, there) = ends_found L two c s x away g in
      let held : c e ≡ true = g.within e q in
      let y : ℕ = other_than x (L.through e) in
      let bound : y < L.stripe_bound = other-bound L two e w x there in
      let one = ends_step_count L two c s x g e w held there q in
      let rest : Ends L c s y = ends-step L two c s x g e w held there in
      let over : leads L c y 1 x ≡ true =
      rw (other_back L two e w x there) at (leads-disk L two room c e w held y (on-other L two e w x there)) in
      by_cases (λ (b : Bool). eqb d e ≡ b → Passed L c s x (suc i) d) (eqb d e)
      (λ _ same.
      subst (λ (n : ℕ). Passed L c s x (suc i) n) (sym (eqb-true d e same))
      (record {
        near = y;
        before = i;
        behind = 0;
        there = on-other L two e w x there;
        to = ends-leads L two room c s i y bound rest (omega arith);
        back = rw (other_back L two e w x there) (leads_self L c x 0);
        few = omega arith;
      }))
      (λ _ other.
      let p : Passed L c s y i d =
      set-passed s i y bound
      (λ j less.
      fails_with (leads L c s j y) (leads L c s (j + 1) x) (λ near. leads_chain L two room c s j y 1 x last near over) (far (j + 1) (omega arith)))
      rest (omega arith) d l (ap₂ (λ (a b : Bool). cond a (not b) b) h other) in
      record {
        near = p.near;
        before = p.before;
        behind = 1 + p.behind;
        there = p.there;
        to = p.to;
        back =
            leads_chain L two room c x 1 y p.behind (other_than p.near (L.through d)) (other-bound L two d l p.near p.there)
            (leads-disk L two room c e w held x there) p.back;
        few = omega arith;
      })
      refl

  module _ (s t k : ℕ) (first : s < L.stripe_bound) (last : t < L.stripe_bound) (far : Far L c s k t) where
    -- What `far` says of a number of disks that do lead there.
    not-near : (j : ℕ) → j < k → leads L c s j t ≡ true → ⊥
    not-near j less h = true≢false (sym h ∙ far j less)

    -- A set with these ends has at least k disks.
    pub ends_many : (g : Ends L c s t) → k ≤ count L.disks g.set
    ends_many g =
        ⊎_elim (λ less. absurd (not-near (count L.disks g.set) less (ends-leads L two room c s _ t last g (le_refl _)))) (λ le. le)
        (lt_or_le (count L.disks g.set) k)

    -- Neither the disks before it nor those behind it have the disk itself, else fewer would do; so a way leads over each disk with a level.
    pub through_way : (d : ℕ) → d < L.disks → c d ≡ true → way_level L c s t k d < k
        → (g : Ends L c s t) × (count L.disks g.set ≤ k) × (g.set d ≡ true)
    unfolding ends-step ends-chain ends-over ends-back
    through_way d l h level =
        let (p, _) = level-passed L two c s t k d l level in
        let u : ℕ = p.near in
        let v : ℕ = other_than u (L.through d) in
        let on-far : on L d v ≡ true = on-other L two d l u p.there in
        let (f, few) = leads-ends L two c s p.before u p.to in
        let (g, fewer) = leads-ends L two c t p.behind v p.back in
        let over : Ends L c s v = ends-step L two c s u f d l h p.there in
        let way : Ends L c s t = ends-chain L c s v t over (ends-back L c t v g) in
        let all = ends_chain_count L c s v t over (ends-back L c t v g) in
        let many = ends_many way in
        let more = ends-longer L two c s u f d l h p.there in
        let before : f.set d ≡ false =
        by_cases (λ (b : Bool). f.set d ≡ b → b ≡ false) (f.set d)
        (λ _ q. let less = ends_step_count L two c s u f d l h p.there q in absurd (omega arith)) (λ _ q. refl) refl in
        let behind : g.set d ≡ false =
        by_cases (λ (b : Bool). g.set d ≡ b → b ≡ false) (g.set d)
        (λ _ q.
        let rest : Ends L c t (other_than v (L.through d)) = ends-step L two c t v g d l h on-far in
        let n : ℕ = count L.disks rest.set in
        let less : n + 1 ≡ count L.disks g.set = ends_step_count L two c t v g d l h on-far q in
        let near : leads L c t n u ≡ true =
        subst (λ (x : ℕ). leads L c t n x ≡ true) (other_back L two d l u p.there)
        (ends-leads L two room c t n (other_than v (L.through d)) (other-bound L two d l v on-far) rest (le_refl n)) in
        absurd
        (not-near (p.before + n) (omega arith)
        (leads_chain L two room c s p.before u n t last p.to (leads_back L two room c t n u last near))))
        (λ _ q. refl) refl in
        (way, omega arith, ap₂ (λ (a b : Bool). cond a (not b) b) (ap₂ (λ (a b : Bool). cond a (not b) b) before (eq-eqb d d refl)) behind)

    -- Each disk of a way has a level.
    pub way_through : (g : Ends L c s t) → count L.disks g.set ≤ k → (d : ℕ) → d < L.disks → g.set d ≡ true → way_level L c s t k d < k
    way_through g few d l h = passed-level L two c s t k d l (set-passed s k t last far g few d l h)

    -- A disk leads out of the stripes that its level leads to.
    pub level_crosses : (d : ℕ) → d < L.disks → c d ≡ true → way_level L c s t k d < k → crosses L (within L c s k (way_level L c s t k d)) d ≡ true
    level_crosses d l h level =
        let (p, is) = level-passed L two c s t k d l level in
        let j : ℕ = way_level L c s t k d in
        let v : ℕ = other_than p.near (L.through d) in
        let inside : within L c s k j p.near ≡ true =
        within_is L c s k j p.near (omega arith) ∙ ap (λ (n : ℕ). leads L c s n p.near) (sym is) ∙ p.to in
        let outside : within L c s k j v ≡ false =
        within_is L c s k j v (omega arith)
        ∙ fails_with (leads L c s j v) (leads L c s (j + p.behind) t)
        (λ near. leads_chain L two room c s j v p.behind t last near (leads_back L two room c t p.behind v last p.back))
        (far (j + p.behind) (omega arith)) in
        crosses-from L two (within L c s k j) d l p.near p.there inside ∙ ap not outside

    -- It leads out of no others of these stripes, since it leads from those that m disks lead to, to one that m + 1 lead to.
    crosses-one : (e m n : ℕ) → e < L.disks → c e ≡ true → m < n → n ≤ k → crosses L (within L c s k m) e ≡ true
        → crosses L (within L c s k n) e ≡ false
    crosses-one e m n l h less le r =
        let (x, there, inside) = crosses_where L two (within L c s k m) e l r in
        let v : ℕ = other_than x (L.through e) in
        let near : leads L c s m x ≡ true = sym (within_is L c s k m x (omega arith)) ∙ inside in
        let next : leads L c s (m + 1) v ≡ true =
        leads_chain L two room c s m x 1 v (other-bound L two e l x there) near (leads-disk L two room c e l h x there) in
        crosses-from L two (within L c s k n) e l x there (within_is L c s k n x le ∙ leads_more L c s m n x (omega arith) near)
        ∙ ap not (within_is L c s k n v le ∙ leads_more L c s (m + 1) n v (omega arith) next)

    -- So the stripes that it leads out of tell the level.
    level-unique : (e m n : ℕ) → e < L.disks → c e ≡ true → m < k → n < k → crosses L (within L c s k m) e ≡ true
        → crosses L (within L c s k n) e ≡ true → m ≡ n
    level-unique e m n l h below under p q =
        let up : m < n → ⊥ = λ less. true≢false (sym q ∙ crosses-one e m n l h less (omega arith) p) in
        let down : n < m → ⊥ = λ less. true≢false (sym p ∙ crosses-one e n m l h less (omega arith) q) in
        omega arith

    -- A way has a disk that leads out of the stripes that m disks lead to, for each m below k,
    module _ (g : Ends L c s t) where
      unfoldable leaves : (m e : ℕ) → Bool
      leaves m e = g.set e && crosses L (within L c s k m) e

      leaves-found : (m : ℕ) → m < k → (lowest L.disks (leaves m) < L.disks) × (leaves m (lowest L.disks (leaves m)) ≡ true)
      unfolding leaves
      leaves-found m less =
          let (e, l, h, r) =
          crossed_some L two c s t first last g (within L c s k m) (within_is L c s k m s (omega arith) ∙ leads_self L c s m)
          (within_is L c s k m t (omega arith) ∙ far m less) in
          let is = lowest_is L.disks (leaves m) in
          let there : lowest L.disks (leaves m) < L.disks =
          ⊎_elim (λ before. absurd (true≢false (sym (and_both h r) ∙ is.none e before))) (λ le. omega arith)
          (lt_or_le e (lowest L.disks (leaves m))) in
          (there, is.found there)

    -- and but one: with a second one it would have more than k disks.
    pub crossed_once : (g : Ends L c s t) → count L.disks g.set ≤ k → (j : ℕ) → j < k → (d i : ℕ) → d < L.disks → i < L.disks
        → g.set d ≡ true → g.set i ≡ true → crosses L (within L c s k j) d ≡ true → crosses L (within L c s k j) i ≡ true → i ≡ d
    unfolding leaves without
    crossed_once g few j less d i l w h q p r =
        by_cases (λ (b : Bool). eqb i d ≡ b → i ≡ d) (eqb i d) (λ _ e. eqb-true i d e) (λ _ e. absurd (second (eqb-false i d e))) refl
      where
        picked : ℕ → ℕ
        picked m = cond (eqb m j) d (lowest L.disks (leaves g m))

        picked-is : (m : ℕ) → m < k → (picked m < L.disks) × (leaves g m (picked m) ≡ true)
        picked-is m below =
            by_cases
            (λ (b : Bool). (cond b d (lowest L.disks (leaves g m)) < L.disks) × (leaves g m (cond b d (lowest L.disks (leaves g m))) ≡ true))
            (eqb m j)
            (λ e. (l, and_both h (ap (λ (n : ℕ). crosses L (within L c s k n) d) (eqb-true m j e) ∙ p)))
            (λ e. leaves-found g m below)

        set : (m : ℕ) → m < k → g.set (picked m) ≡ true
        set m below = and_left (g.set (picked m)) (crosses L (within L c s k m) (picked m)) (picked-is m below).1

        out : (m : ℕ) → m < k → crosses L (within L c s k m) (picked m) ≡ true
        out m below = and_right (g.set (picked m)) (crosses L (within L c s k m) (picked m)) (picked-is m below).1

        other : (i ≡ d → ⊥) → (m : ℕ) → m < k → picked m ≡ i → ⊥
        other apart m below e =
            let same : m ≡ j =
            level-unique i m j w (g.within i q) below less (ap (crosses L (within L c s k m)) (sym e) ∙ out m below) r in
            apart (sym e ∙ ap (λ (b : Bool). cond b d (lowest L.disks (leaves g m))) (eq-eqb m j same))

        second : (i ≡ d → ⊥) → ⊥
        second apart =
            let many : k ≤ count L.disks (without g.set i) =
            count-different k L.disks (without g.set i) picked (λ m b. (picked-is m b).0)
            (λ m b. without_other g.set i (picked m) (other apart m b) ∙ set m b)
            (λ m n b a e.
            level-unique (picked m) m n (picked-is m b).0 (g.within (picked m) (set m b)) b a (out m b)
            (ap (crosses L (within L c s k n)) e ∙ out n a)) in
            let one = count-without L.disks g.set i w q in
            omega arith
