-- The disks of the cheapest way from one stripe to another are found by going over the disks in rising order: a disk that is on a shortest way
-- over the disks that are left is chosen, and of the disks that lead on from the same stripes it alone is kept.
-- Assumes nothing.
use mathlib.Core.Path.{◌≡◌, refl, sym, ◌∙◌, ap, subst}
use mathlib.Core.Bool.{Bool, true, false, not, ◌&&◌, ◌||◌, and-false, or-true, or-false, true≢false}
use mathlib.Core.Logic.{⊎_elim}
use Prim.Native.Nat.{ℕ, zero, suc, ◌≤◌, ◌<◌}
use native.Mathlib.Nat.{not-suc-le-zero, eq-or-lt_of_le, le_of_suc-le-suc, le_step, lt-suc_self}
use native.Mathlib.Omega.{arith}
use borrow.Author.Tests.{ltb-true, lt-ltb, le-ltb, eq-eqb, eqb-true, eqb-false}
use lib.Dec.{eqb, ltb}
use Rattle.stripes.specs.Fold.{gate, count}
use Rattle.stripes.specs.System.{Layout, TwoStripes}
use Rattle.stripes.specs.Erased.{below, without}
use Rattle.stripes.specs.Joined.{crosses}
use Rattle.stripes.specs.Smallest.{price}
use Rattle.stripes.proofs.Fold.{by_cases, and_left, and_right, and_both, same_test, fails_with, count_ext, count_mono}
use Rattle.stripes.proofs.Erased.{count_less}
use Rattle.stripes.proofs.Peel.{without_other}
use Rattle.stripes.proofs.Sums.{sum_over_ext}
use Rattle.stripes.proofs.Ends.{Ends, ends_wider}
use Rattle.stripes.proofs.Price.{cost, digits_first, cheaper_first}
use Rattle.reach.specs.Reached.{word_stripes}
use Rattle.smallest.specs.Leads.{leads}
use Rattle.smallest.specs.Ways.{way_level, within, kept}
use Rattle.smallest.proofs.Leads.{leads_self, leads_wider}
use Rattle.smallest.proofs.Through.{Far, within_is, crossed_some, ends_many, through_way, way_through, level_crosses, crossed_once}

-- Below d + 1 is, but for d, below d.
below_next : (i d : ℕ) → (i ≡ d → ⊥) → ltb i (suc d) ≡ ltb i d
below_next i d apart =
    same_test (ltb i (suc d)) (ltb i d) (λ h. let up = ltb-true i (suc d) h in lt-ltb i d (omega arith))
    (λ h. let up = ltb-true i d h in lt-ltb i (suc d) (omega arith))

-- The same ends over other disks that have those of the set below the number of disks: only these count.
ends-inside : (L : Layout) (c e : ℕ → Bool) (s t : ℕ) (f : Ends L c s t) → ((i : ℕ) → i < L.disks → f.set i ≡ true → e i ≡ true)
    → (g : Ends L e s t) × ((i : ℕ) → i < L.disks → g.set i ≡ f.set i)
unfolding below
ends-inside L c e s t f there = (
  record {
    set = below L.disks f.set;
    within = λ i h.
        there i (ltb-true i L.disks (and_left (ltb i L.disks) (f.set i) h)) (and_right (ltb i L.disks) (f.set i) h);
    sum = λ v x. sum_over_ext L (λ i l. ap (λ (b : Bool). gate b v) (same i l)) x ∙ f.sum v x;
  },
  same,
)
  where
    same : (i : ℕ) → i < L.disks → below L.disks f.set i ≡ f.set i
    same i l = ap (λ (b : Bool). b && f.set i) (lt-ltb i L.disks l)

-- The cheapest way from stripe s to stripe t over disks of c, of which there are k, since fewer do not lead there.
pub record Cheapest (L : Layout) (c : ℕ → Bool) (s t k : ℕ) : Type 0 where
  pub first : s < L.stripe_bound
  pub last : t < L.stripe_bound
  pub far : Far L c s k t
  pub way : Ends L c s t
  pub few : count L.disks way.set ≤ k
  pub least : (g : Ends L c s t) → cost L.disks (price L.disks) way.set ≤ cost L.disks (price L.disks) g.set

-- When the disks below number n have been gone over, c are the disks that are left and `set` those that are chosen. F is the set of the
-- cheapest way over the disks e that there were at first: no disk of it has been taken away, every shortest way that is left has the same
-- disks below n, and these are chosen.
pub record Chosen (L : Layout) (e : ℕ → Bool) (s t k : ℕ) (F : ℕ → Bool) (c set : ℕ → Bool) (n : ℕ) : Type 0 where
  pub sub : (i : ℕ) → c i ≡ true → e i ≡ true
  pub keeps : (i : ℕ) → i < L.disks → F i ≡ true → c i ≡ true
  pub agrees : (g : Ends L c s t) → count L.disks g.set ≤ k → (i : ℕ) → i < n → i < L.disks → g.set i ≡ F i
  pub chosen : (i : ℕ) → i < L.disks → set i ≡ (ltb i n && F i)

module _ (L : Layout) (two : TwoStripes L) (room : L.stripe_bound ≤ word_stripes) (e : ℕ → Bool) (s t k : ℕ) (W : Cheapest L e s t k) where
  -- At first nothing is chosen.
  pub chosen-start : Chosen L e s t k W.way.set e (λ i. false) 0
  chosen-start =
      record {
        sub = λ i h. h;
        keeps = λ i l h. W.way.within i h;
        agrees = λ g few i none. absurd (not-suc-le-zero none);
        chosen = λ i l. sym (ap (λ (b : Bool). b && W.way.set i) (le-ltb i 0 (omega arith)));
      }

  -- In the end all of the way is.
  pub chosen-end : {c set : ℕ → Bool} {n : ℕ} → Chosen L e s t k W.way.set c set n → L.disks ≤ n → (i : ℕ) → i < L.disks → set i ≡ W.way.set i
  chosen-end {c} {set} {n} h le i l = h.chosen i l ∙ ap (λ (b : Bool). b && W.way.set i) (lt-ltb i n (omega arith))

  -- It is as soon as k disks are chosen: these are disks of the way, which has no more.
  pub chosen_full : {c set : ℕ → Bool} {n : ℕ} → Chosen L e s t k W.way.set c set n → k ≤ count L.disks set
      → (i : ℕ) → i < L.disks → set i ≡ W.way.set i
  chosen_full {c} {set} {n} h full i l =
      same_test (set i) (W.way.set i) (on-way i l)
      (λ q.
      by_cases (λ (b : Bool). set i ≡ b → b ≡ true) (set i) (λ _ r. refl)
      (λ _ r.
      let fewer : count L.disks set ≤ count L.disks (without W.way.set i) =
      count_mono L.disks (λ j w p. without_other W.way.set i j (λ same. true≢false (sym p ∙ ap set same ∙ r)) ∙ on-way j w p) in
      let one = count_less L.disks W.way.set i l q in
      let few = W.few in
      absurd (omega arith))
      refl)
    where
      on-way : (j : ℕ) → j < L.disks → set j ≡ true → W.way.set j ≡ true
      on-way j w p = and_right (ltb j n) (W.way.set j) (sym (h.chosen j w) ∙ p)

  module _ {c set : ℕ → Bool} {d : ℕ} (h : Chosen L e s t k W.way.set c set d) where
    -- The disks that are left do not lead there by fewer either, and the cheapest way is over them.
    pub left_far : Far L c s k t
    left_far j less = fails_with (leads L c s j t) (leads L e s j t) (leads_wider L two room c e h.sub s j t W.last) (W.far j less)

    left-way : (g : Ends L c s t) × ((i : ℕ) → i < L.disks → g.set i ≡ W.way.set i)
    left-way = ends-inside L e c s t W.way h.keeps

    left-few : count L.disks left-way.0.set ≤ k
    left-few = let same = count_ext L.disks left-way.1 in let few = W.few in omega arith

    -- A disk that is on no shortest way is passed over: neither the cheapest way has it nor any other.
    pub chosen_pass : (c d ≡ true → way_level L c s t k d < k → ⊥) → Chosen L e s t k W.way.set c set (suc d)
    chosen_pass none =
        record {
          sub = h.sub;
          keeps = h.keeps;
          agrees = λ g few i up l.
              ⊎_elim (λ q. rw q (out g few (subst (λ (n : ℕ). n < L.disks) q l) ∙ sym (lacks (subst (λ (n : ℕ). n < L.disks) q l))))
              (λ less. h.agrees g few i less l) (eq-or-lt_of_le (le_of_suc-le-suc up));
          chosen = λ i l.
              h.chosen i l
              ∙ by_cases (λ (b : Bool). eqb i d ≡ b → (ltb i d && W.way.set i) ≡ (ltb i (suc d) && W.way.set i)) (eqb i d)
              (λ _ q.
              let same = eqb-true i d q in
              let no : W.way.set i ≡ false = ap W.way.set same ∙ lacks (omega arith) in
              ap (λ (b : Bool). ltb i d && b) no ∙ and-false (ltb i d) ∙ sym (ap (λ (b : Bool). ltb i (suc d) && b) no ∙ and-false (ltb i (suc d))))
              (λ _ q. ap (λ (b : Bool). b && W.way.set i) (sym (below_next i d (eqb-false i d q)))) refl;
        }
      where
        out : (g : Ends L c s t) → count L.disks g.set ≤ k → d < L.disks → g.set d ≡ false
        out g few l =
            by_cases (λ (b : Bool). g.set d ≡ b → b ≡ false) (g.set d)
            (λ _ q.
            absurd (none (g.within d q) (way_through L two room c s t k W.first W.last left_far g few d l q)))
            (λ _ q. refl) refl

        lacks : d < L.disks → W.way.set d ≡ false
        lacks l = sym (left-way.1 d l) ∙ out left-way.0 left-few l

    module _ (l : d < L.disks) (held : c d ≡ true) (level : way_level L c s t k d < k) where
      abbrev rest : ℕ → Bool
      rest = kept L c s k (way_level L c s t k d) d

      -- The cheapest way has the lowest disk that is on a shortest way, since a way that has it comes before those that do not.
      way-has : W.way.set d ≡ true
      unfolding ends_wider
      way-has =
          by_cases (λ (b : Bool). W.way.set d ≡ b → b ≡ true) (W.way.set d) (λ _ q. refl)
          (λ _ q.
          let (g, few, there) = through_way L two room c s t k W.first W.last left_far d l held level in
          let before = digits_first L.disks g.set W.way.set d l (λ i w. h.agrees g few i w (omega arith)) there q in
          let many = ends_many L two room c s t k W.first W.last left_far g in
          let most = ends_many L two room e s t k W.first W.last W.far W.way in
          let little = W.few in
          let cheaper = cheaper_first L.disks g.set W.way.set (omega arith) before in
          let least = W.least (ends_wider L c e h.sub s t g) in
          absurd (omega arith))
          refl

      -- What is kept is of c, and the cheapest way stays;
      kept-sub : (i : ℕ) → rest i ≡ true → c i ≡ true
      unfolding kept
      kept-sub i q = and_left (c i) (eqb i d || not (crosses L (within L c s k (way_level L c s t k d)) i)) q

      kept-way : (i : ℕ) → i < L.disks → W.way.set i ≡ true → rest i ≡ true
      unfolding kept
      kept-way i w q =
          let j : ℕ = way_level L c s t k d in
          and_both (h.keeps i w q)
          (by_cases (λ (b : Bool). crosses L (within L c s k j) i ≡ b → (eqb i d || not b) ≡ true) (crosses L (within L c s k j) i)
          (λ _ r.
          ap (λ (b : Bool). b || false)
          (eq-eqb i d
          (crossed_once L two room c s t k W.first W.last left_far left-way.0 left-few j level d i l w (left-way.1 d l ∙ way-has)
          (left-way.1 i w ∙ q) (level_crosses L two room c s t k W.first W.last left_far d l held level) r)))
          (λ _ r. or-true (eqb i d)) refl)

      -- and every way that is left has disk d, as no other leads on there.
      kept-has : (g : Ends L rest s t) → g.set d ≡ true
      unfolding kept
      kept-has g =
          let j : ℕ = way_level L c s t k d in
          let (i, w, q, r) =
          crossed_some L two rest s t W.first W.last g (within L c s k j) (within_is L c s k j s (omega arith) ∙ leads_self L c s j)
          (within_is L c s k j t (omega arith) ∙ left_far j level) in
          let only : (eqb i d || not (crosses L (within L c s k j) i)) ≡ true = and_right (c i) _ (g.within i q) in
          let same : eqb i d ≡ true = sym (or-false (eqb i d)) ∙ ap (λ (b : Bool). eqb i d || not b) (sym r) ∙ only in
          ap g.set (sym (eqb-true i d same)) ∙ q

      -- So it is chosen.
      pub chosen-take : (next : ℕ → Bool) → ((i : ℕ) → i < L.disks → next i ≡ (eqb i d || set i))
          → Chosen L e s t k W.way.set (kept L c s k (way_level L c s t k d) d) next (suc d)
      unfolding ends_wider
      chosen-take next put =
          record {
            sub = λ i q. h.sub i (kept-sub i q);
            keeps = kept-way;
            agrees = λ g few i up w.
                ⊎_elim (λ q. rw q (kept-has g ∙ sym way-has)) (λ less. h.agrees (ends_wider L rest c kept-sub s t g) few i less w)
                (eq-or-lt_of_le (le_of_suc-le-suc up));
            chosen = λ i w.
                put i w
                ∙ by_cases (λ (b : Bool). eqb i d ≡ b → (b || set i) ≡ (ltb i (suc d) && W.way.set i)) (eqb i d)
                (λ _ q.
                let same = eqb-true i d q in
                sym (and_both (lt-ltb i (suc d) (omega arith)) (ap W.way.set same ∙ way-has)))
                (λ _ q. h.chosen i w ∙ ap (λ (b : Bool). b && W.way.set i) (sym (below_next i d (eqb-false i d q)))) refl;
          }

  -- Numbers that are no disks of c are passed over.
  pub chosen_over : {c set : ℕ → Bool} {n : ℕ} → Chosen L e s t k W.way.set c set n → (m : ℕ) → n ≤ m
      → ((i : ℕ) → n ≤ i → i < m → c i ≡ false) → Chosen L e s t k W.way.set c set m
  chosen_over {c} {set} {n} h zero le none = subst (λ (j : ℕ). Chosen L e s t k W.way.set c set j) (omega arith) h
  chosen_over {c} {set} {n} h (suc m) le none =
      ⊎_elim (λ q. subst (λ (j : ℕ). Chosen L e s t k W.way.set c set j) q h)
      (λ less.
      chosen_pass (chosen_over h m (le_of_suc-le-suc less) (λ i from to. none i from (le_step to)))
      (λ held level. true≢false (sym held ∙ none m (le_of_suc-le-suc less) (lt-suc_self m))))
      (eq-or-lt_of_le le)
