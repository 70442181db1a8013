-- The cheapest ways between stripes, the cheapest sets of erased disks of which every stripe holds an even number, and the cycle that is shown
-- of a fatal loss: it is the smallest.
-- Assumes nothing.
use mathlib.Core.Path.{◌≡◌, refl, sym, ◌∙◌, ap, subst, fun_ext}
use mathlib.Core.Bool.{Bool, true, false, cond, ◌&&◌, ◌||◌, and-false}
use mathlib.Core.Logic.{◌⊎◌, ⊎_elim}
use mathlib.Core.List.{List}
use Prim.Native.Nat.{ℕ, zero, suc, ◌+◌, ◌≤◌, ◌<◌}
use native.Mathlib.Omega.{arith}
use borrow.Author.Tests.{eq-eqb, ne_eqb, eqb-true, eqb-false, lt-ltb, le-ltb}
use lib.Dec.{eqb}
use lib.ListN.{length, get_or}
use Rattle.stripes.specs.Fold.{count, least, tabulate}
use Rattle.stripes.specs.System.{Layout, TwoStripes, on, other_than, lower, higher}
use Rattle.stripes.specs.Erased.{without, below}
use Rattle.stripes.specs.Repair.{Entry, residual, fatal}
use Rattle.stripes.specs.Cycle.{Cycle, Paired}
use Rattle.stripes.specs.Smallest.{disks_of, ascending, Smallest, price, too_much, way_costs, through_cost, on_cheapest, on_smallest, shown_cycle}
use Rattle.stripes.proofs.Fold.{and_left, and_right, and_both, by_cases, same_test, fails_with, lt_or_le, count_le, count-some, count_ext}
use Rattle.stripes.proofs.Peel.{without_at, without_other, without_sub, residual_sub}
use Rattle.stripes.proofs.Erased.{is_below, below-not}
use Rattle.stripes.proofs.Degree.{on-bound}
use Rattle.stripes.proofs.Joined.{higher-bound}
use Rattle.stripes.proofs.Core.{core, core_sub, core_paired}
use Rattle.stripes.proofs.Walk.{besides}
use Rattle.stripes.proofs.Trace.{cycle_of_lem, cycle_mono, cycle_sub, cycle-length}
use Rattle.stripes.proofs.Ends.{Ends, ends-none, ends-back, ends-chain, ends-over, ends_found, ends-step, ends_step_count}
use Rattle.stripes.proofs.Round.{Round, without-one, round_wider, round_same, round-open, round_close, cycle_round, core_round, round_fatal, round_residual}
use Rattle.stripes.proofs.Price.{digits, cost, earlier_digits, fewer_cheaper, cheaper_first, cost_known, price-some, cost_little}
use Rattle.stripes.proofs.Cost.{table_at, table_past, least_start, least-below, least_is, cost_ext, cost_mono, cost_squeeze, cost_none, cost_one, cost_either, cost_without, cost_with}

-- ---- the cheapest ways

-- The entry of the table for stripe t.
abbrev pub way_cost : Layout → (w : ℕ → ℕ) → (none : ℕ) → (c : ℕ → Bool) → (s k t : ℕ) → ℕ
way_cost L w none c s k t = get_or (way_costs L w none c s k) t none

module _ (L : Layout) (two : TwoStripes L) (w : ℕ → ℕ) (none : ℕ) (c : ℕ → Bool) (s : ℕ) where
  way-none : (t : ℕ) → t < L.stripe_bound → way_cost L w none c s 0 t ≡ cond (eqb t s) 0 none
  unfolding way_costs
  way-none t b = table_at L.stripe_bound (λ t. cond (eqb t s) 0 none) none t b

  -- With one disk more: what there was, or over a disk from its other stripe.
  overDisk : (k t : ℕ) → ℕ → ℕ
  overDisk k t d = cond (c d && on L d t) (w d + way_cost L w none c s k (other_than t (L.through d))) none

  way-more : (k t : ℕ) → t < L.stripe_bound → way_cost L w none c s (suc k) t ≡ least L.disks (overDisk k t) (way_cost L w none c s k t)
  unfolding way_costs overDisk
  way-more k t b =
      table_at L.stripe_bound (λ t. least L.disks (overDisk k t) (way_cost L w none c s k t)) none t b

  way_kept : (k t : ℕ) → t < L.stripe_bound → way_cost L w none c s (suc k) t ≤ way_cost L w none c s k t
  way_kept k t b =
      let more = way-more k t b in
      let start = least_start (overDisk k t) (way_cost L w none c s k t) L.disks in
      omega arith

  way-over : (k t : ℕ) → t < L.stripe_bound → (d : ℕ) → d < L.disks → c d ≡ true → on L d t ≡ true
      → way_cost L w none c s (suc k) t ≤ w d + way_cost L w none c s k (other_than t (L.through d))
  unfolding overDisk
  way-over k t b d l h there =
      let more = way-more k t b in
      let part = least-below (overDisk k t) (way_cost L w none c s k t) L.disks d l in
      let same : overDisk k t d ≡ w d + way_cost L w none c s k (other_than t (L.through d)) =
      ap (λ (b : Bool). cond b (w d + way_cost L w none c s k (other_than t (L.through d))) none) (and_both h there) in
      omega arith

  -- The way from a stripe to itself costs nothing.
  way-self : (k : ℕ) → s < L.stripe_bound → way_cost L w none c s k s ≤ 0
  way-self zero b =
      let here = way-none s b ∙ ap (λ (b : Bool). cond b 0 none) (eq-eqb s s refl) in
      omega arith
  way-self (suc k) b = let before = way-self k b in let kept = way_kept k s b in omega arith

  way_same : (k t : ℕ) → t < L.stripe_bound → (f : Ends L c s t) → eqb t s ≡ true → way_cost L w none c s k t ≤ cost L.disks w f.set
  way_same k t b f q =
      let here = way-self k (subst (λ (x : ℕ). x < L.stripe_bound) (eqb-true t s q) b) in
      let same = ap (λ (x : ℕ). way_cost L w none c s k x) (eqb-true t s q) in
      omega arith

  step-cost : (t : ℕ) (f : Ends L c s t) (d : ℕ) (l : d < L.disks) (h : c d ≡ true) (there : on L d t ≡ true) → f.set d ≡ true
      → cost L.disks w (ends-step L two c s t f d l h there).set + w d ≡ cost L.disks w f.set
  unfolding ends-step ends-chain ends-over
  step-cost t f d l h there held =
      ap (λ (x : ℕ). x + w d) (cost_ext L.disks w (λ i k. sym (without-one f.set d held i)))
      ∙ cost_without L.disks w f.set d l held

  -- The table's entry is not above the price of any set with these ends that has so few disks: a disk of the set lies on the last stripe, and
  -- without it the set leads to the disk's other stripe.
  pub way_least : (k t : ℕ) → t < L.stripe_bound → (f : Ends L c s t) → count L.disks f.set ≤ k
      → way_cost L w none c s k t ≤ cost L.disks w f.set
  way_least zero t b f few =
      by_cases (λ (_ : Bool). way_cost L w none c s 0 t ≤ cost L.disks w f.set) (eqb t s) (way_same 0 t b f)
      (λ q.
      let (d, l, held, there) = ends_found L two c s t (eqb-false t s q) f in
      let some = count-some L.disks f.set d l held in
      absurd (omega arith))
  way_least (suc k) t b f few =
      by_cases (λ (_ : Bool). way_cost L w none c s (suc k) t ≤ cost L.disks w f.set) (eqb t s) (way_same (suc k) t b f)
      (λ q.
      let (d, l, held, there) = ends_found L two c s t (eqb-false t s q) f in
      let h : c d ≡ true = f.within d held in
      let fewer = ends_step_count L two c s t f d l h there held in
      let r : ℕ = other_than t (L.through d) in
      let up = way_least k r (on-bound L two d l r (besides L two d l t there).lies) (ends-step L two c s t f d l h there) (omega arith) in
      let over = way-over k t b d l h there in
      let all = step-cost t f d l h there held in
      omega arith)

  -- And where there is a price, there is a set with these ends that is not dearer.
  pub way_found : (k t : ℕ) → t < L.stripe_bound → way_cost L w none c s k t < none
      → (f : Ends L c s t) × (cost L.disks w f.set ≤ way_cost L w none c s k t)
  unfolding ends-none ends-chain ends-back ends-over overDisk
  way_found zero t b some =
      by_cases
      (λ (x : Bool). way_cost L w none c s 0 t ≡ cond x 0 none
      → (f : Ends L c s t) × (cost L.disks w f.set ≤ way_cost L w none c s 0 t))
      (eqb t s)
      (λ q here.
      let free = cost_none L.disks w in
      subst (λ (x : ℕ). (f : Ends L c s x) × (cost L.disks w f.set ≤ way_cost L w none c s 0 t)) (sym (eqb-true t s q))
      (ends-none L c s, omega arith))
      (λ q here. absurd (omega arith))
      (way-none t b)
  way_found (suc k) t b some =
      ⊎_elim
      (λ q. let (f, cheap) = way_found k t b (omega (arith, way-more k t b)) in (f, omega (arith, way-more k t b)))
      (λ (d, l, q).
      by_cases
      (λ (x : Bool). way_cost L w none c s (suc k) t ≡ cond x (w d + way_cost L w none c s k (other_than t (L.through d))) none
      → (f : Ends L c s t) × (cost L.disks w f.set ≤ way_cost L w none c s (suc k) t))
      (c d && on L d t)
      (λ h here.
      let r : ℕ = other_than t (L.through d) in
      let there : on L d t ≡ true = and_right (c d) (on L d t) h in
      let (f, cheap) = way_found k r (on-bound L two d l r (besides L two d l t there).lies) (omega arith) in
      let both = cost_either L.disks w f.set (λ i. eqb i d) in
      let one = cost_one L.disks w d l in
      (ends-chain L c s r t f (ends-back L c t r (ends-over L two c d l (and_left (c d) (on L d t) h) t there)), omega arith))
      (λ h here. absurd (omega arith))
      (way-more k t b ∙ q))
      (least_is (overDisk k t) (way_cost L w none c s k t) L.disks)

-- So where disks of c have these ends at all, there is a cheapest set of them.
pub way_cheapest : (L : Layout) → TwoStripes L → (c : ℕ → Bool) (s t : ℕ) → t < L.stripe_bound → Ends L c s t
    → (f : Ends L c s t) × ((g : Ends L c s t) → cost L.disks (price L.disks) f.set ≤ cost L.disks (price L.disks) g.set)
way_cheapest L two c s t b f =
    let n : ℕ = L.disks in
    let below-any : (g : Ends L c s t) → way_cost L (price n) (too_much n) c s n t ≤ cost n (price n) g.set =
    λ g. way_least L two (price n) (too_much n) c s n t b g (count_le n g.set) in
    let (h, cheap) = way_found L two (price n) (too_much n) c s n t b (omega (arith, below-any f, cost_little n f.set)) in
    (h, λ g. omega (arith, below-any g))

-- ---- the cheapest sets that every stripe holds evenly

-- Where each disk costs something, the cheapest of them has just two disks on each stripe touched: by itself it is a fatal loss, whose core is
-- no larger and not cheaper.
pub round_cheapest_paired : (L : Layout) → TwoStripes L → (w : ℕ → ℕ) → ((d : ℕ) → d < L.disks → 0 < w d)
    → (e c : ℕ → Bool) → Round L e c
    → ((g : ℕ → Bool) → Round L e g → cost L.disks w c ≤ cost L.disks w g) → Paired L c
round_cheapest_paired L two w some e c r cheap =
    let own : Round L c c = record { some = r.some; within = λ d h. h; even = r.even } in
    let lossy : fatal L c ≡ true = round_fatal L c c own in
    let inner : Round L e (core L c) = round_wider L c e (core L c) r.within (core_round L two c lossy) in
    let same : (i : ℕ) → i < L.disks → core L c i ≡ c i =
    cost_squeeze L.disks w some (core L c) c (λ i l. core_sub L c i) (cheap (core L c) inner) in
    λ d s l h k.
    count_ext L.disks (λ i m. ap (λ (b : Bool). b && on L i s) (sym (same i m))) ∙ core_paired L two c lossy d s l (same d l ∙ h) k

-- The price through each disk as it is tabulated, and the least of them.
disk_cost : Layout → (w : ℕ → ℕ) → (none : ℕ) → (e : ℕ → Bool) → ℕ → ℕ
disk_cost L w none e d = get_or (tabulate L.disks (λ d. cond (e d) (through_cost L w none e d) none)) d none

cheapest_cost : Layout → (w : ℕ → ℕ) → (none : ℕ) → (e : ℕ → Bool) → ℕ
cheapest_cost L w none e = least L.disks (disk_cost L w none e) none

module _ (L : Layout) (two : TwoStripes L) (w : ℕ → ℕ) (none : ℕ) (e : ℕ → Bool) where
  -- The price through a disk is not above that of any set with the disk,
  through-least : (g : ℕ → Bool) → Round L e g → (d : ℕ) → d < L.disks → g d ≡ true → through_cost L w none e d ≤ cost L.disks w g
  unfolding through_cost round-open
  through-least g r d l h =
      let way =
      way_least L two w none (without e d) (lower L d) L.disks (higher L d) (higher-bound L two d l)
      (round-open L two e g r d l h (without e d) (λ i k q. without_other e d i q ∙ r.within i k)) (count_le L.disks (without g d)) in
      let all = cost_without L.disks w g d l h in
      omega arith

  -- and where there is a price, there is such a set that is not dearer.
  through-found : (d : ℕ) → d < L.disks → e d ≡ true → through_cost L w none e d < none
      → (g : ℕ → Bool) × Round L e g × (g d ≡ true) × (cost L.disks w g ≤ through_cost L w none e d)
  unfolding through_cost
  through-found d l h some =
      let (f, cheap) = way_found L two w none (without e d) (lower L d) L.disks (higher L d) (higher-bound L two d l) (omega arith) in
      let out : f.set d ≡ false = fails_with (f.set d) (without e d d) (f.within d) (without_at e d) in
      let all = cost_with L.disks w f.set d l out in (
        λ i. eqb i d || f.set i,
        round_close L two e (without e d) d l h (without_sub e d) (without_at e d) f,
        ap (λ (b : Bool). b || f.set d) (eq-eqb d d refl),
        omega arith,
      )

  on-cheapest : (d : ℕ) → on_cheapest L w none e d ≡ (e d && eqb (disk_cost L w none e d) (cheapest_cost L w none e))
  unfolding on_cheapest disk_cost cheapest_cost
  on-cheapest d = refl

  disk-cost : (d : ℕ) → d < L.disks → disk_cost L w none e d ≡ cond (e d) (through_cost L w none e d) none
  unfolding disk_cost
  disk-cost d l = table_at L.disks (λ d. cond (e d) (through_cost L w none e d) none) none d l

  disk-erased : (d : ℕ) → d < L.disks → e d ≡ true → disk_cost L w none e d ≡ through_cost L w none e d
  disk-erased d l h = disk-cost d l ∙ ap (λ (b : Bool). cond b (through_cost L w none e d) none) h

  disk-past : (d : ℕ) → L.disks ≤ d → disk_cost L w none e d ≡ none
  unfolding disk_cost
  disk-past d l = table_past L.disks (λ d. cond (e d) (through_cost L w none e d) none) none d l

  cheapest-below : (d : ℕ) → d < L.disks → cheapest_cost L w none e ≤ disk_cost L w none e d
  unfolding cheapest_cost
  cheapest-below d l = least-below (disk_cost L w none e) none L.disks d l

  cheapest-least : (g : ℕ → Bool) → Round L e g → cheapest_cost L w none e ≤ cost L.disks w g
  cheapest-least g r =
      let (d, l, h) = r.some in
      let part = cheapest-below d l in
      let same = disk-erased d l (r.within d h) in
      let through = through-least g r d l h in
      omega arith

  cheapest-found : cheapest_cost L w none e < none → (g : ℕ → Bool) × Round L e g × (cost L.disks w g ≤ cheapest_cost L w none e)
  unfolding cheapest_cost
  cheapest-found some =
      ⊎_elim (λ q. absurd (omega arith))
      (λ (d, l, q).
      by_cases
      (λ (b : Bool). e d ≡ b → cheapest_cost L w none e ≡ cond b (through_cost L w none e d) none
      → (g : ℕ → Bool) × Round L e g × (cost L.disks w g ≤ cheapest_cost L w none e))
      (e d)
      (λ _ h same. let (g, r, _, cheap) = through-found d l h (omega arith) in (g, r, omega arith))
      (λ _ h same. absurd (omega arith))
      refl (q ∙ disk-cost d l))
      (least_is (disk_cost L w none e) none L.disks)

-- ---- the smallest cycle

-- The cheapest set of erased disks that every stripe holds evenly, disks only.
pub record CheapestRound (L : Layout) (e c : ℕ → Bool) : Type 0 where
  pub round : Round L e c
  pub least : (g : ℕ → Bool) → Round L e g → cost L.disks (price L.disks) c ≤ cost L.disks (price L.disks) g
  pub inside : (i : ℕ) → L.disks ≤ i → c i ≡ false

module _ (L : Layout) (two : TwoStripes L) (e : ℕ → Bool) where
  -- It is the set of the disks on the smallest cycle: no other set has its price.
  pub smallest-set : (c : ℕ → Bool) → ((i : ℕ) → L.disks ≤ i → c i ≡ false) → Round L e c
      → ((g : ℕ → Bool) → Round L e g → cost L.disks (price L.disks) c ≤ cost L.disks (price L.disks) g)
      → on_smallest L e ≡ c
  unfolding on_smallest
  smallest-set c inside r cheap =
      let n : ℕ = L.disks in
      let w : ℕ → ℕ = price n in
      let none : ℕ = too_much n in
      let little : cost n w c < none = cost_little n c in
      let most : cheapest_cost L w none e ≤ cost n w c = cheapest-least L two w none e c r in
      let few : cost n w c ≤ cheapest_cost L w none e =
      (let (g, q, below) = cheapest-found L two w none e (omega arith) in omega (arith, cheap g q)) in
      fun_ext (λ d.
      on-cheapest L two w none e d
      ∙ ⊎_elim
      (λ l.
      same_test (e d && eqb (disk_cost L w none e d) (cheapest_cost L w none e)) (c d)
      (λ h.
      let own : e d ≡ true = and_left (e d) _ h in
      let same : disk_cost L w none e d ≡ cheapest_cost L w none e = eqb-true (disk_cost L w none e d) (cheapest_cost L w none e) (and_right (e d) _ h) in
      let through = disk-erased L two w none e d l own in
      let (g, q, held, below) = through-found L two w none e d l own (omega arith) in
      cost_known n c g (omega (arith, cheap g q)) d l ∙ held)
      (λ h.
      let own : e d ≡ true = r.within d h in
      let through = disk-erased L two w none e d l own in
      let at_most = through-least L two w none e c r d l h in
      let at_least_lem = cheapest-below L two w none e d l in
      and_both own (eq-eqb (disk_cost L w none e d) (cheapest_cost L w none e) (omega arith))))
      (λ l.
      let past = disk-past L two w none e d l in
      ap (λ (b : Bool). e d && b) (ne_eqb (disk_cost L w none e d) (cheapest_cost L w none e) (λ q. omega arith)) ∙ and-false (e d) ∙ sym (inside d l))
      (lt_or_le d n))

  -- After a fatal loss there is one, since there is its core.
  pub smallest_cheapest : fatal L e ≡ true → CheapestRound L e (on_smallest L e)
  unfolding below
  smallest_cheapest lossy =
      let n : ℕ = L.disks in
      let w : ℕ → ℕ = price n in
      let none : ℕ = too_much n in
      let some : cheapest_cost L w none e < none =
      omega (arith, cheapest-least L two w none e (core L e) (core_round L two e lossy), cost_little n (core L e)) in
      let (g, r, cheap) = cheapest-found L two w none e some in
      let same : (i : ℕ) → i < n → below n g i ≡ g i = λ i l. ap (λ (b : Bool). b && g i) (lt-ltb i n l) in
      let price-same : cost n w (below n g) ≡ cost n w g = cost_ext n w same in
      let round : Round L e (below n g) = round_same L e g (below n g) same (λ i h. r.within i (is_below n g i h).1) r in
      let least : (h : ℕ → Bool) → Round L e h → cost n w (below n g) ≤ cost n w h =
      λ h q. omega (arith, cheapest-least L two w none e h q) in
      subst (CheapestRound L e) (sym (smallest-set (below n g) (below-not n g) round least))
      (record { round = round; least = least; inside = below-not n g })

  module _ (lossy : fatal L e ≡ true) where
    -- So the disks on the smallest cycle are erased disks, one at least, with just two on each stripe touched.
    pub smallest_paired : Paired L (on_smallest L e)
    smallest_paired =
        let c = smallest_cheapest lossy in
        round_cheapest_paired L two (price L.disks) (price-some L.disks) e (on_smallest L e) c.round c.least

    pub smallest-some : (d : ℕ) × (d < L.disks) × (on_smallest L e d ≡ true)
    smallest-some = (smallest_cheapest lossy).round.some

    pub smallest-within : (d : ℕ) → on_smallest L e d ≡ true → e d ≡ true
    smallest-within = (smallest_cheapest lossy).round.within

    pub smallest-inside : (d : ℕ) → L.disks ≤ d → on_smallest L e d ≡ false
    smallest-inside = (smallest_cheapest lossy).inside

    -- The cycle through them is a cycle of erased disks, and its disks are not dearer than those of any other.
    shown_cycle_lem : Cycle L e (shown_cycle L e)
    unfolding shown_cycle
    shown_cycle_lem =
        let (d, l, h) = smallest-some in
        cycle_mono L (on_smallest L e) e (shown_cycle L e) (λ d l. smallest-within d) (cycle_of_lem L two (on_smallest L e) smallest_paired d l h)

    shown-least : (v : List Entry) → Cycle L e v
        → cost L.disks (price L.disks) (disks_of (shown_cycle L e)) ≤ cost L.disks (price L.disks) (disks_of v)
    unfolding shown_cycle
    shown-least v y =
        let (d, l, h) = smallest-some in
        let own : Cycle L (on_smallest L e) (shown_cycle L e) = cycle_of_lem L two (on_smallest L e) smallest_paired d l h in
        let few =
        cost_mono L.disks (price L.disks) (disks_of (shown_cycle L e)) (on_smallest L e)
        (λ i l. cycle_sub L (on_smallest L e) (shown_cycle L e) own i) in
        let all = (smallest_cheapest lossy).least (disks_of v) (cycle_round L e v y) in
        omega arith

    -- It is the shortest, and of those that are as long the one whose disk numbers come first.
    pub shown_smallest : Smallest L e (shown_cycle L e)
    unfolding ascending
    shown_smallest =
        let n : ℕ = L.disks in
        let own : ℕ → Bool = disks_of (shown_cycle L e) in
        let here : count n own ≡ length (shown_cycle L e) = cycle-length L e (shown_cycle L e) shown_cycle_lem in
        record {
          cycle = shown_cycle_lem;
          shortest = λ v y.
              let there = cycle-length L e v y in
              let cheap = shown-least v y in
              ⊎_elim (λ l. let less = fewer_cheaper n (disks_of v) own (omega arith) in absurd (omega arith)) (λ l. l)
              (lt_or_le (length v) (length (shown_cycle L e)));
          first = λ v y same.
              let there = cycle-length L e v y in
              let cheap = shown-least v y in
              let equal : count n (disks_of v) ≡ count n own = omega arith in
              earlier_digits n (disks_of v) own equal
              ∙ ⊎_elim (λ l. let less = cheaper_first n (disks_of v) own equal l in absurd (omega arith))
              (le-ltb (digits n own) (digits n (disks_of v)))
              (lt_or_le (digits n own) (digits n (disks_of v)));
        }

-- What plan's order leaves has the same smallest cycle.
pub smallest-left : (L : Layout) → TwoStripes L → (e : ℕ → Bool) → fatal L e ≡ true → on_smallest L (residual L e) ≡ on_smallest L e
smallest-left L two e lossy =
    let c = smallest_cheapest L two e lossy in
    smallest-set L two (residual L e) (on_smallest L e) c.inside (round_residual L e (on_smallest L e) c.round)
    (λ g r. c.least g (round_wider L (residual L e) e g (residual_sub L e) r))
