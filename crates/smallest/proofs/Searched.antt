-- The search for the disk at which the smallest cycle is met. The disks go in rising order, and each is taken out of the table of neighbours, so
-- that the disks above it are left; the first that closes a cycle with the fewest of them is kept.
-- Assumes nothing.
use mathlib.Core.Path.{◌≡◌, refl, sym, ◌∙◌, ap, ap₂}
use mathlib.Core.Bool.{Bool, true, false, not, ◌&&◌, ◌||◌, and-false, true≢false}
use mathlib.Core.Logic.{◌⊎◌, ⊎_elim}
use mathlib.Core.List.{List}
use Prim.Native.Nat.{ℕ, ◌+◌, ◌-◌, ◌≤◌, ◌<◌}
use native.Mathlib.Nat.{le_refl, not-suc-le-zero}
use native.Mathlib.Numerals.{add-one}
use native.Mathlib.Omega.{arith}
use borrow.Author.Count.{below_more}
use borrow.Author.Tests.{lt-ltb, le-ltb, le-leb, lt-leb, eq-eqb, ne_eqb}
use lib.Arith.{lt_of_le-ne}
use lib.Dec.{eqb, leb, ltb}
use Rattle.stripes.specs.Fold.{bit, count, lowest}
use Rattle.stripes.specs.System.{Layout, TwoStripes, lower, higher}
use Rattle.stripes.specs.Erased.{above}
use Rattle.stripes.specs.Repair.{Entry, fatal}
use Rattle.stripes.specs.Cycle.{Cycle, cycle_of}
use Rattle.stripes.specs.Smallest.{disks_of}
use Rattle.stripes.proofs.Fold.{by_cases, fails_with, lt_or_le, and_right, and_both, count_but}
use Rattle.stripes.proofs.Erased.{is_inside, count_less}
use Rattle.stripes.proofs.Joined.{higher-bound}
use Rattle.stripes.proofs.Walk.{lowest_le, lowest_holds}
use Rattle.stripes.proofs.Core.{core}
use Rattle.stripes.proofs.Trace.{cycle-length, core_cycle}
use Rattle.stripes.proofs.Ends.{Ends}
use Rattle.stripes.proofs.Round.{Round, round-open, round_close, cycle_round, round_fatal}
use Rattle.model.specs.Grid.{layout_of}
use Rattle.model.specs.declared.Size.{Size}
use Rattle.model.proofs.Grid.{layout-disks}
use Rattle.model.proofs.Loop.{loop_fits, three}
use Rattle.layout.specs.Stripe.{Numbered}
use Rattle.layout.proofs.Runs.{numbered_two, stripes_few}
use Rattle.tally.proofs.Counted.{Crossed}
use Rattle.reach.specs.Reached.{steps_to, next_in, word_stripes}
use Rattle.neighbours.specs.Near.{toggled, Near}
use Rattle.smallest.specs.Leads.{disks_to, from, closes, Nearest}
use Rattle.smallest.proofs.Leads.{leads-ends, ends-leads, disks_lead, disks-least}
use Rattle.neighbours.proofs.Neighbours.{Apart, near_same, near_toggle}
use Rattle.smallest.proofs.Neighbours.{near_steps}
use Rattle.smallest.proofs.Levels.{lower-low, higher-high}

-- ---- the disks from a number on
module _ (e : ℕ → Bool) where
  -- At first these are all.
  from_first : (i : ℕ) → e i ≡ from 0 e i
  unfolding from
  from_first i = ap (λ (b : Bool). b && e i) (sym (le-leb 0 i (omega arith)))

  -- Numbers that are no disks of e are passed over.
  from-over : (n k : ℕ) → n ≤ k → ((i : ℕ) → n ≤ i → i < k → e i ≡ false) → (i : ℕ) → from n e i ≡ from k e i
  unfolding from
  from-over n k le none i =
      ⊎_elim
      (λ before.
      ⊎_elim (λ l. ap (λ (b : Bool). b && e i) (lt-leb n i l ∙ sym (lt-leb k i before)))
      (λ l. ap (λ (b : Bool). leb n i && b) (none i l before) ∙ and-false (leb n i) ∙ ap (λ (b : Bool). b && e i) (sym (lt-leb k i before)))
      (lt_or_le i n))
      (λ up. ap (λ (b : Bool). b && e i) (le-leb n i (omega arith) ∙ sym (le-leb k i up)))
      (lt_or_le i k)

  -- The disks above disk d are those from d on but for d itself, and those from d + 1 on.
  module _ (d : ℕ) where
    above_is : (i : ℕ) → d < i → e i ≡ true → above d e i ≡ true
    unfolding above
    above_is i l h = and_both (lt-ltb d i l) h

    is_above : (i : ℕ) → above d e i ≡ true → e i ≡ true
    unfolding above
    is_above i h = and_right (ltb d i) (e i) h

    above-not : above d e d ≡ false
    unfolding above
    above-not = ap (λ (b : Bool). b && e d) (le-ltb d d (le_refl d))

    above-own : e d ≡ true → above d e d ≡ not (from d e d)
    unfolding from
    above-own h = above-not ∙ sym (ap not (and_both (le-leb d d (le_refl d)) h))

    above-others : (i : ℕ) → (i ≡ d → ⊥) → above d e i ≡ from d e i
    unfolding above from
    above-others i apart =
        ap (λ (b : Bool). b && e i)
        (⊎_elim (λ l. lt-ltb d i l ∙ sym (le-leb d i (omega arith))) (λ l. le-ltb d i l ∙ sym (lt-leb d i (omega arith))) (lt_or_le d i))

    pub above-next : (i : ℕ) → above d e i ≡ from (d + 1) e i
    unfolding above from
    above-next i = ap (λ (n : ℕ). leb n i && e i) (sym (add-one d))

-- ---- cycles that a disk closes
module _ (L : Layout) (two : TwoStripes L) (e : ℕ → Bool) where
  -- Where the loss of at most m disks is never fatal, no disk closes a cycle with fewer than m others: with these it would be a set of which every
  -- stripe holds an even number.
  closes-long : (m : ℕ) → ((g : ℕ → Bool) → count L.disks g ≤ m → fatal L g ≡ false)
      → (d : ℕ) → d < L.disks → e d ≡ true → (k : ℕ) → k < m → closes L e d k ≡ false
  unfolding bit
  closes-long m never d l h k less =
      by_cases (λ (b : Bool). closes L e d k ≡ b → b ≡ false) (closes L e d k)
      (λ _ q.
      let (f, few) = leads-ends L two (above d e) (lower L d) k (higher L d) q in
      let g : ℕ → Bool = λ i. eqb i d || f.set i in
      let r : Round L e g = round_close L two e (above d e) d l h (is_above e d) (above-not e d) f in
      let own : Round L g g = record { some = r.some; within = λ i p. p; even = r.even } in
      let out : f.set d ≡ false = fails_with (f.set d) (above d e d) (f.within d) (above-not e d) in
      let one : count L.disks f.set + 1 ≡ count L.disks g =
      ap (λ (b : Bool). count L.disks f.set + bit (b || f.set d)) (sym (eq-eqb d d refl))
      ∙ count_but L.disks g f.set d l out (λ j apart. ap (λ (b : Bool). b || f.set j) (sym (ne_eqb j d apart))) in
      absurd (true≢false (sym (round_fatal L g g own) ∙ never g (omega arith))))
      (λ _ q. refl) refl

  -- A set of which every stripe holds an even number is closed by its lowest disk.
  round-closes : L.stripe_bound ≤ word_stripes → (g : ℕ → Bool) → Round L e g → (k : ℕ) → count L.disks g ≤ k + 1
      → (d : ℕ) × (d < L.disks) × (e d ≡ true) × (closes L e d k ≡ true)
  unfolding round-open
  round-closes room g r k few =
      let (i, w, q) = r.some in
      let d : ℕ = lowest L.disks g in
      let (l, h) = lowest_holds L.disks g i w q in
      let low : (i : ℕ) → g i ≡ true → d ≤ i = lowest_le L.disks g in
      let f : Ends L (above d e) (lower L d) (higher L d) =
      round-open L two e g r d l h (above d e) (λ i k q. above_is e d i (lt_of_le-ne (low i k) (λ p. q (sym p))) (r.within i k)) in
      let one = count_less L.disks g d l h in
      let closed = ends-leads L two room (above d e) (lower L d) k (higher L d) (higher-bound L two d l) f (omega arith) in
      (d, l, r.within d h, closed)

-- ---- the search

-- Of the disks of e below number n, disk d closes a cycle with k disks above it, and no lower one does.
pub record First (L : Layout) (e : ℕ → Bool) (n d k : ℕ) : Type 0 where
  pub before : d < n
  pub erased : e d ≡ true
  pub closed : closes L e d k ≡ true
  pub lowest : (i : ℕ) → i < d → e i ≡ true → closes L e i k ≡ false

-- It stays so among more of them.
first_later : {L : Layout} {e : ℕ → Bool} {n m d k : ℕ} → n ≤ m → First L e n d k → First L e m d k
first_later le f =
    record { before = let l = f.before in omega arith; erased = f.erased; closed = f.closed; lowest = f.lowest }

-- When the disks of e below number n have been gone over, the table has the others, `others` is the number of disks with which one of those closes
-- a cycle, the fewest, and `disk` is the first that does. There is none yet where `others` is the room of the table.
pub record Searched (L : Layout) (e : ℕ → Bool) (n : ℕ) (near : List ℕ) (disk others : ℕ) : Type 0 where
  pub table : Near L (from n e) near
  pub few : others ≤ word_stripes
  pub fewest : (i : ℕ) → i < n → e i ≡ true → (j : ℕ) → j < others → closes L e i j ≡ false
  pub found : others < word_stripes → First L e n disk others

pub searched_none : {L : Layout} {e : ℕ → Bool} {near : List ℕ} (disk : ℕ) → Near L e near → Searched L e 0 near disk word_stripes
searched_none {L} {e} {near} disk table =
    record {
      table = near_same L (λ i l. from_first e i) table;
      few = le_refl word_stripes;
      fewest = λ i none. absurd (not-suc-le-zero none);
      found = λ less. absurd (omega arith);
    }

-- Numbers that are no disks of e are passed over.
pub searched_over : {L : Layout} {e : ℕ → Bool} {n : ℕ} {near : List ℕ} {disk others : ℕ} → Searched L e n near disk others
    → {k : ℕ} → n ≤ k → ((i : ℕ) → n ≤ i → i < k → e i ≡ false) → Searched L e k near disk others
searched_over {L} {e} {n} {near} {disk} {others} s {k} le none =
    record {
      table = near_same L (λ i l. from-over e n k le none i) s.table;
      few = s.few;
      fewest = λ i l h.
          ⊎_elim (λ before. s.fewest i before h) (λ up. absurd (true≢false (sym h ∙ none i up l))) (lt_or_le i n);
      found = λ less. first_later le (s.found less);
    }

-- A disk is taken out of the table, and the steps between its stripes are counted.
module _ {L : Layout} (two : TwoStripes L) (apart : Apart L) (room : L.stripe_bound ≤ word_stripes) {e : ℕ → Bool}
    {d : ℕ} {near : List ℕ} {disk others : ℕ} (s : Searched L e d near disk others) (held : e d ≡ true) {low high : ℕ} (x : Crossed L d low high)
    {after : List ℕ} (is : after ≡ toggled near low high) where
  -- The disks above it are left.
  left : Near L (above d e) after
  left = near_toggle L two apart room s.table x (above-own e d held) (above-others e d) is

  next : Near L (from (d + 1) e) after
  next = near_same L (λ i l. above-next e d i) left

  module _ {steps : ℕ} (some : 0 < others) (counted : steps ≡ steps_to (next_in after) word_stripes low (others - 1) high) where
    -- The steps are the disks with which it closes a cycle.
    steps-are : steps ≡ disks_to L (above d e) (lower L d) (others - 1) (higher L d)
    steps-are =
        counted ∙ near_steps L left low (others - 1) high
        ∙ ap₂ (λ (s t : ℕ). disks_to L (above d e) s (others - 1) t) (sym (lower-low x)) (sym (higher-high x))

    -- Fewer do not close one,
    fewer-not : (j : ℕ) → j < others → j < steps → closes L e d j ≡ false
    fewer-not j less before =
        by_cases (λ (b : Bool). closes L e d j ≡ b → b ≡ false) (closes L e d j)
        (λ _ q.
        let least = disks-least L (above d e) (lower L d) (others - 1) (higher L d) j (omega arith) q in
        let are = steps-are in
        absurd (omega arith))
        (λ _ q. refl) refl

    -- It is better than what was found before if they are fewer;
    searched-better : steps < others → Searched L e (d + 1) after d steps
    searched-better less =
        record {
          table = next;
          few = let most = s.few in omega arith;
          fewest =
              below_more (λ i. e i ≡ true → (j : ℕ) → j < steps → closes L e i j ≡ false) d
              (λ i l h j below. s.fewest i l h j (omega arith)) (λ h j below. fewer-not j (omega arith) below);
          found = λ _.
              record {
                before = omega arith;
                erased = held;
                closed =
                    ap (λ (n : ℕ). closes L e d n) steps-are
                    ∙ disks_lead L (above d e) (lower L d) (others - 1) (higher L d) (let are = steps-are in omega arith);
                lowest = λ i l h. s.fewest i l h steps less;
              };
        }

    -- else that stays.
    searched-stay : others ≤ steps → Searched L e (d + 1) after disk others
    searched-stay more =
        record {
          table = next;
          few = s.few;
          fewest =
              below_more (λ i. e i ≡ true → (j : ℕ) → j < others → closes L e i j ≡ false) d s.fewest
              (λ h j below. fewer-not j below (omega arith));
          found = λ less. first_later (omega arith) (s.found less);
        }

    -- Either way the disk has been gone over.
    pub searched_next : {disk' others' : ℕ}
        → ((steps < others) × (disk' ≡ d) × (others' ≡ steps)) ⊎ ((others ≤ steps) × (disk' ≡ disk) × (others' ≡ others))
        → Searched L e (d + 1) after disk' others'
    searched_next =
        ⊎_elim (λ (less, p, q). rw (p, q) (searched-better less)) (λ (more, p, q). rw (p, q) (searched-stay more))

-- Where some disk closes a cycle with fewer disks than the table has room for, and no disk from n on closes one with fewer than `others`, the search
-- is done.
searched_all : {L : Layout} {e : ℕ → Bool} {n : ℕ} {near : List ℕ} {disk others : ℕ} → Searched L e n near disk others
    → ((i : ℕ) → L.disks ≤ i → e i ≡ false)
    → (d : ℕ) × (d < L.disks) × (e d ≡ true) × (closes L e d (word_stripes - 1) ≡ true)
    → ((i : ℕ) → n ≤ i → i < L.disks → e i ≡ true → (j : ℕ) → j < others → closes L e i j ≡ false)
    → Nearest L e disk others
searched_all {L} {e} {n} {near} {disk} {others} s inside (d, l, h, closed) rest =
    let f = s.found less in
    record {
      disk = is_inside L.disks e inside disk f.erased;
      erased = f.erased;
      closed = f.closed;
      fewest = none;
      lowest = f.lowest;
      few = less;
    }
  where
    none : (i : ℕ) → i < L.disks → e i ≡ true → (j : ℕ) → j < others → closes L e i j ≡ false
    none i w q = ⊎_elim (λ before. s.fewest i before q) (λ up. rest i up w q) (lt_or_le i n)

    less : others < word_stripes
    less =
        ⊎_elim (λ few. few) (λ many. absurd (true≢false (sym closed ∙ none d l h (word_stripes - 1) (omega arith))))
        (lt_or_le others word_stripes)

-- ---- in a grid
module _ {z : Size} {base : ℕ} (n : Numbered z base) (e : ℕ → Bool) where
  -- No disk closes a cycle with fewer than three others,
  grid-long : (d : ℕ) → d < (layout_of z base).disks → e d ≡ true → (k : ℕ) → k < 3 → closes (layout_of z base) e d k ≡ false
  grid-long =
      closes-long (layout_of z base) (numbered_two n) e 3
      (λ g few. let same = ap (λ (m : ℕ). count m g) (layout-disks z base) in three z base n.above g (omega arith))

  -- and after a fatal loss some disk closes one: a cycle of a grid has fewer disks than the table has room for.
  grid-closes : fatal (layout_of z base) e ≡ true
      → (d : ℕ) × (d < (layout_of z base).disks) × (e d ≡ true) × (closes (layout_of z base) e d (word_stripes - 1) ≡ true)
  grid-closes lossy =
      let L : Layout = layout_of z base in
      let w : List Entry = cycle_of L (core L e) in
      let y : Cycle L e w = core_cycle L (numbered_two n) e lossy in
      let short = loop_fits z base n.above e w y n.fits in
      let all = cycle-length L e w y in
      round-closes L (numbered_two n) e (stripes_few n) (disks_of w) (cycle_round L e w y) (word_stripes - 1) (omega arith)

  -- So the search is done where the cycle found is as short as any, and where no disk is left.
  pub searched_end : fatal (layout_of z base) e ≡ true → ((i : ℕ) → (layout_of z base).disks ≤ i → e i ≡ false)
      → {k : ℕ} {near : List ℕ} {disk others : ℕ} → Searched (layout_of z base) e k near disk others
      → (others ≤ 3) ⊎ ((layout_of z base).disks ≤ k) → Nearest (layout_of z base) e disk others
  searched_end lossy inside s end =
      searched_all s inside (grid-closes lossy)
      (λ i up l h j less. ⊎_elim (λ few. grid-long i l h j (omega arith)) (λ past. absurd (omega arith)) end)
