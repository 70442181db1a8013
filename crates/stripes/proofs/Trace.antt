-- The cycle that is shown of a set of disks with just two on each stripe touched.
-- Assumes nothing.
use mathlib.Core.Path.{◌≡◌, refl, sym, ◌∙◌, ap, ap₂, subst}
use mathlib.Core.Bool.{Bool, true, false, cond, ◌&&◌, ◌||◌, and-true, or-true, false≢true}
use mathlib.Core.Logic.{◌⊎◌, inl, inr, ⊎_elim}
use mathlib.Core.List.{List, ◌∷◌, []}
use Prim.Native.Nat.{ℕ, zero, suc, ◌+◌, ◌≤◌, ◌<◌, zero-le, suc-le-suc}
use native.Mathlib.Nat.{le_refl, le_of_suc-le, le_of_suc-le-suc, eq-or-lt_of_le, ne_of_lt, not-suc-le-zero, zero-lt-suc}
use native.Mathlib.Omega.{arith}
use borrow.Author.Tests.{eqb-true, eqb-false, eq-eqb, ne_eqb}
use lib.Dec.{eqb}
use lib.ListN.{length, get_or}
use Rattle.stripes.specs.Fold.{count, lowest}
use Rattle.stripes.specs.System.{Layout, TwoStripes, on, first_of}
use Rattle.stripes.specs.Repair.{Entry, fatal, disk_of, stripe_of}
use Rattle.stripes.specs.Cycle.{following, Cycle, Paired, trace, lowest_of, cycle_of}
use Rattle.stripes.specs.Smallest.{disks_of}
use Rattle.stripes.proofs.Fold.{and_left, and_right, and_both, count_ext, Lowest, lowest_is}
use Rattle.stripes.proofs.Peel.{Within, Stuck, other_stuck, fatal_of_stuck}
use Rattle.stripes.proofs.Degree.{count-other, on-low, on_which}
use Rattle.stripes.proofs.Core.{core, core_sub, core_some, core_paired}
use Rattle.stripes.proofs.Counts.{count_injects, count_all, count_pair}
use Rattle.stripes.proofs.Walk.{lowest_le, lowest_holds, next, Walk, walk_from, walk_is, Same, same_number, disks-differ, walk_bound, comes_back}

-- ---- the list of a walk

-- Entries i, i + 1, .. , n of them.
table : (ℕ → Entry) → ℕ → ℕ → List Entry
table at i zero = []
table at i (suc n) = at i ∷ table at (suc i) n

length-table : (at : ℕ → Entry) (i n : ℕ) → length (table at i n) ≡ n
unfolding table
length-table at i zero = refl
length-table at i (suc n) = ap suc (length-table at (suc i) n)

get_or-table : (at : ℕ → Entry) (z : Entry) (i n j : ℕ) → j < n → get_or (table at i n) j z ≡ at (i + j)
unfolding table
get_or-table at z i zero j l = absurd (omega arith)
get_or-table at z i (suc n) zero l = ap at (omega arith)
get_or-table at z i (suc n) (suc j) l = get_or-table at z (suc i) n j (omega arith) ∙ ap at (omega arith)

-- The number after i in turn.
pub following-last : (w : List Entry) (i : ℕ) → suc i ≡ length w → following w i ≡ 0
unfolding following
following-last w i e = ap (λ (b : Bool). cond b 0 (suc i)) (eq-eqb (suc i) (length w) e)

pub following_inner : (w : List Entry) (i : ℕ) → suc i < length w → following w i ≡ suc i
unfolding following
following_inner w i l = ap (λ (b : Bool). cond b 0 (suc i)) (ne_eqb (suc i) (length w) (ne_of_lt l))

pub following_is : (w : List Entry) (i : ℕ) → i < length w
    → ((suc i ≡ length w) × (following w i ≡ 0)) ⊎ ((suc i < length w) × (following w i ≡ suc i))
following_is w i l =
    ⊎_elim (λ e. inl (e, following-last w i e)) (λ k. inr (k, following_inner w i k)) (eq-or-lt_of_le l)

pub following-below : (w : List Entry) (i : ℕ) → i < length w → following w i < length w
following-below w i l = ⊎_elim (λ p. omega (arith, p.1)) (λ p. omega (arith, p.0, p.1)) (following_is w i l)

-- The list of a walk up to entry m.
pub walked : (ℕ → Entry) → ℕ → List Entry
walked at m = table at 0 (suc m)

module _ (at : ℕ → Entry) (m : ℕ) where
  pub length-walked : length (walked at m) ≡ suc m
  unfolding walked
  length-walked = length-table at 0 (suc m)

  up-to : (i : ℕ) → i < length (walked at m) → i ≤ m
  up-to i l = let n = length-walked in omega arith

  pub entry_walked : (i : ℕ) → i ≤ m → get_or (walked at m) i (record { disk = 0; stripe = 0 }) ≡ at i
  unfolding walked
  entry_walked i l = get_or-table at (record { disk = 0; stripe = 0 }) 0 (suc m) i (omega arith) ∙ ap at (omega arith)

  disk-walked : (i : ℕ) → i ≤ m → disk_of (walked at m) i ≡ (at i).disk
  unfolding disk_of
  disk-walked i l = ap (λ (r : Entry). r.disk) (entry_walked i l)

  stripe-walked : (i : ℕ) → i ≤ m → stripe_of (walked at m) i ≡ (at i).stripe
  unfolding stripe_of
  stripe-walked i l = ap (λ (r : Entry). r.stripe) (entry_walked i l)

  -- Where the walk then begins again, the number that follows i in turn has the entry after entry i.
  record Follows (i j : ℕ) : Type 0 where
    within : j ≤ m
    disk : (at (suc i)).disk ≡ (at j).disk
    stripe : (at (suc i)).stripe ≡ (at j).stripe

  after-walked : Same at (suc m) 0 → (i : ℕ) → i < length (walked at m) → Follows i (following (walked at m) i)
  after-walked back i l = ⊎_elim last inner (following_is (walked at m) i l)
    where
      k : ℕ
      k = following (walked at m) i

      last : (suc i ≡ length (walked at m)) × (k ≡ 0) → Follows i k
      last (e, f) =
          let n : suc i ≡ suc m = e ∙ length-walked in
          record {
            within = omega arith;
            disk = ap (λ (j : ℕ). (at j).disk) n ∙ back.0 ∙ ap (λ (j : ℕ). (at j).disk) (sym f);
            stripe = ap (λ (j : ℕ). (at j).stripe) n ∙ back.1 ∙ ap (λ (j : ℕ). (at j).stripe) (sym f);
          }

      inner : (suc i < length (walked at m)) × (k ≡ suc i) → Follows i k
      inner (e, f) =
          let n = length-walked in
          record {
            within = omega arith;
            disk = ap (λ (j : ℕ). (at j).disk) (sym f);
            stripe = ap (λ (j : ℕ). (at j).stripe) (sym f);
          }

-- ---- the cycle

-- A walk that begins with the lowest disk of c, along its lower stripe, and comes back after entry m.
module _ (L : Layout) (c : ℕ → Bool) (at : ℕ → Entry) (walk : Walk L c at) (m : ℕ)
    (fresh : (i : ℕ) → 0 < i → i ≤ m → (at i).disk ≡ (at 0).disk → ⊥)
    (back : Same at (suc m) 0) where
  -- Along each stripe of its disks one of them is left.
  stripe-left : (i s : ℕ) → i ≤ m → on L (at i).disk s ≡ true → (k : ℕ) × (k ≤ m) × (s ≡ (at k).stripe)
  stripe-left zero s l h =
      ⊎_elim (λ e. (m, le_refl m, e)) (λ e. (0, zero-le, e ∙ back.1))
      (walk.only_stripe m s (ap (λ (d : ℕ). on L d s) back.0 ∙ h))
  stripe-left (suc i) s l h =
      ⊎_elim (λ e. (i, le_of_suc-le l, e)) (λ e. (suc i, l, e)) (walk.only_stripe i s h)

  same-disk : (i j : ℕ) → i ≤ m → j ≤ m → (at i).disk ≡ (at j).disk → i ≡ j
  same-disk = same_number (λ i. (at i).disk) m (disks-differ L c at walk m fresh)

  -- That stripe holds two of them, the one that is left along it and the one that is reached.
  two-of : (k : ℕ) → k ≤ m → count (suc m) (λ i. on L (at i).disk (at k).stripe) ≡ 2
  two-of k l =
      let f = after-walked at m back k (omega (arith, length-walked at m)) in
      count_pair (suc m) (λ i. on L (at i).disk (at k).stripe) k (following (walked at m) k) (omega arith) (omega arith)
      (λ q. walk.moves k (f.disk ∙ ap (λ (i : ℕ). (at i).disk) q))
      (walk.step k).lies
      (ap (λ (d : ℕ). on L d (at k).stripe) (sym f.disk) ∙ walk.there k)
      (λ i b o.
      let s = walk.step i in
      ⊎_elim (λ q. inl (same-disk i k (omega arith) l q)) (λ q. inr (same-disk i (following (walked at m) k) (omega arith) f.within (q ∙ f.disk)))
      (walk.only_disk k (at i).disk s.disk s.inside o))

  cycle-walked : ((d : ℕ) → d < L.disks → c d ≡ true → (at 0).disk ≤ d)
      → ((s : ℕ) → on L (at 0).disk s ≡ true → (at 0).stripe ≤ s)
      → Cycle L c (walked at m)
  cycle-walked least lower =
      record {
        some = omega (arith, length-walked at m);
        disk = λ i l. subst (λ (d : ℕ). d < L.disks) (sym (disk i l)) (walk.step i).disk;
        erased = λ i l. ap c (disk i l) ∙ (walk.step i).inside;
        different = λ i j l k e. same-disk i j (up i l) (up j k) (sym (disk i l) ∙ e ∙ disk j k);
        here = λ i l. ap₂ (on L) (disk i l) (stripe i l) ∙ (walk.step i).lies;
        there = λ i l. ap₂ (on L) (disk-walked at m _ (after i l).within ∙ sym (after i l).disk) (stripe i l) ∙ walk.there i;
        turns = λ i l e. walk.turns i ((after i l).stripe ∙ sym (stripe-walked at m _ (after i l).within) ∙ e ∙ stripe i l);
        two =
            λ i l s h.
            let (k, b, e) = stripe-left i s (up i l) (ap (λ (d : ℕ). on L d s) (sym (disk i l)) ∙ h) in
            ap (λ (n : ℕ). count n (λ j. on L (disk_of (walked at m) j) s)) (length-walked at m)
            ∙ count_ext (suc m) (λ j b. ap₂ (on L) (disk-walked at m j (omega arith)) e)
            ∙ two-of k b;
        lowest_first =
            λ i l.
            let s = walk.step i in
            let first = disk-walked at m 0 zero-le in
            let here = disk i l in
            let low = least (at i).disk s.disk s.inside in
            omega arith;
        lower_first =
            λ s h.
            let first = stripe-walked at m 0 zero-le in
            let low = lower s (ap (λ (d : ℕ). on L d s) (sym (disk-walked at m 0 zero-le)) ∙ h) in
            omega arith;
      }
    where
      up : (i : ℕ) → i < length (walked at m) → i ≤ m
      up = up-to at m

      disk : (i : ℕ) → i < length (walked at m) → disk_of (walked at m) i ≡ (at i).disk
      disk i l = disk-walked at m i (up i l)

      stripe : (i : ℕ) → i < length (walked at m) → stripe_of (walked at m) i ≡ (at i).stripe
      stripe i l = stripe-walked at m i (up i l)

      after : (i : ℕ) → i < length (walked at m) → Follows at m i (following (walked at m) i)
      after = after-walked at m back

-- What is traced is the list of the walk, where it reaches the first disk after entry m and not before.
trace_is : (L : Layout) (c : ℕ → Bool) (r : Entry) (first m : ℕ)
    → ((i : ℕ) → i < m → (walk_from L c r (suc i)).disk ≡ first → ⊥) → (walk_from L c r (suc m)).disk ≡ first
    → (n i k : ℕ) → i + n ≡ m → n < k → trace L c first k (walk_from L c r i) ≡ table (walk_from L c r) i (suc n)
unfolding trace table walk_from next
trace_is L c r first m before last zero i zero e l = absurd (omega arith)
trace_is L c r first m before last zero i (suc k) e l =
    ap (λ (b : Bool). walk_from L c r i ∷ cond b [] (trace L c first k (walk_from L c r (suc i))))
    (let here : i ≡ m = omega arith in
    eq-eqb (walk_from L c r (suc i)).disk first (ap (λ (j : ℕ). (walk_from L c r (suc j)).disk) here ∙ last))
trace_is L c r first m before last (suc n) i zero e l = absurd (omega arith)
trace_is L c r first m before last (suc n) i (suc k) e l =
    ap (λ (b : Bool). walk_from L c r i ∷ cond b [] (trace L c first k (walk_from L c r (suc i))))
    (ne_eqb (walk_from L c r (suc i)).disk first (before i (omega arith)))
    ∙ ap (λ (w : List Entry). walk_from L c r i ∷ w) (trace_is L c r first m before last n (suc i) k (omega arith) (omega arith))

-- The walk from the lowest disk of c along its lower stripe, and the number of the entry from which it first comes back.
pub walk_of : Layout → (ℕ → Bool) → ℕ → Entry
walk_of L c = walk_from L c (record { disk = lowest_of L c; stripe = first_of (L.through (lowest_of L c)) })

pub last_of : Layout → (ℕ → Bool) → ℕ
last_of L c = lowest L.stripe_bound (λ i. eqb (walk_of L c (suc i)).disk (walk_of L c 0).disk)

module _ (L : Layout) (two : TwoStripes L) (c : ℕ → Bool) (paired : Paired L c) (d : ℕ) (l : d < L.disks) (h : c d ≡ true) where
  first-disk : (lowest_of L c < L.disks) × (c (lowest_of L c) ≡ true)
  unfolding lowest_of
  first-disk = lowest_holds L.disks c d l h

  first-stripe : first_of (L.through (lowest_of L c)) ≡ two.low (lowest_of L c)
  unfolding first_of
  first-stripe = ap first_of (two.two (lowest_of L c) first-disk.0)

  pub walk_of_lem : Walk L c (walk_of L c)
  unfolding walk_of
  walk_of_lem =
      walk_is L two c paired _
      (record {
        disk = first-disk.0;
        inside = first-disk.1;
        lies = ap (on L (lowest_of L c)) first-stripe ∙ on-low L two (lowest_of L c) first-disk.0;
      })

  pub least : (i : ℕ) → i < L.disks → c i ≡ true → (walk_of L c 0).disk ≤ i
  unfolding walk_of walk_from lowest_of
  least i k e = lowest_le L.disks c i e

  pub lower : (s : ℕ) → on L (walk_of L c 0).disk s ≡ true → (walk_of L c 0).stripe ≤ s
  unfolding walk_of walk_from
  lower s k =
      let first = first-stripe in
      let o = two.order (lowest_of L c) first-disk.0 in
      ⊎_elim (λ e. omega arith) (λ e. omega arith) (on_which L two (lowest_of L c) first-disk.0 s k)

  last-is : Lowest L.stripe_bound (λ i. eqb (walk_of L c (suc i)).disk (walk_of L c 0).disk) (last_of L c)
  unfolding last_of
  last-is = lowest_is L.stripe_bound _

  pub fresh_of : (i : ℕ) → 0 < i → i ≤ last_of L c → (walk_of L c i).disk ≡ (walk_of L c 0).disk → ⊥
  fresh_of zero p k = absurd (omega arith)
  fresh_of (suc i) p k = eqb-false (walk_of L c (suc i)).disk (walk_of L c 0).disk (last-is.none i k)

  last-below : last_of L c < L.stripe_bound
  last-below = walk_bound L c (walk_of L c) walk_of_lem (last_of L c) fresh_of two

  pub returns : (walk_of L c (suc (last_of L c))).disk ≡ (walk_of L c 0).disk
  returns = eqb-true (walk_of L c (suc (last_of L c))).disk (walk_of L c 0).disk (last-is.found last-below)

  pub cycle_is : cycle_of L c ≡ walked (walk_of L c) (last_of L c)
  unfolding cycle_of walked walk_of walk_from
  cycle_is =
      trace_is L c _ (lowest_of L c) (last_of L c) (λ i k. fresh_of (suc i) (omega arith) (omega arith)) returns
      (last_of L c) 0 L.stripe_bound (omega arith) last-below

  -- What is shown of a set in which each stripe touched holds exactly two disks is a cycle, and not longer than there are stripes.
  pub cycle_of_lem : Cycle L c (cycle_of L c)
  cycle_of_lem =
      subst (Cycle L c) (sym cycle_is)
      (cycle-walked L c (walk_of L c) walk_of_lem (last_of L c) fresh_of
      (comes_back L c (walk_of L c) walk_of_lem (last_of L c) fresh_of returns) least lower)

-- ---- a cycle among erased disks

-- A cycle is one of any set that holds its disks.
pub cycle_mono : (L : Layout) (c e : ℕ → Bool) (w : List Entry) → Within L c e → Cycle L c w → Cycle L e w
cycle_mono L c e w sub y =
    record {
      some = y.some;
      disk = y.disk;
      erased = λ i l. sub (disk_of w i) (y.disk i l) (y.erased i l);
      different = y.different;
      here = y.here;
      there = y.there;
      turns = y.turns;
      two = y.two;
      lowest_first = y.lowest_first;
      lower_first = y.lower_first;
    }

-- The disks of a list are those of its entries.
pub disk_of_lem : (w : List Entry) (i : ℕ) → i < length w → disks_of w (disk_of w i) ≡ true
unfolding disks_of disk_of
disk_of_lem [] i l = absurd (not-suc-le-zero l)
disk_of_lem (r ∷ rs) zero l = ap (λ (b : Bool). b || disks_of rs r.disk) (eq-eqb r.disk r.disk refl)
disk_of_lem (r ∷ rs) (suc i) l =
    ap (λ (b : Bool). eqb r.disk (disk_of rs i) || b) (disk_of_lem rs i (le_of_suc-le-suc l)) ∙ or-true (eqb r.disk (disk_of rs i))

pub of_disk : (w : List Entry) (d : ℕ) → disks_of w d ≡ true → (i : ℕ) × (i < length w) × (disk_of w i ≡ d)
unfolding disks_of disk_of
of_disk [] d h = absurd (false≢true h)
of_disk (r ∷ rs) d h = go (eqb r.disk d) refl (of_disk rs d)
  where
    go : (b : Bool) → eqb r.disk d ≡ b → (disks_of rs d ≡ true → (i : ℕ) × (i < length rs) × (disk_of rs i ≡ d))
        → (i : ℕ) × (i < suc (length rs)) × (disk_of (r ∷ rs) i ≡ d)
    go true q rest = (0, zero-lt-suc (length rs), eqb-true r.disk d q)
    go false q rest =
        let (i, l, e) = rest (ap (λ (b : Bool). b || disks_of rs d) (sym q) ∙ h) in
        (suc i, suc-le-suc l, e)

-- Where they are different disks, each counts once.
module _ (L : Layout) (e : ℕ → Bool) (w : List Entry) (y : Cycle L e w) where
  pub cycle_sub : (d : ℕ) → disks_of w d ≡ true → e d ≡ true
  cycle_sub d h = let (i, b, q) = of_disk w d h in ap e (sym q) ∙ y.erased i b

  pub cycle-count : (u : ℕ → Bool) → count L.disks (λ d. disks_of w d && u d) ≡ count (length w) (λ i. u (disk_of w i))
  cycle-count u =
      let most : count L.disks (λ d. disks_of w d && u d) ≤ count (length w) (λ i. u (disk_of w i)) =
      count_injects L.disks (length w) (λ d. disks_of w d && u d) (λ i. u (disk_of w i)) place
      (λ d l h. let (k, q) = placed d (and_left (disks_of w d) (u d) h) in (k, ap u q ∙ and_right (disks_of w d) (u d) h))
      (λ d i l k h j q.
      sym (placed d (and_left (disks_of w d) (u d) h)).1 ∙ ap (disk_of w) q ∙ (placed i (and_left (disks_of w i) (u i) j)).1) in
      let few : count (length w) (λ i. u (disk_of w i)) ≤ count L.disks (λ d. disks_of w d && u d) =
      count_injects (length w) L.disks (λ i. u (disk_of w i)) (λ d. disks_of w d && u d) (disk_of w)
      (λ i l h. (y.disk i l, and_both (disk_of_lem w i l) h)) (λ i j l k h q. y.different i j l k) in
      omega arith
    where
      place : ℕ → ℕ
      place d = lowest (length w) (λ i. eqb (disk_of w i) d)

      placed : (d : ℕ) → disks_of w d ≡ true → (place d < length w) × (disk_of w (place d) ≡ d)
      placed d h =
          let (i, b, q) = of_disk w d h in
          let (k, held) = lowest_holds (length w) (λ i. eqb (disk_of w i) d) i b (eq-eqb (disk_of w i) d q) in
          (k, eqb-true (disk_of w (place d)) d held)

  -- So a cycle has as many disks as entries, and each stripe that they touch holds two of them.
  pub cycle-length : count L.disks (disks_of w) ≡ length w
  cycle-length =
      count_ext L.disks (λ d l. sym (and-true (disks_of w d))) ∙ cycle-count (λ d. true) ∙ count_all (length w)

  pub cycle_paired : Paired L (disks_of w)
  cycle_paired d s l h k =
      let (i, b, q) = of_disk w d h in
      cycle-count (λ i. on L i s) ∙ y.two i b s (ap (λ (d : ℕ). on L d s) q ∙ k)

-- No repair is allowed among them, so a cycle of erased disks is a fatal loss.
module _ (L : Layout) (e : ℕ → Bool) (w : List Entry) (y : Cycle L e w) where
  cycle-stuck : Stuck L (disks_of w)
  cycle-stuck =
      other_stuck L (disks_of w) (λ d s l h k.
      let (i, b, q) = of_disk w d h in
      let here : on L (disk_of w i) s ≡ true = ap (λ (d : ℕ). on L d s) q ∙ k in
      let (j, o) = count-other (length w) (λ j. on L (disk_of w j) s) i (y.two i b s here) b here in
      (disk_of w j, y.disk j o.inside, (λ e. o.apart (y.different j i o.inside b (e ∙ sym q))), disk_of_lem w j o.inside, o.holds))

  pub cycle-fatal : fatal L e ≡ true
  cycle-fatal =
      fatal_of_stuck L (disks_of w) e (λ d l. cycle_sub L e w y d) cycle-stuck
      (disk_of w 0) (y.disk 0 y.some) (disk_of_lem w 0 y.some)

-- The core of a fatal loss forms a cycle.
pub core_cycle : (L : Layout) → TwoStripes L → (e : ℕ → Bool) → fatal L e ≡ true → Cycle L e (cycle_of L (core L e))
core_cycle L two e lossy =
    let (d, l, h) = core_some L e lossy in
    cycle_mono L (core L e) e (cycle_of L (core L e)) (λ d l. core_sub L e d) (cycle_of_lem L two (core L e) (core_paired L two e lossy) d l h)
