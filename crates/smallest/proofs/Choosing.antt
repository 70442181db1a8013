-- The other disks of the smallest cycle, as they are chosen: the working map has the disks above the lowest one, each turn goes over one of them,
-- and in the end the chosen disks with the lowest one are the cycle.
-- Assumes nothing.
use mathlib.Core.Path.{◌≡◌, refl, sym, ◌∙◌, ap, ap₂, fun_ext}
use mathlib.Core.Bool.{Bool, true, false, cond, ◌&&◌, ◌||◌, true≢false}
use mathlib.Core.Logic.{⊎_elim}
use mathlib.Core.List.{List}
use Prim.Native.Nat.{ℕ, ◌+◌, ◌^◌, ◌≤◌, ◌<◌, zero-le}
use native.Mathlib.Nat.{le_refl}
use native.Mathlib.Numerals.{add-one}
use native.Mathlib.Omega.{arith}
use borrow.Author.Tests.{lt-ltb, le-ltb, ne_eqb, eqb-true, eqb-false}
use lib.Bits.{bit_or}
use lib.Dec.{eqb, ltb}
use lib.ListN.{length, get_or, set, length-set}
use lib.Seq.{get_or-set_same, get_or-set_other}
use Rattle.stripes.specs.Fold.{count}
use Rattle.stripes.specs.System.{Layout, TwoStripes, lower, higher}
use Rattle.stripes.specs.Erased.{erasures, above}
use Rattle.stripes.specs.Joined.{crosses}
use Rattle.stripes.specs.Smallest.{on_smallest}
use Rattle.stripes.proofs.Fold.{by_cases, lt_or_le, and_right, fails_with, count_ext, count_none, count_short}
use Rattle.stripes.proofs.Erased.{is_present, past_end}
use Rattle.stripes.proofs.Joined.{lower-bound, higher-bound}
use Rattle.stripes.proofs.Ends.{Ends}
use Rattle.stripes.proofs.Cost.{count_with}
use Rattle.stripes.proofs.Price.{fewer_cheaper}
use Rattle.stripes.proofs.Cheapest.{way_cheapest}
use Rattle.stripes.proofs.AtLowest.{smallest_by}
use Rattle.zeros.specs.Stored.{stored}
use Rattle.zeros.proofs.Stored.{length-stored, get_or-stored, get_d_after}
use Rattle.tally.specs.Tally.{Table, Passed}
use Rattle.tally.proofs.Counted.{Crossed, table_fewer}
use Rattle.reach.specs.Reached.{has, word_stripes}
use Rattle.neighbours.specs.Near.{Near}
use Rattle.smallest.specs.Leads.{leads, from, closes, Nearest}
use Rattle.smallest.specs.Ways.{level_in, way_level, within, kept, Levelled, Narrowed, Measured}
use Rattle.smallest.proofs.Leads.{leads-ends, ends-leads}
use Rattle.smallest.proofs.Through.{within_is, level_crosses}
use Rattle.smallest.proofs.Chosen.{Cheapest, Chosen, chosen-start, chosen_over, chosen_pass, chosen-take, chosen-end, chosen_full, left_far}
use Rattle.neighbours.proofs.Neighbours.{Apart, near_same}
use Rattle.smallest.proofs.Neighbours.{near_reached}
use Rattle.smallest.proofs.Cutting.{near_cut, cut-alone}
use Rattle.smallest.proofs.Levels.{lower-low, higher-high, level_in_lem}
use Rattle.smallest.proofs.Searched.{above-next}

-- ---- maps

-- A map whose first n bytes are zeros: no disk below n is erased, and from n on there are those that were.
module _ (m : List ℕ) (n : ℕ) where
  wiped-before : (i : ℕ) → i < n → erasures (stored m 0 n (λ i. 0)) i ≡ false
  wiped-before i b =
      ⊎_elim
      (λ l. let zero = get_or-stored m 0 n (λ i. 0) i l zero-le (omega arith) in is_present (stored m 0 n (λ i. 0)) i (λ q. omega arith))
      (λ l. let same = length-stored m 0 n (λ i. 0) in past_end (stored m 0 n (λ i. 0)) i (omega arith))
      (lt_or_le i (length m))

  wiped-after : (i : ℕ) → n ≤ i → erasures (stored m 0 n (λ i. 0)) i ≡ erasures m i
  unfolding erasures
  wiped-after i b = ap (λ (x : ℕ). eqb x 1) (get_d_after m 0 n (λ i. 0) i (omega arith))

-- So the disks above d are left,
wiped_above : (m : List ℕ) (d : ℕ) → erasures (stored m 0 (d + 1) (λ i. 0)) ≡ above d (erasures m)
unfolding above
wiped_above m d =
    fun_ext (λ i.
    ⊎_elim (λ l. wiped-before m (d + 1) i l ∙ sym (ap (λ (b : Bool). b && erasures m i) (le-ltb d i (omega arith))))
    (λ l. wiped-after m (d + 1) i l ∙ sym (ap (λ (b : Bool). b && erasures m i) (lt-ltb d i (omega arith)))) (lt_or_le i (d + 1)))

-- of which the table has the stripes;
pub wiped_table : {L : Layout} {work stripes : List ℕ} → Table L work stripes → (d : ℕ) → {left : List ℕ} → left ≡ stored work 0 (d + 1) (λ i. 0)
    → (erasures left ≡ above d (erasures work)) × Table L left stripes
unfolding above
wiped_table {L} {work} t d {left} is =
    let are : erasures left ≡ above d (erasures work) = ap erasures is ∙ wiped_above work d in (
      are,
      table_fewer t (ap length is ∙ length-stored work 0 (d + 1) (λ i. 0))
          (λ i h. and_right (ltb d i) (erasures work i) (sym (ap (λ (c : ℕ → Bool). c i) are) ∙ h)),
    )

-- the table of neighbours has these disks where it has those from d + 1 on;
pub wiped_near : {L : Layout} (e : ℕ → Bool) {near : List ℕ} (d n : ℕ) → n ≡ d + 1 → Near L (from n e) near → {c : ℕ → Bool} → c ≡ above d e
    → Near L c near
wiped_near {L} e d n is table left = rw left (near_same L (λ i l. sym (above-next e d i)) (rw is at table))

-- or none.
pub wiped_all : (m : List ℕ) → erasures (stored m 0 (length m) (λ i. 0)) ≡ (λ i. false)
wiped_all m =
    fun_ext (λ i.
    ⊎_elim (wiped-before m (length m) i) (λ l. wiped-after m (length m) i l ∙ past_end m i l) (lt_or_le i (length m)))

-- A disk is put into a map.
put_in : (m : List ℕ) (d : ℕ) → d < length m → (i : ℕ) → erasures (set m d 1) i ≡ (eqb i d || erasures m i)
unfolding erasures
put_in m d l i =
    by_cases (λ (b : Bool). eqb i d ≡ b → erasures (set m d 1) i ≡ (b || erasures m i)) (eqb i d)
    (λ _ q. ap (λ (j : ℕ). eqb (get_or (set m d 1) j 0) 1) (eqb-true i d q) ∙ ap (λ (x : ℕ). eqb x 1) (get_or-set_same m d 1 0 l))
    (λ _ q. ap (λ (x : ℕ). eqb x 1) (get_or-set_other m d i 1 0 (eqb-false i d q))) refl

-- ---- the way that is looked for

-- Disk d closes the smallest cycle, with k disks above it.
module _ (L : Layout) (two : TwoStripes L) (room : L.stripe_bound ≤ word_stripes) {e : ℕ → Bool} {d k : ℕ} (near : Nearest L e d k) where
  -- There is a cheapest way between its stripes, which has no more than k disks, since fewer disks are cheaper;
  nearest-cheapest : Cheapest L (above d e) (lower L d) (higher L d) k
  nearest-cheapest =
      let (f, few) = leads-ends L two (above d e) (lower L d) k (higher L d) near.closed in
      let (g, least) = way_cheapest L two (above d e) (lower L d) (higher L d) (higher-bound L two d near.disk) f in
      record {
        first = lower-bound L two d near.disk;
        last = higher-bound L two d near.disk;
        far = near.fewest d near.disk near.erased;
        way = g;
        few =
            ⊎_elim
            (λ more.
            let cheaper = fewer_cheaper L.disks f.set g.set (omega arith) in
            let dear = least f in
            absurd (omega arith))
            (λ le. le) (lt_or_le k (count L.disks g.set));
        least = least;
      }

  -- and the disk with the cheapest way is the smallest cycle, since no other disk is closed with fewer disks above it.
  nearest-smallest : (W : Cheapest L (above d e) (lower L d) (higher L d) k)
      → on_smallest L e ≡ (λ i. ltb i L.disks && (eqb i d || W.way.set i))
  nearest-smallest W = smallest_by L two e d near.disk near.erased W.way fewest W.least
    where
      closing : (i : ℕ) → i < L.disks → (f : Ends L (above i e) (lower L i) (higher L i)) → (j : ℕ) → count L.disks f.set ≤ j
          → closes L e i j ≡ false → ⊥
      closing i l f j few none =
          true≢false (sym (ends-leads L two room (above i e) (lower L i) j (higher L i) (higher-bound L two i l) f few) ∙ none)

      fewest : (i : ℕ) → i < L.disks → e i ≡ true → (f : Ends L (above i e) (lower L i) (higher L i))
          → (count L.disks W.way.set ≤ count L.disks f.set) × (i < d → count L.disks W.way.set < count L.disks f.set)
      fewest i l h f =
          let few = W.few in (
            ⊎_elim (λ less. absurd (closing i l f (count L.disks f.set) (le_refl _) (near.fewest i l h (count L.disks f.set) less)))
                (λ le. omega arith) (lt_or_le (count L.disks f.set) k),
            λ before.
                ⊎_elim (λ more. omega arith) (λ le. absurd (closing i l f k le (near.lowest i before h)))
                (lt_or_le k (count L.disks f.set)),
          )

-- ---- the turns

-- Of the disks below number n those of the cheapest way from s to t over the disks of the working map are chosen, in another map, and counted; of
-- the others some are left, and the tables are those of what is left.
pub record Choosing (L : Layout) (s t k : ℕ) (work stripes near levels map : List ℕ) (n many : ℕ) : Type 0 where
  pub left : ℕ → Bool
  pub measured : Measured L left work stripes near levels s t k
  pub fits : n ≤ length work
  pub long : length map ≡ length work
  pub cheapest : Cheapest L (erasures work) s t k
  pub chosen : Chosen L (erasures work) s t k cheapest.way.set left (erasures map) n
  pub counted : count L.disks (erasures map) ≡ many
  pub outside : (i : ℕ) → L.disks ≤ i → erasures map i ≡ false

-- No more are chosen than there are numbers below n.
pub choosing_few : {L : Layout} {s t k : ℕ} {work stripes near levels map : List ℕ} {n many : ℕ}
    → Choosing L s t k work stripes near levels map n many → many ≤ n
choosing_few {L} {map = map} {n = n} h =
    let all = h.counted in
    let few =
    count_short n L.disks (erasures map)
    (λ i up l. h.chosen.chosen i l ∙ ap (λ (b : Bool). b && h.cheapest.way.set i) (le-ltb i n up)) in
    omega arith

-- All of them are chosen.
pub record AllChosen (L : Layout) (e : ℕ → Bool) (s t k : ℕ) (map : List ℕ) : Type 0 where
  pub cheapest : Cheapest L e s t k
  pub all : (i : ℕ) → i < L.disks → erasures map i ≡ cheapest.way.set i
  pub outside : (i : ℕ) → L.disks ≤ i → erasures map i ≡ false

module _ (L : Layout) (two : TwoStripes L) (room : L.stripe_bound ≤ word_stripes) where
  -- At first no disk is chosen, and the disks above d are left.
  pub choosing_start : {e : ℕ → Bool} {d k s t : ℕ} → Nearest L e d k → Crossed L d s t → {work stripes near levels map : List ℕ}
      → Measured L (erasures work) work stripes near levels s t k → erasures work ≡ above d e → erasures map ≡ (λ i. false)
      → length map ≡ length work → Choosing L s t k work stripes near levels map (d + 1) 0
  unfolding above
  choosing_start {e} {d} {k} {s} {t} nearest x {work} {stripes} {near} {levels} {map} measured left none long =
      let W : Cheapest L (erasures work) s t k = rw (left, ← lower-low x, ← higher-high x) (nearest-cheapest L two room nearest) in
      record {
        left = erasures work;
        measured = measured;
        fits = let here = x.disk in let most = measured.table.disks_fit in omega arith;
        long = long;
        cheapest = W;
        chosen =
            rw none
            (chosen_over L two room (erasures work) s t k W (chosen-start L two room (erasures work) s t k W) (d + 1) zero-le
            (λ i up l. ap (λ (c : ℕ → Bool). c i) left ∙ ap (λ (b : Bool). b && e i) (le-ltb d i (omega arith))));
        counted = count_none L.disks (λ i l. ap (λ (c : ℕ → Bool). c i) none);
        outside = λ i l. ap (λ (c : ℕ → Bool). c i) none;
      }

  module _ {s t k : ℕ} {work stripes near levels map : List ℕ} where
    -- Disks that are not in the working map are passed over,
    pub choosing_over : {n d many : ℕ} → Choosing L s t k work stripes near levels map n many → Passed work n d
        → Choosing L s t k work stripes near levels map d many
    choosing_over {n} {d} h p =
        record {
          left = h.left;
          measured = h.measured;
          fits = p.within;
          long = h.long;
          cheapest = h.cheapest;
          chosen =
              chosen_over L two room (erasures work) s t k h.cheapest h.chosen d p.after
              (λ i up l. fails_with (h.left i) (erasures work i) (h.chosen.sub i) (p.none i up l));
          counted = h.counted;
          outside = h.outside;
        }

    -- in the end all.
    pub choosing_end : {n many : ℕ} → Choosing L s t k work stripes near levels map n many → length work ≤ n → AllChosen L (erasures work) s t k map
    choosing_end h end =
        record {
          cheapest = h.cheapest;
          all =
              let most = h.measured.table.disks_fit in
              chosen-end L two room (erasures work) s t k h.cheapest h.chosen (omega arith);
          outside = h.outside;
        }

    -- A turn goes over a disk of the working map, with its level.
    module _ (apart : Apart L) {d many : ℕ} (h : Choosing L s t k work stripes near levels map d many) {low high level : ℕ}
        (x : Crossed L d low high) (is : level ≡ level_in near levels low high k) where
      -- It has one below k if it is left and on a way.
      level-is : level ≡ cond (h.left d) (way_level L h.left s t k d) k
      level-is = is ∙ level_in_lem L h.measured.neighbours h.measured.levelled room two apart x

      level-below : level < k → (h.left d ≡ true) × (level ≡ way_level L h.left s t k d)
      level-below = go (h.left d) level-is
        where
          go : (b : Bool) → level ≡ cond b (way_level L h.left s t k d) k → level < k → (b ≡ true) × (level ≡ way_level L h.left s t k d)
          go true q less = (refl, q)
          go false q less = absurd (omega arith)

      -- It is passed over,
      pub choosing_pass : k ≤ level → Choosing L s t k work stripes near levels map (d + 1) many
      choosing_pass le =
          record {
            left = h.left;
            measured = h.measured;
            fits = let here = x.disk in let most = h.measured.table.disks_fit in omega arith;
            long = h.long;
            cheapest = h.cheapest;
            chosen =
                rw add-one
                (chosen_pass L two room (erasures work) s t k h.cheapest h.chosen
                (λ held less.
                let own : level ≡ way_level L h.left s t k d =
                level-is ∙ ap (λ (b : Bool). cond b (way_level L h.left s t k d) k) held in
                omega arith));
            counted = h.counted;
            outside = h.outside;
          }

      -- or it is chosen.
      module _ (less : level < k) where
        abbrev rest : ℕ → Bool
        rest = kept L h.left s k (way_level L h.left s t k d) d

        held : h.left d ≡ true
        held = (level-below less).0

        own : level ≡ way_level L h.left s t k d
        own = (level-below less).1

        put : (i : ℕ) → erasures (set map d 1) i ≡ (eqb i d || erasures map i)
        put = let here = x.disk in let most = h.measured.table.disks_fit in let all = h.long in put_in map d (omega arith)

        taken : Chosen L (erasures work) s t k h.cheapest.way.set rest (erasures (set map d 1)) (d + 1)
        taken =
            let same = own in
            rw add-one
            (chosen-take L two room (erasures work) s t k h.cheapest h.chosen x.disk held (omega arith) (erasures (set map d 1))
            (λ i l. put i))

        one_more : count L.disks (erasures (set map d 1)) ≡ many + 1
        one_more =
            count_ext L.disks (λ i l. put i)
            ∙ count_with L.disks (erasures map) d x.disk
            (h.chosen.chosen d x.disk ∙ ap (λ (b : Bool). b && h.cheapest.way.set d) (le-ltb d d (le_refl d)))
            ∙ ap (λ (n : ℕ). n + 1) h.counted

        still-outside : (i : ℕ) → L.disks ≤ i → erasures (set map d 1) i ≡ false
        still-outside i l =
            let here = x.disk in
            put i ∙ ap₂ (λ (a b : Bool). a || b) (ne_eqb i d (λ q. omega arith)) (h.outside i l)

        -- That was the last one where k are chosen with it,
        pub choosing_last : many + 1 ≡ k → AllChosen L (erasures work) s t k (set map d 1)
        choosing_last full =
            record {
              cheapest = h.cheapest;
              all =
                  let more = one_more in
                  chosen_full L two room (erasures work) s t k h.cheapest taken (omega arith);
              outside = still-outside;
            }

        -- or of the disks that lead on from its level it alone is left, and the levels are those of what is left.
        pub choosing_take : {near' levels' : List ℕ} → Narrowed near s level low high near' → Levelled near' s t k levels'
            → Choosing L s t k work stripes near' levels' (set map d 1) (d + 1) (many + 1)
        choosing_take {near'} narrowed levelled =
            let c : ℕ → Bool = h.left in
            let W : Cheapest L (erasures work) s t k = h.cheapest in
            let same = own in
            let here = x.disk in
            let most = h.measured.table.disks_fit in
            let out : crosses L (within L c s k (way_level L c s t k d)) d ≡ true =
            level_crosses L two room c s t k W.first W.last (left_far L two room (erasures work) s t k W h.chosen) d here held
            (omega arith) in
            let n : Near L c near = h.measured.neighbours in
            let inside : ℕ = narrowed.inside in
            let reaches : (y : ℕ) → y < word_stripes → has inside y ≡ within L c s k (way_level L c s t k d) y =
            λ y l.
            narrowed.reaches y ∙ near_reached L n s level y ∙ ap (λ (j : ℕ). leads L c s j y) same
            ∙ sym (within_is L c s k (way_level L c s t k d) y (omega arith)) in
            let neighbours : Near L rest near' =
            ⊎_elim (near_cut L two apart room n inside s k (way_level L c s t k d) reaches x held out)
            (λ (as-it-is, alone).
            rw as-it-is
            (near_same L
            (λ i l.
            sym (cut-alone L two apart room n inside s k (way_level L c s t k d) reaches x (bit_or (2 ^ low) (2 ^ high)) alone refl i l))
            n))
            narrowed.cut in
            record {
              left = rest;
              measured = record { table = h.measured.table; neighbours = neighbours; levelled = levelled };
              fits = omega arith;
              long = length-set map d 1 ∙ h.long;
              cheapest = W;
              chosen = taken;
              counted = one_more;
              outside = still-outside;
            }

  -- All chosen disks with the lowest one are the smallest cycle.
  pub chosen-smallest : {e c : ℕ → Bool} {d s t k : ℕ} {map : List ℕ} → Nearest L e d k → Crossed L d s t → c ≡ above d e
      → AllChosen L c s t k map → L.disks ≤ length map → erasures (set map d 1) ≡ on_smallest L e
  chosen-smallest {e} {c} {d} {s} {t} {k} {map} nearest x left h fits =
      let g : AllChosen L (above d e) (lower L d) (higher L d) k map = rw (left, ← lower-low x, ← higher-high x) at h in
      let way : ℕ → Bool = g.cheapest.way.set in
      let here = x.disk in
      fun_ext (λ i.
      put_in map d (omega arith) i
      ∙ ⊎_elim
      (λ l. ap (λ (b : Bool). eqb i d || b) (g.all i l) ∙ sym (ap (λ (b : Bool). b && (eqb i d || way i)) (lt-ltb i L.disks l)))
      (λ l.
      ap₂ (λ (a b : Bool). a || b) (ne_eqb i d (λ q. omega arith)) (h.outside i l)
      ∙ sym (ap (λ (b : Bool). b && (eqb i d || way i)) (le-ltb i L.disks l)))
      (lt_or_le i L.disks))
      ∙ sym (nearest-smallest L two room nearest g.cheapest)
