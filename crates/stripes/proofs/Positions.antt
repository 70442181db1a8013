-- Repairs of sectors: what is allowed at each position, lists that take positions in rising order, and when the loss of sectors is fatal.
-- Assumes nothing.
use mathlib.Core.Path.{◌≡◌, refl, sym, ◌∙◌, ap, ap₂, subst}
use mathlib.Core.Bool.{Bool, true, false, cond, ◌&&◌}
use mathlib.Core.Logic.{◌↔◌, ⊎_elim}
use mathlib.Core.List.{List, [], ◌∷◌, ◌++◌, map, append-nil}
use Prim.Native.Nat.{ℕ, zero, suc, ◌+◌, ◌*◌, ◌-◌, ◌/◌, ◌%◌, ◌≤◌, ◌<◌, suc-le-suc}
use native.Mathlib.Nat.{mod-lt, le_refl, le_step, lt-suc_self, zero-lt-suc, le_of_suc-le-suc, not-suc-le-zero}
use native.Mathlib.Omega.{arith}
use borrow.Author.Tests.{eq-eqb, ne_eqb, eqb-true, eqb-false, ltb-true, ltb-false}
use lib.Dec.{eqb, ltb}
use lib.ListN.{length, take, drop, get_or, length-append, length-map, get_or-append}
use lib.Seq.{take-nil, drop-nil}
use Rattle.stripes.specs.Fold.{every, count, lowest, total}
use Rattle.stripes.specs.System.{Layout, Ordered, on}
use Rattle.stripes.specs.Erased.{without}
use Rattle.stripes.specs.Repair.{Entry, disk_of, stripe_of, InOrder, allowed, Peels, repairs, after, residual, fatal, all_allowed, clears}
use Rattle.stripes.specs.Sectors.{sector_at, sectored, at_position, sector_entry, rising, sector_repairs, of_position, fatal_position, InRisingOrder}
use Rattle.stripes.proofs.Fold.{same_test, fails_with, by_cases, lt_or_le, below_suc, every_all, every_and, lowest_is, take_append, drop_append, take-map, drop-map}
use Rattle.stripes.proofs.Degree.{total_ext, total-none}
use Rattle.stripes.proofs.Peel.{Allowed, allowed_is, allowed_of, Stuck, after_append, repairs_peels, residual_stuck, order_free_all, not-fatal, in_order_lem}
use Rattle.stripes.proofs.Clears.{all_allowed_append, all_allowed_peels, peels_all_allowed, repairs-clear, clears-length}
use Rattle.stripes.proofs.Split.{repairs-rest}
use Rattle.stripes.proofs.Sectors.{sector-disk, sector_position, sector-below, below-sector, sector-same, sector_is, by_sector, on-sector, on-other, without-sector, without_elsewhere, count-sectors, one_position}

-- ---- at one position
module _ (n : ℕ) {p : ℕ} (place : p < n) where
  -- A repair of a sector is allowed just where that of its disk is, with the disks erased whose sectors at its position are.
  pub allowed-sector : (L : Layout) (e : ℕ → Bool) (d s : ℕ)
      → allowed (sectored n L) e (sector_at n p d) (sector_at n p s) ≡ allowed L (at_position n p e) d s
  unfolding at_position sectored
  allowed-sector L e d s =
      same_test (allowed (sectored n L) e (sector_at n p d) (sector_at n p s)) (allowed L (at_position n p e) d s)
      (λ h. allowed_of (of_disk (allowed_is (sectored n L) e (sector_at n p d) (sector_at n p s) h)))
      (λ h. allowed_of (of-sector (allowed_is L (at_position n p e) d s h)))
    where
      of_disk : Allowed (sectored n L) e (sector_at n p d) (sector_at n p s) → Allowed L (at_position n p e) d s
      of_disk a =
          record {
            disk = below-sector n place a.disk;
            erased = a.erased;
            here = sym (on-sector n place L d s) ∙ a.here;
            only = λ i l differ k.
                sym (on-sector n place L i s)
                ∙ a.only (sector_at n p i) (sector-below n place l) (λ q. differ (sector-same n place i d q)) k;
          }

      of-sector : Allowed L (at_position n p e) d s → Allowed (sectored n L) e (sector_at n p d) (sector_at n p s)
      of-sector a =
          record {
            disk = sector-below n place a.disk;
            erased = a.erased;
            here = on-sector n place L d s ∙ a.here;
            only = by_sector n L.disks _ (λ q i there l differ k.
                by_cases (λ (b : Bool). on (sectored n L) (sector_at n q i) (sector_at n p s) ≡ false) (eqb q p)
                (λ h.
                let same : sector_at n q i ≡ sector_at n p i = ap (λ (j : ℕ). sector_at n j i) (eqb-true q p h) in
                ap (λ (j : ℕ). on (sectored n L) j (sector_at n p s)) same ∙ on-sector n place L i s
                ∙ a.only i l (λ w. differ (same ∙ ap (sector_at n p) w)) (ap e (sym same) ∙ k))
                (λ h. on-other n there L place (λ w. eqb-false q p h (sym w)) i s));
          }

  -- Repairs at a position take their disks away there, and none at another; and they are allowed together just where those of disks are.
  pub after-sectors : (e : ℕ → Bool) (w : List Entry) → at_position n p (after e (map (sector_entry n p) w)) ≡ after (at_position n p e) w
  unfolding after sector_entry
  after-sectors e [] = refl
  after-sectors e (r ∷ rs) =
      after-sectors (without e (sector_at n p r.disk)) rs ∙ ap (λ (c : ℕ → Bool). after c rs) (without-sector n place e r.disk)

  pub after-others : {q : ℕ} → q < n → (q ≡ p → ⊥) → (e : ℕ → Bool) (w : List Entry)
      → at_position n q (after e (map (sector_entry n p) w)) ≡ at_position n q e
  unfolding after sector_entry
  after-others other differ e [] = refl
  after-others other differ e (r ∷ rs) =
      after-others other differ (without e (sector_at n p r.disk)) rs ∙ without_elsewhere n place other differ e r.disk

  pub all_allowed-sectors : (L : Layout) (e : ℕ → Bool) (w : List Entry)
      → all_allowed (sectored n L) e (map (sector_entry n p) w) ≡ all_allowed L (at_position n p e) w
  unfolding all_allowed sector_entry
  all_allowed-sectors L e [] = refl
  all_allowed-sectors L e (r ∷ rs) =
      ap₂ (λ (x y : Bool). x && y) (allowed-sector L e r.disk r.stripe)
      (all_allowed-sectors L (without e (sector_at n p r.disk)) rs
      ∙ ap (λ (c : ℕ → Bool). all_allowed L c rs) (without-sector n place e r.disk))

-- ---- positions in rising order
module _ (n : ℕ) (g : ℕ → List Entry) where
  -- The lists of the first k positions leave the others as they are, and at each of these what its own list leaves.
  pub after_later : (e : ℕ → Bool) (k : ℕ) {q : ℕ} → k ≤ n → k ≤ q → q < n → at_position n q (after e (rising n g k)) ≡ at_position n q e
  unfolding rising after
  after_later e zero within later place = refl
  after_later e (suc k) {q} within later place =
      ap (at_position n q) (after_append e (rising n g k) (map (sector_entry n k) (g k)))
      ∙ after-others n within place (λ h. omega arith) (after e (rising n g k)) (g k)
      ∙ after_later e k (omega arith) (omega arith) place

  pub after-rising : (e : ℕ → Bool) (k : ℕ) {q : ℕ} → k ≤ n → q < k
      → at_position n q (after e (rising n g k)) ≡ after (at_position n q e) (g q)
  unfolding rising
  after-rising e zero within l = absurd (not-suc-le-zero l)
  after-rising e (suc k) {q} within l =
      ap (at_position n q) (after_append e (rising n g k) (map (sector_entry n k) (g k)))
      ∙ below_suc (λ q. at_position n q (after (after e (rising n g k)) (map (sector_entry n k) (g k))) ≡ after (at_position n q e) (g q)) k
      (λ q h.
      after-others n within (omega arith) (λ same. omega arith) (after e (rising n g k)) (g k)
      ∙ after-rising e k (omega arith) h)
      (after-sectors n within (after e (rising n g k)) (g k)
      ∙ ap (λ (c : ℕ → Bool). after c (g k)) (after_later e k (omega arith) (le_refl k) within))
      q l

  module _ (L : Layout) (e : ℕ → Bool) where
    pub all_allowed-rising : (k : ℕ) → k ≤ n
        → all_allowed (sectored n L) e (rising n g k) ≡ every k (λ p. all_allowed L (at_position n p e) (g p))
    unfolding rising all_allowed every
    all_allowed-rising zero within = refl
    all_allowed-rising (suc k) within =
        all_allowed_append (sectored n L) e (rising n g k) (map (sector_entry n k) (g k))
        ∙ ap₂ (λ (x y : Bool). x && y) (all_allowed-rising k (omega arith))
        (all_allowed-sectors n within L (after e (rising n g k)) (g k)
        ∙ ap (λ (c : ℕ → Bool). all_allowed L c (g k)) (after_later e k (omega arith) (le_refl k) within))

    -- They leave nothing erased just where each leaves nothing at its position.
    pub clears-rising : clears (sectored n L) e (rising n g n) ≡ every n (λ p. clears L (at_position n p e) (g p))
    unfolding clears sectored
    clears-rising =
        ap₂ (λ (x : Bool) (k : ℕ). x && eqb k 0) (all_allowed-rising n (le_refl n))
        (count-sectors n L.disks (after e (rising n g n))
        ∙ total_ext n (λ p l. ap (count L.disks) (after-rising e n (le_refl n) l)))
        ∙ ap (λ (x : Bool). every n (λ p. all_allowed L (at_position n p e) (g p)) && x)
        (total-none n (λ p. count L.disks (after (at_position n p e) (g p))))
        ∙ every_and n (λ p. all_allowed L (at_position n p e) (g p)) (λ p. eqb (count L.disks (after (at_position n p e) (g p))) 0)

  pub length-rising : (k : ℕ) → length (rising n g k) ≡ total k (λ p. length (g p))
  unfolding rising total
  length-rising zero = refl
  length-rising (suc k) =
      length-append (rising n g k) (map (sector_entry n k) (g k))
      ∙ ap₂ (λ (x y : ℕ). x + y) (length-rising k) (length-map (g k) (sector_entry n k))

-- ---- plan's order of sectors, and when their loss is fatal
module _ (n : ℕ) (L : Layout) where
  -- No repair of a sector is allowed where none is at any position.
  stuck-sectors : (c : ℕ → Bool) → ((p : ℕ) → p < n → Stuck L (at_position n p c)) → Stuck (sectored n L) c
  unfolding sectored
  stuck-sectors c stuck i s =
      by_cases (λ (b : Bool). b ≡ false) (allowed (sectored n L) c i s)
      (λ h. sym h ∙ by_sector n L.disks (λ i. allowed (sectored n L) c i s ≡ false) none i (allowed_is (sectored n L) c i s h).disk)
      (λ h. refl)
    where
      none : (p d : ℕ) → p < n → d < L.disks → allowed (sectored n L) c (sector_at n p d) s ≡ false
      none p d place l =
          by_cases (λ (b : Bool). allowed (sectored n L) c (sector_at n p d) s ≡ false) (eqb (s % n) p)
          (λ h.
          let own : s ≡ sector_at n p (s / n) = sym (sector_is n s) ∙ ap (λ (q : ℕ). sector_at n q (s / n)) (eqb-true (s % n) p h) in
          ap (allowed (sectored n L) c (sector_at n p d)) own ∙ allowed-sector n place L c d (s / n) ∙ stuck p place d (s / n))
          (λ h.
          fails_with (allowed (sectored n L) c (sector_at n p d) s) (on (sectored n L) (sector_at n p d) s)
          (λ a. (allowed_is (sectored n L) c (sector_at n p d) s a).here)
          (ap (on (sectored n L) (sector_at n p d)) (sym (sector_is n s))
          ∙ on-other n place L (mod-lt s (omega arith)) (eqb-false (s % n) p h) d (s / n)))

  module _ (e : ℕ → Bool) where
    -- Each repair of plan's order of sectors is allowed at its step.
    pub order_peels : Peels (sectored n L) e (sector_repairs n L e)
    unfolding sector_repairs
    order_peels =
        all_allowed_peels (sectored n L) e (sector_repairs n L e)
        (all_allowed-rising n (λ p. repairs L (at_position n p e)) L e n (le_refl n)
        ∙ every_all n (λ p l. peels_all_allowed L (at_position n p e) (repairs L (at_position n p e)) (repairs_peels L (at_position n p e))))

    -- What any order of the sectors leaves is at each position what plan's order leaves there.
    pub residual-sectors : {p : ℕ} → p < n → at_position n p (residual (sectored n L) e) ≡ residual L (at_position n p e)
    unfolding sector_repairs residual
    residual-sectors {p} place =
        let left : (q : ℕ) → q < n → at_position n q (after e (sector_repairs n L e)) ≡ residual L (at_position n q e) =
        λ q l. after-rising n (λ p. repairs L (at_position n p e)) e n (le_refl n) l in
        ap (at_position n p)
        (sym (order_free_all (sectored n L) e (sector_repairs n L e) order_peels
        (stuck-sectors (after e (sector_repairs n L e)) (λ q l. subst (Stuck L) (sym (left q l)) (residual_stuck L (at_position n q e))))))
        ∙ left p place

    -- So the loss of sectors is not fatal exactly if it is fatal at no position.
    pub fine_all : fatal (sectored n L) e ≡ false → {p : ℕ} → p < n → fatal L (at_position n p e) ≡ false
    unfolding sectored at_position
    fine_all fine {p} place =
        (not-fatal L (at_position n p e)).1 (λ d l.
        ap (λ (c : ℕ → Bool). c d) (sym (residual-sectors place))
        ∙ (not-fatal (sectored n L) e).0 fine (sector_at n p d) (sector-below n place l))

    all-fine : ((p : ℕ) → p < n → fatal L (at_position n p e) ≡ false) → fatal (sectored n L) e ≡ false
    unfolding sectored at_position
    all-fine fine =
        (not-fatal (sectored n L) e).1
        (by_sector n L.disks _ (λ p d place l.
        ap (λ (c : ℕ → Bool). c d) (residual-sectors place) ∙ (not-fatal L (at_position n p e)).0 (fine p place) d l))

    -- The lowest position at which it is fatal.
    pub fatal_at : {p : ℕ} → p ≡ fatal_position n L e → p < n → fatal L (at_position n p e) ≡ true
    unfolding fatal_position
    fatal_at q place = rw q ((lowest_is n (λ p. fatal L (at_position n p e))).found (omega arith))

    pub fine-below : {q : ℕ} → q < fatal_position n L e → fatal L (at_position n q e) ≡ false
    unfolding fatal_position
    fine-below {q} l = (lowest_is n (λ p. fatal L (at_position n p e))).none q l

    -- It is fatal exactly if there is such a position.
    some-fatal : {p : ℕ} → p < n → fatal L (at_position n p e) ≡ true → fatal (sectored n L) e ≡ true
    some-fatal place lossy =
        by_cases (λ (b : Bool). b ≡ true) (fatal (sectored n L) e) (λ h. refl) (λ fine. sym (fine_all fine place) ∙ lossy)

    pub fatal-sectors : fatal (sectored n L) e ≡ ltb (fatal_position n L e) n
    fatal-sectors =
        same_test (fatal (sectored n L) e) (ltb (fatal_position n L e) n)
        (λ lossy.
        by_cases (λ (b : Bool). b ≡ true) (ltb (fatal_position n L e) n) (λ h. refl)
        (λ h.
        let none = ltb-false (fatal_position n L e) n h in
        sym (all-fine (λ p l. fine-below (omega arith))) ∙ lossy))
        (λ h. let some = ltb-true (fatal_position n L e) n h in some-fatal some (fatal_at refl some))

    pub fatal-some : (fatal (sectored n L) e ≡ true) ↔ ((p : ℕ) × (p < n) × (fatal L (at_position n p e) ≡ true))
    fatal-some = (
      λ lossy. let some = ltb-true (fatal_position n L e) n (sym fatal-sectors ∙ lossy) in (fatal_position n L e, some, fatal_at refl some),
      λ h. some-fatal h.1 h.2,
    )

    -- Where it is not fatal, plan's order of sectors leaves nothing erased: it has a repair for each erased sector.
    module _ (fine : fatal (sectored n L) e ≡ false) where
      pub order-clears : clears (sectored n L) e (sector_repairs n L e) ≡ true
      unfolding sector_repairs
      order-clears =
          clears-rising n (λ p. repairs L (at_position n p e)) L e
          ∙ every_all n (λ p l. repairs-clear L (at_position n p e) (fine_all fine l))

      pub length-order : length (sector_repairs n L e) ≡ count (sectored n L).disks e
      length-order = clears-length (sectored n L) e (sector_repairs n L e) order-clears

-- ---- the first repairs of such a list, and the others

-- Only the lists of the positions that are taken matter.
pub rising_ext : (n : ℕ) {g h : ℕ → List Entry} (k : ℕ) → ((p : ℕ) → p < k → g p ≡ h p) → rising n g k ≡ rising n h k
unfolding rising
rising_ext n zero same = refl
rising_ext n (suc k) same =
    ap₂ (λ (v w : List Entry). v ++ map (sector_entry n k) w) (rising_ext n k (λ p l. same p (le_step l))) (same k (lt-suc_self k))

module _ (n : ℕ) (g : ℕ → List Entry) where
  pub take-rising : (j k : ℕ) → take j (rising n g k) ≡ rising n (λ p. take (j - length (rising n g p)) (g p)) k
  unfolding rising
  take-rising j zero = take-nil j
  take-rising j (suc k) =
      take_append j (rising n g k) (map (sector_entry n k) (g k))
      ∙ ap₂ ◌++◌ (take-rising j k) (take-map (sector_entry n k) (j - length (rising n g k)) (g k))

  pub drop-rising : (j k : ℕ) → drop j (rising n g k) ≡ rising n (λ p. drop (j - length (rising n g p)) (g p)) k
  unfolding rising
  drop-rising j zero = drop-nil j
  drop-rising j (suc k) =
      drop_append j (rising n g k) (map (sector_entry n k) (g k))
      ∙ ap₂ ◌++◌ (drop-rising j k) (drop-map (sector_entry n k) (j - length (rising n g k)) (g k))

-- So plan's order of sectors has no memory: after its first k repairs it goes on with the others.
pub order-rest : (n : ℕ) (L : Layout) (e : ℕ → Bool) (k : ℕ)
    → sector_repairs n L (after e (take k (sector_repairs n L e))) ≡ drop k (sector_repairs n L e)
unfolding sector_repairs
order-rest n L e k =
    rising_ext n n (λ p l.
    ap (λ (w : List Entry). repairs L (at_position n p (after e w))) (take-rising n g k n)
    ∙ ap (repairs L) (after-rising n (λ p. take (k - length (rising n g p)) (g p)) e n (le_refl n) l)
    ∙ repairs-rest L (k - length (rising n g p)) (at_position n p e))
    ∙ sym (drop-rising n g k n)
  where
    g : ℕ → List Entry
    g p = repairs L (at_position n p e)

-- ---- the entries at a position

-- Those of two lists, of the list of this position, and of that of another.
of_append : (n p : ℕ) (v w : List Entry) → of_position n p (v ++ w) ≡ of_position n p v ++ of_position n p w
unfolding of_position
of_append n p [] w = refl
of_append n p (r ∷ rs) w =
    by_cases
    (λ (b : Bool).
    cond b (own ∷ of_position n p (rs ++ w)) (of_position n p (rs ++ w))
    ≡ cond b (own ∷ of_position n p rs) (of_position n p rs) ++ of_position n p w)
    (eqb (r.disk % n) p) (λ h. ap (◌∷◌ own) (of_append n p rs w)) (λ h. of_append n p rs w)
  where
    own : Entry
    own = record { disk = r.disk / n; stripe = r.stripe / n }

module _ (n : ℕ) {p : ℕ} (place : p < n) where
  of-sectors : (w : List Entry) → of_position n p (map (sector_entry n p) w) ≡ w
  unfolding of_position sector_entry
  of-sectors [] = refl
  of-sectors (r ∷ rs) =
      rw (sector_position n place r.disk, eq-eqb p p refl, sector-disk n place r.disk, sector-disk n place r.stripe, of-sectors rs)

  of_others : {q : ℕ} → (q ≡ p → ⊥) → (w : List Entry) → of_position n q (map (sector_entry n p) w) ≡ []
  unfolding of_position sector_entry
  of_others differ [] = refl
  of_others {q} differ (r ∷ rs) = rw (sector_position n place r.disk, ne_eqb p q (λ h. differ (sym h))) (of_others differ rs)

-- So those of a list in rising order are the list that it has for the position, or none where the position is not taken.
module _ (n : ℕ) (g : ℕ → List Entry) where
  pub of_later : (k : ℕ) {p : ℕ} → k ≤ n → k ≤ p → of_position n p (rising n g k) ≡ []
  unfolding rising of_position
  of_later zero within later = refl
  of_later (suc k) {p} within later =
      of_append n p (rising n g k) (map (sector_entry n k) (g k))
      ∙ ap₂ ◌++◌ (of_later k (omega arith) (omega arith)) (of_others n within (λ h. omega arith) (g k))

  pub of_position_lem : (k : ℕ) {p : ℕ} → k ≤ n → p < k → of_position n p (rising n g k) ≡ g p
  unfolding rising
  of_position_lem zero within l = absurd (not-suc-le-zero l)
  of_position_lem (suc k) {p} within l =
      of_append n p (rising n g k) (map (sector_entry n k) (g k))
      ∙ below_suc (λ p. of_position n p (rising n g k) ++ of_position n p (map (sector_entry n k) (g k)) ≡ g p) k
      (λ p h. ap₂ ◌++◌ (of_position_lem k (omega arith) h) (of_others n within (λ same. omega arith) (g k)) ∙ append-nil (g p))
      (ap₂ ◌++◌ (of_later k (omega arith) (le_refl k)) (of-sectors n within (g k)))
      p l

pub of_position-take : (n : ℕ) (g : ℕ → List Entry) (k : ℕ) {p : ℕ} → p < n
    → of_position n p (take k (rising n g n)) ≡ take (k - length (rising n g p)) (g p)
of_position-take n g k {p} place =
    ap (of_position n p) (take-rising n g k n) ∙ of_position_lem n (λ p. take (k - length (rising n g p)) (g p)) n (le_refl n) place

-- A list in rising order is what its entries at the positions come to, one after another; so are the first repairs of plan's order.
pub rising_of : (n : ℕ) (g : ℕ → List Entry) → rising n (λ p. of_position n p (rising n g n)) n ≡ rising n g n
rising_of n g = rising_ext n n (λ p l. of_position_lem n g n (le_refl n) l)

pub first_of : (n : ℕ) (L : Layout) (e : ℕ → Bool) (k : ℕ)
    → rising n (λ p. of_position n p (take k (sector_repairs n L e))) n ≡ take k (sector_repairs n L e)
unfolding sector_repairs
first_of n L e k = rising_ext n n (λ p l. of_position-take n _ k l) ∙ sym (take-rising n _ k n)

-- ---- one sector a block: all is as it is of disks
pub one-entries : (w : List Entry) → map (sector_entry 1 0) w ≡ w
unfolding sector_entry sector_at
one-entries [] = refl
one-entries (r ∷ rs) = ap₂ ◌∷◌ (λ i. record { disk = same r.disk i; stripe = same r.stripe i }) (one-entries rs)
  where
    same : (k : ℕ) → k * 1 + 0 ≡ k
    same k = omega arith

pub one_of : (w : List Entry) → of_position 1 0 w ≡ w
one_of w = ap (of_position 1 0) (sym (one-entries w)) ∙ of-sectors 1 (zero-lt-suc 0) w

module _ (L : Layout) (e : ℕ → Bool) where
  pub one-order : sector_repairs 1 L e ≡ repairs L e
  unfolding sector_repairs rising
  one-order = one-entries (repairs L (at_position 1 0 e)) ∙ ap (repairs L) (one_position e)

  pub one-fatal : fatal_position 1 L e ≡ cond (fatal L e) 0 1
  unfolding fatal_position lowest
  one-fatal = ap (λ (c : ℕ → Bool). cond (fatal L c) 0 1) (one_position e)

-- ---- the order of the positions

-- P holds of each entry of a list.
abbrev Each : (Entry → Type 0) → List Entry → Type 0
Each P w = (i : ℕ) → i < length w → P (get_or w i (record { disk = 0; stripe = 0 }))

each_map : (P : Entry → Type 0) (f : Entry → Entry) → ((r : Entry) → P (f r)) → (w : List Entry) → Each P (map f w)
each_map P f all [] i l = absurd (not-suc-le-zero l)
each_map P f all (r ∷ rs) zero l = all r
each_map P f all (r ∷ rs) (suc i) l = each_map P f all rs i (le_of_suc-le-suc l)

-- It holds of each of two lists one after the other, and of each of the second.
each_append : (P : Entry → Type 0) (v w : List Entry) → Each P v → Each P w → Each P (v ++ w)
each_append P [] w first second i l = second i l
each_append P (r ∷ rs) w first second zero l = first zero (zero-lt-suc (length rs))
each_append P (r ∷ rs) w first second (suc i) l =
    each_append P rs w (λ j h. first (suc j) (suc-le-suc h)) second i (le_of_suc-le-suc l)

each_second : (P : Entry → Type 0) (v w : List Entry) → Each P w
    → (i : ℕ) → length v ≤ i → i < length (v ++ w) → P (get_or (v ++ w) i (record { disk = 0; stripe = 0 }))
each_second P [] w second i h l = second i l
each_second P (r ∷ rs) w second zero h l = absurd (not-suc-le-zero h)
each_second P (r ∷ rs) w second (suc i) h l = each_second P rs w second i (le_of_suc-le-suc h) (le_of_suc-le-suc l)

-- An entry is at one of the first k positions, with its stripe at the position of its disk.
abbrev Taken : (n k : ℕ) → Entry → Type 0
Taken n k r = (r.disk % n < k) × (r.stripe % n ≡ r.disk % n)

module _ (n : ℕ) (g : ℕ → List Entry) where
  taken : (k : ℕ) → k ≤ n → Each (Taken n k) (rising n g k)
  unfolding rising sector_entry
  taken zero within = λ i l. absurd (not-suc-le-zero l)
  taken (suc k) within =
      each_append (Taken n (suc k)) (rising n g k) (map (sector_entry n k) (g k))
      (λ i l. let (at, own) = taken k (omega arith) i l in (le_step at, own))
      (each_map (Taken n (suc k)) (sector_entry n k)
      (λ r. let at = sector_position n within r.disk in (omega arith, sector_position n within r.stripe ∙ sym at)) (g k))

  -- Later entries are at no lower position.
  rises : (k : ℕ) → k ≤ n → (i j : ℕ) → i < j → j < length (rising n g k) → disk_of (rising n g k) i % n ≤ disk_of (rising n g k) j % n
  unfolding rising disk_of sector_entry
  rises zero within i j l h = absurd (not-suc-le-zero h)
  rises (suc k) within i j l h =
      let v : List Entry = rising n g k in
      let w : List Entry = map (sector_entry n k) (g k) in
      ⊎_elim
      (λ earlier.
      let same : (m : ℕ) → m < length v → disk_of (v ++ w) m % n ≡ disk_of v m % n =
      λ m b. ap (λ (r : Entry). r.disk % n) (get_or-append v w (record { disk = 0; stripe = 0 }) m b) in
      let before = rises k (omega arith) i j l earlier in
      omega (arith, same i (omega arith), same j earlier))
      (λ later.
      let last =
      each_second Last v w (each_map Last (sector_entry n k) (λ r. sector_position n within r.disk) (g k)) j later h in
      let (at, own) = taken (suc k) within i (omega arith) in
      omega arith)
      (lt_or_le j (length v))
    where
      Last : Entry → Type 0
      Last r = r.disk % n ≡ k

-- So plan's order of sectors takes the positions in rising order, and leaves nothing erased where the loss is not fatal.
pub order-rising : (n : ℕ) (L : Layout) → Ordered L → (e : ℕ → Bool) → fatal (sectored n L) e ≡ false
    → InRisingOrder n L e (sector_repairs n L e)
unfolding sector_repairs disk_of stripe_of
order-rising n L ordered e fine =
    record {
      at_each = λ p place.
          subst (InOrder L (at_position n p e)) (sym (of_position_lem n g n (le_refl n) place))
          (in_order_lem L ordered (at_position n p e) (fine_all n L e fine place));
      own_stripe = λ i l. (taken n g n (le_refl n) i l).1;
      in_turn = rises n g n (le_refl n);
    }
  where
    g : ℕ → List Entry
    g p = repairs L (at_position n p e)
