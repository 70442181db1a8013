-- What the survivors determine where blocks are cut into sectors: at each position what they determine there.
-- Assumes nothing.
use mathlib.Core.Path.{◌≡◌, refl, sym, ◌∙◌, ap, ap₂}
use mathlib.Core.Bool.{Bool, true, false, cond, not, ◌&&◌}
use mathlib.Core.Logic.{◌↔◌}
use mathlib.Core.List.{List}
use Prim.Native.Nat.{ℕ, suc, ◌*◌, ◌/◌, ◌%◌, ◌<◌, zero-le}
use native.Mathlib.Omega.{arith}
use borrow.Author.Tests.{ltb-true, lt-ltb, le-ltb}
use lib.Dec.{eqb, ltb}
use lib.ListN.{length}
use Rattle.stripes.specs.Fold.{gate, every, count, total}
use Rattle.stripes.specs.System.{Layout, TwoStripes, lower, higher, whole, byte, changed}
use Rattle.stripes.specs.Erased.{without, Agree, AmbiguousIn}
use Rattle.stripes.specs.Joined.{joined}
use Rattle.stripes.specs.Undetermined.{undetermined, determined, survivor_sum, part_sum, parts_cancel, saved_byte, saved}
use Rattle.stripes.specs.Sectors.{sector_at, sectored, at_position, stretch_at}
use Rattle.stripes.proofs.Fold.{by_cases, same_test, xsum_ext, every_ext, count_ext}
use Rattle.stripes.proofs.Bytes.{whole-inside, length-changed, byte-changed, changed-again, changed_self, changed_ext}
use Rattle.stripes.proofs.Sums.{sum_over_ext}
use Rattle.stripes.proofs.Degree.{total_ext}
use Rattle.stripes.proofs.Joined.{Joins, joined_self, joined_back, joined_chain, joined-disk, joined-least}
use Rattle.stripes.proofs.Undetermined.{undetermined_iff}
use Rattle.stripes.proofs.Saved.{parts_cancel-same, saved_byte-same}
use Rattle.stripes.proofs.Sectors.{sector-disk, sector_position, sector-below, by_sector, two-sectors, lower-sector, higher-sector, without-sector, xsum_position, sum_sectors, count-sectors, every-sectors, byte-sector}
use Rattle.stripes.proofs.SectorBytes.{size-sectors, changed-sector}

-- ---- joined stripes
module _ (n : ℕ) {p : ℕ} (place : p < n) (L : Layout) (two : TwoStripes L) (c : ℕ → Bool) where
  -- Two stripes of sectors are at one position, and if this is p, the disks of c there join them.
  abbrev Level : ℕ → ℕ → Type 0
  Level i j = (i % n ≡ j % n) × (i % n ≡ p → joined L (at_position n p c) (i / n) (j / n) ≡ true)

  -- What joins stripes of sectors keeps to this.
  level-disk : (q d : ℕ) → q < n → d < L.disks → c (sector_at n q d) ≡ true
      → Level (lower (sectored n L) (sector_at n q d)) (higher (sectored n L) (sector_at n q d))
  unfolding at_position
  level-disk q d h l k =
      rw (higher-sector n h L two d l, lower-sector n h L two d l) (
        sector_position n h (lower L d) ∙ sym (sector_position n h (higher L d)),
        λ here.
            let same : q ≡ p = sym (sector_position n h (lower L d)) ∙ here in
            rw (sector-disk n h (lower L d), sector-disk n h (higher L d))
            (joined-disk L (at_position n p c) d l (ap (λ (i : ℕ). c (sector_at n i d)) (sym same) ∙ k)),
      )

  level-joins : Joins (sectored n L) c (sectored n L).disks Level
  unfolding sectored
  level-joins =
      record {
        self = λ i. (refl, λ h. joined_self L (at_position n p c) (i / n));
        back = λ i j r. (sym r.0, λ h. joined_back L (at_position n p c) (i / n) (j / n) (r.1 (r.0 ∙ h)));
        chain = λ i j k r s. (
          r.0 ∙ s.0,
          λ h. joined_chain L (at_position n p c) (i / n) (j / n) (k / n) (r.1 h) (s.1 (sym r.0 ∙ h)),
        );
        disk = by_sector n L.disks _ level-disk;
      }

  -- The other way, a disk of c at position p joins the two stripes of its sector.
  sector-joins : Joins L (at_position n p c) L.disks (λ s t. joined (sectored n L) c (sector_at n p s) (sector_at n p t) ≡ true)
  unfolding at_position sectored
  sector-joins =
      record {
        self = λ s. joined_self (sectored n L) c (sector_at n p s);
        back = λ s t. joined_back (sectored n L) c (sector_at n p s) (sector_at n p t);
        chain = λ r s t. joined_chain (sectored n L) c (sector_at n p r) (sector_at n p s) (sector_at n p t);
        disk = λ d l k.
            rw (← lower-sector n place L two d l, ← higher-sector n place L two d l)
            (joined-disk (sectored n L) c (sector_at n p d) (sector-below n place l) k);
      }

  -- So stripes at one position are joined as their disks' stripes are there,
  pub joined-sectors : (s t : ℕ) → joined (sectored n L) c (sector_at n p s) (sector_at n p t) ≡ joined L (at_position n p c) s t
  joined-sectors s t =
      same_test (joined (sectored n L) c (sector_at n p s) (sector_at n p t)) (joined L (at_position n p c) s t)
      (λ h.
      rw (sector-disk n place s, sector-disk n place t) at
      ((joined-least (sectored n L) c Level level-joins (sector_at n p s) (sector_at n p t) h).1 (sector_position n place s)))
      (joined-least L (at_position n p c) _ sector-joins s t)

  -- and stripes at different positions never are.
  pub joined-others : {q : ℕ} → q < n → (p ≡ q → ⊥) → (s t : ℕ) → joined (sectored n L) c (sector_at n p s) (sector_at n q t) ≡ false
  joined-others {q} other differ s t =
      by_cases (λ (b : Bool). b ≡ false) (joined (sectored n L) c (sector_at n p s) (sector_at n q t))
      (λ h.
      absurd (differ (sym (sector_position n place s)
      ∙ (joined-least (sectored n L) c Level level-joins (sector_at n p s) (sector_at n q t) h).0 ∙ sector_position n other t)))
      (λ h. refl)

-- ---- determined and undetermined disks
module _ (n : ℕ) {p : ℕ} (place : p < n) (L : Layout) (two : TwoStripes L) (e : ℕ → Bool) (d : ℕ) (l : d < L.disks) where
  -- A sector is undetermined, or determined, exactly if its disk is at its position.
  pub undetermined-sector : undetermined (sectored n L) e (sector_at n p d) ≡ undetermined L (at_position n p e) d
  unfolding undetermined at_position
  undetermined-sector =
      ap (λ (b : Bool). e (sector_at n p d) && b)
      (ap₂ (joined (sectored n L) (without e (sector_at n p d))) (lower-sector n place L two d l) (higher-sector n place L two d l)
      ∙ joined-sectors n place L two (without e (sector_at n p d)) (lower L d) (higher L d)
      ∙ ap (λ (c : ℕ → Bool). joined L c (lower L d) (higher L d)) (without-sector n place e d))

  pub determined-sector : determined (sectored n L) e (sector_at n p d) ≡ determined L (at_position n p e) d
  unfolding determined at_position
  determined-sector = ap (λ (b : Bool). e (sector_at n p d) && not b) undetermined-sector

-- So a count of determined sectors is the sum of those at each position.
pub count-determined : (n : ℕ) (L : Layout) → TwoStripes L → (e : ℕ → Bool)
    → count (sectored n L).disks (determined (sectored n L) e) ≡ total n (λ p. count L.disks (determined L (at_position n p e)))
unfolding sectored at_position
count-determined n L two e =
    count-sectors n L.disks (determined (sectored n L) e)
    ∙ total_ext n (λ p place. count_ext L.disks (λ d l. determined-sector n place L two e d l))

-- The undetermined disks at a position are those whose sector two codewords differ in.
pub lost_at : (n : ℕ) {p : ℕ} → p < n → (L : Layout) → TwoStripes L → (e : ℕ → Bool) (w : ℕ) → 0 < w → (d : ℕ) → d < L.disks
    → (undetermined L (at_position n p e) d ≡ true) ↔ AmbiguousIn (sectored n L) (whole w) e (sector_at n p d)
unfolding whole sectored
lost_at n {p} place L two e w some d l =
    rw (← undetermined-sector n place L two e d l)
    (undetermined_iff (sectored n L) (two-sectors n L two) (whole w) e (whole-inside w) some (sector_at n p d) (sector-below n place l))

-- ---- sums over a part
module _ (n : ℕ) {p : ℕ} (place : p < n) (L : Layout) (two : TwoStripes L) (w B : ℕ) (cut : B ≡ n * w)
    (e : ℕ → Bool) (a : List ℕ) (q : ℕ) where
  -- Those of sectors are those of the disks at their position: over a stripe, over a part, and for the byte of a determined sector.
  survivor-sector : (s : ℕ)
      → survivor_sum (sectored n L) (whole w) e a q (sector_at n p s) ≡ survivor_sum L (stretch_at B w p) (at_position n p e) a q s
  unfolding survivor_sum at_position
  survivor-sector s =
      sum_sectors n place L (λ d. gate (not (e d)) (byte (whole w) a d q)) s
      ∙ sum_over_ext L (λ d l. ap (gate (not (e (sector_at n p d)))) (byte-sector n w B cut a p d q)) s

  pub part_sum-sector : (c : ℕ → Bool) (t : ℕ)
      → part_sum (sectored n L) (whole w) e c a q (sector_at n p t) ≡ part_sum L (stretch_at B w p) (at_position n p e) (at_position n p c) a q t
  unfolding part_sum sectored gate
  part_sum-sector c t =
      xsum_position n place L.stripe_bound
      (λ s. gate (joined (sectored n L) c s (sector_at n p t)) (survivor_sum (sectored n L) (whole w) e a q s))
      (λ i s h differ.
      ap (λ (b : Bool). gate b (survivor_sum (sectored n L) (whole w) e a q (sector_at n i s))) (joined-others n h L two c place differ s t))
      ∙ xsum_ext L.stripe_bound (λ s l. ap₂ gate (joined-sectors n place L two c s t) (survivor-sector s))

  pub saved_byte-sector : (d : ℕ) → d < L.disks
      → saved_byte (sectored n L) (whole w) e a (sector_at n p d) q ≡ saved_byte L (stretch_at B w p) (at_position n p e) a d q
  unfolding saved_byte
  saved_byte-sector d l =
      ap (part_sum (sectored n L) (whole w) e (without e (sector_at n p d)) a q) (lower-sector n place L two d l)
      ∙ part_sum-sector (without e (sector_at n p d)) (lower L d)
      ∙ ap (λ (c : ℕ → Bool). part_sum L (stretch_at B w p) (at_position n p e) c a q (lower L d)) (without-sector n place e d)

-- So the survivors' sums over the parts cancel exactly if they do at each position.
pub parts_cancel-sectors : (n : ℕ) (L : Layout) → TwoStripes L → (w B : ℕ) → B ≡ n * w → (e : ℕ → Bool) (a : List ℕ)
    → parts_cancel (sectored n L) (whole w) e a ≡ every n (λ p. parts_cancel L (stretch_at B w p) (at_position n p e) a)
unfolding parts_cancel sectored whole
parts_cancel-sectors n L two w B cut e a =
    every-sectors n L.stripe_bound _
    ∙ every_ext n (λ p place.
    every_ext L.stripe_bound (λ t l.
    every_ext w (λ q h. ap (λ (v : ℕ). eqb v 0) (part_sum-sector n place L two w B cut e a q e t))))

-- ---- the determined sectors saved, one position after another
module _ (n w : ℕ) (L : Layout) (e : ℕ → Bool) (a : List ℕ) (k : ℕ) where
  -- The bytes of the sectors with the determined ones at positions below k saved, and the array of these.
  abbrev belowByte : ℕ → ℕ → ℕ
  belowByte i q =
      cond (ltb (i % n) k && determined (sectored n L) e i) (saved_byte (sectored n L) (whole w) e a i q) (byte (whole w) a i q)

  unfoldable pub saved_below : List ℕ
  saved_below = changed (whole w) a belowByte

  pub length-saved-below : length saved_below ≡ length a
  unfolding saved_below
  length-saved-below = length-changed (whole w) a belowByte

module _ (n : ℕ) (L : Layout) (two : TwoStripes L) (w B : ℕ) (cut : B ≡ n * w)
    (e : ℕ → Bool) (a : List ℕ) (sized : length a ≡ L.disks * B) where
  -- The array is one of sectors, which have these bytes then.
  long : length a ≡ (sectored n L).disks * w
  long = sized ∙ size-sectors n w B cut L

  below-byte : (k i q : ℕ) → i < (sectored n L).disks → q < w → byte (whole w) (saved_below n w L e a k) i q ≡ belowByte n w L e a k i q
  unfolding saved_below whole
  below-byte k = byte-changed (whole w) (whole-inside w) (sectored n L).disks a long (belowByte n w L e a k)

  -- At first nothing is saved.
  pub saved-below-none : saved_below n w L e a 0 ≡ a
  unfolding saved_below whole
  saved-below-none =
      sym (changed_self (whole w) (whole-inside w) (sectored n L).disks a long _ (λ i q l h. rw (le-ltb (i % n) 0 zero-le)))

  module _ (k : ℕ) (here : k < n) where
    -- After k positions the bytes at position k are still those of the array,
    below-kept : (d q : ℕ) → d < L.disks → q < w → byte (stretch_at B w k) (saved_below n w L e a k) d q ≡ byte (stretch_at B w k) a d q
    unfolding sectored
    below-kept d q l h =
        sym (byte-sector n w B cut (saved_below n w L e a k) k d q) ∙ below-byte k (sector_at n k d) q (sector-below n here l) h
        ∙ (rw (sector_position n here d, le-ltb k k (omega arith)) (byte-sector n w B cut a k d q))

    below-agree : Agree L (stretch_at B w k) (at_position n k e) (saved_below n w L e a k) a
    below-agree d l _ q h = below-kept d q l h

    -- so the sums over the parts there cancel as they did,
    pub saved-below_cancel :
        parts_cancel L (stretch_at B w k) (at_position n k e) (saved_below n w L e a k) ≡ parts_cancel L (stretch_at B w k) (at_position n k e) a
    saved-below_cancel = parts_cancel-same L (stretch_at B w k) (at_position n k e) (saved_below n w L e a k) a below-agree

    -- and where the determined disks there are saved, these get the same bytes, and the other positions stay.
    next_here : (d : ℕ) → d < L.disks → (q : ℕ) → q < w
        → belowByte n w L e a (suc k) (sector_at n k d) q
        ≡ cond (determined L (at_position n k e) d) (saved_byte L (stretch_at B w k) (at_position n k e) (saved_below n w L e a k) d q)
        (byte (stretch_at B w k) (saved_below n w L e a k) d q)
    next_here d l q h =
        rw (sector_position n here d, lt-ltb k (suc k) (omega arith), determined-sector n here L two e d l)
        (ap₂ (cond (determined L (at_position n k e) d))
        (saved_byte-sector n here L two w B cut e a q d l
        ∙ sym (saved_byte-same L (stretch_at B w k) (at_position n k e) (saved_below n w L e a k) a below-agree d q h))
        (byte-sector n w B cut a k d q ∙ sym (below-kept d q l h)))

    next-other : (p : ℕ) → p < n → (p ≡ k → ⊥) → (d : ℕ) → d < L.disks → (q : ℕ) → q < w
        → belowByte n w L e a (suc k) (sector_at n p d) q ≡ byte (whole w) (saved_below n w L e a k) (sector_at n p d) q
    unfolding sectored
    next-other p place differ d l q h =
        let order : ltb p (suc k) ≡ ltb p k =
        same_test (ltb p (suc k)) (ltb p k) (λ t. let less = ltb-true p (suc k) t in lt-ltb p k (omega arith))
        (λ t. let less = ltb-true p k t in lt-ltb p (suc k) (omega arith)) in
        (rw (sector_position n place d, order)) ∙ sym (below-byte k (sector_at n p d) q (sector-below n place l) h)

    -- So that is one position more.
    pub saved-below-next : saved L (stretch_at B w k) (saved_below n w L e a k) (at_position n k e) ≡ saved_below n w L e a (suc k)
    unfolding saved saved_below whole
    saved-below-next =
        changed-sector n w B cut L here (saved_below n w L e a k) (length-saved-below n w L e a k ∙ sized) _ _ next_here next-other
        ∙ changed-again (whole w) (whole-inside w) (sectored n L).disks a long _ _ _ (λ i q l h. refl)

  -- After all of them every determined sector is saved.
  pub saved-below_all : saved_below n w L e a n ≡ saved (sectored n L) (whole w) a e
  unfolding saved_below saved whole sectored
  saved-below_all =
      changed_ext (whole w) (whole-inside w) (sectored n L).disks a long _ _
      (λ i q l h.
      rw (by_sector n L.disks (λ i. ltb (i % n) n ≡ true)
      (λ p d place m. ap (λ (r : ℕ). ltb r n) (sector_position n place d) ∙ lt-ltb p n place) i l))
