-- The laws of sectors: their numbers, the stripes they lie on, which are erased, and sums, counts and tests over them.
-- Assumes nothing.
use mathlib.Core.Path.{◌≡◌, refl, sym, ◌∙◌, ap, ap₂, subst, fun_ext}
use mathlib.Core.Bool.{Bool, true, false, not, ◌&&◌, ◌||◌, and-true}
use mathlib.Core.List.{List, [], ◌∷◌, map}
use Prim.Native.Nat.{ℕ, zero, suc, ◌+◌, ◌*◌, ◌/◌, ◌%◌, ◌<◌}
use native.Mathlib.Nat.{add-zero, zero-add, add-mul, mul_assoc, zero-mul, suc-mul, mul-one, div-one, mod-one, div-lt_iff_lt-mul, div-add-mod'}
use native.Mathlib.Omega.{arith}
use borrow.Author.Tests.{eq-eqb, ne_eqb, eqb-true}
use lib.Arith.{digits_div, digits_mod, digits_lt}
use lib.Dec.{eqb}
use lib.ListN.{get_or}
use Rattle.stripes.specs.Fold.{xsum, gate, every, bit, count, total}
use Rattle.stripes.specs.System.{Layout, TwoStripes, among, on, lower, higher, first_of, other_than, sum_over, whole, byte}
use Rattle.stripes.specs.Erased.{without}
use Rattle.stripes.specs.Sectors.{sector_at, sectored, at_position, stretch_at}
use Rattle.stripes.proofs.Fold.{same_test, xsum_ext, xsum_mul, xsum-only, every_at, every_all, count_add}
use Rattle.stripes.proofs.Bytes.{by_block, block-before}
use Rattle.stripes.proofs.Degree.{total_add, total-zero, count-total, other-first}
use Rattle.stripes.proofs.Joined.{lower_is, higher_is}

-- ---- numbers
module _ (n : ℕ) {p : ℕ} (place : p < n) where
  -- The disk and the position of a sector.
  pub sector-disk : (k : ℕ) → sector_at n p k / n ≡ k
  unfolding sector_at
  sector-disk k = digits_div k place

  pub sector_position : (k : ℕ) → sector_at n p k % n ≡ p
  unfolding sector_at
  sector_position k = digits_mod k place

  -- The sectors of N disks, and only these, have numbers below N * n.
  pub sector-below : {k N : ℕ} → k < N → sector_at n p k < N * n
  unfolding sector_at
  sector-below l = digits_lt l place

  pub below-sector : {k N : ℕ} → sector_at n p k < N * n → k < N
  below-sector {k} {N} l = subst (λ (i : ℕ). i < N) (sector-disk k) ((div-lt_iff_lt-mul (omega arith)).1 l)

  pub sector-same : (j k : ℕ) → sector_at n p j ≡ sector_at n p k → j ≡ k
  sector-same j k e = sym (sector-disk j) ∙ ap (λ (i : ℕ). i / n) e ∙ sector-disk k

  pub sector-eqb : (j k : ℕ) → eqb (sector_at n p j) (sector_at n p k) ≡ eqb j k
  sector-eqb j k =
      same_test (eqb (sector_at n p j) (sector_at n p k)) (eqb j k)
      (λ h. eq-eqb j k (sector-same j k (eqb-true (sector_at n p j) (sector_at n p k) h)))
      (λ h. eq-eqb (sector_at n p j) (sector_at n p k) (ap (sector_at n p) (eqb-true j k h)))

  -- Sectors at different positions are different.
  pub sector-apart : {q : ℕ} → q < n → (p ≡ q → ⊥) → (j k : ℕ) → sector_at n p j ≡ sector_at n q k → ⊥
  unfolding sector_at
  sector-apart other differ j k e = differ (sym (sector_position j) ∙ ap (λ (i : ℕ). i % n) e ∙ digits_mod k other)

-- Every number is that of a sector.
pub sector_is : (n i : ℕ) → sector_at n (i % n) (i / n) ≡ i
unfolding sector_at
sector_is n i = div-add-mod' i n

-- What holds of the sector of each of N disks at each position holds of every sector.
pub by_sector : (n N : ℕ) (P : ℕ → Type 0) → ((p d : ℕ) → p < n → d < N → P (sector_at n p d)) → (i : ℕ) → i < N * n → P i
unfolding sector_at
by_sector n N P all = by_block N n P (λ d p l h. all p d h l)

-- ---- stripes
module _ (n : ℕ) {p : ℕ} (place : p < n) where
  pub among-sectors : (s : ℕ) (ss : List ℕ) → among (sector_at n p s) (map (sector_at n p) ss) ≡ among s ss
  unfolding among
  among-sectors s [] = refl
  among-sectors s (t ∷ ss) = ap₂ (λ (x y : Bool). x || y) (sector-eqb n place s t) (among-sectors s ss)

  pub among-others : {q : ℕ} → q < n → (q ≡ p → ⊥) → (s : ℕ) (ss : List ℕ) → among (sector_at n q s) (map (sector_at n p) ss) ≡ false
  unfolding among
  among-others other differ s [] = refl
  among-others {q} other differ s (t ∷ ss) =
      ap₂ (λ (x y : Bool). x || y) (ne_eqb (sector_at n q s) (sector_at n p t) (sector-apart n other place differ s t))
      (among-others other differ s ss)

  module _ (L : Layout) where
    -- The stripes of a sector are those of its disk, at its position.
    pub through-sector : (d : ℕ) → (sectored n L).through (sector_at n p d) ≡ map (sector_at n p) (L.through d)
    unfolding sectored
    through-sector d =
        ap₂ (λ (i j : ℕ). map (sector_at n i) (L.through j)) (sector_position n place d) (sector-disk n place d)

    pub on-sector : (d s : ℕ) → on (sectored n L) (sector_at n p d) (sector_at n p s) ≡ on L d s
    unfolding on
    on-sector d s = ap (among (sector_at n p s)) (through-sector d) ∙ among-sectors s (L.through d)

    pub on-other : {q : ℕ} → q < n → (q ≡ p → ⊥) → (d s : ℕ) → on (sectored n L) (sector_at n p d) (sector_at n q s) ≡ false
    unfolding on
    on-other {q} other differ d s = ap (among (sector_at n q s)) (through-sector d) ∙ among-others other differ s (L.through d)

-- Where every disk lies on two stripes, so does every sector.
pub two-sectors : (n : ℕ) (L : Layout) → TwoStripes L → TwoStripes (sectored n L)
unfolding sectored sector_at
two-sectors n L two =
    record {
      low = λ i. two.low (i / n) * n + i % n;
      high = λ i. two.high (i / n) * n + i % n;
      two = by_sector n L.disks _ (λ p d place l.
          rw (sector-disk n place d, sector_position n place d, two.two d l) refl);
      order = by_sector n L.disks _ (λ p d place l.
          let later = block-before n (two.order d l) in
          rw (sector-disk n place d, sector_position n place d) (omega arith));
      bound = by_sector n L.disks _ (λ p d place l.
          rw (sector-disk n place d, sector_position n place d) (digits_lt (two.bound d l) place));
    }

module _ (n : ℕ) {p : ℕ} (place : p < n) (L : Layout) (two : TwoStripes L) (d : ℕ) (l : d < L.disks) where
  pub lower-sector : lower (sectored n L) (sector_at n p d) ≡ sector_at n p (lower L d)
  unfolding first_of
  lower-sector =
      ap first_of (through-sector n place L d ∙ ap (map (sector_at n p)) (two.two d l)) ∙ ap (sector_at n p) (sym (lower_is L two d l))

  pub higher-sector : higher (sectored n L) (sector_at n p d) ≡ sector_at n p (higher L d)
  higher-sector =
      let less = two.order d l in
      ap₂ other_than (lower-sector ∙ ap (sector_at n p) (lower_is L two d l))
      (through-sector n place L d ∙ ap (map (sector_at n p)) (two.two d l))
      ∙ other-first (sector_at n p (two.low d)) (sector_at n p (two.high d))
      (λ q. let same = sector-same n place (two.high d) (two.low d) q in omega arith)
      ∙ ap (sector_at n p) (sym (higher_is L two d l))

-- ---- erased sectors
module _ (n : ℕ) {p : ℕ} (place : p < n) where
  -- One erased sector less is one erased disk less at its position, and none at another.
  pub without-sector : (e : ℕ → Bool) (d : ℕ) → at_position n p (without e (sector_at n p d)) ≡ without (at_position n p e) d
  unfolding at_position without
  without-sector e d = fun_ext (λ i. ap (λ (b : Bool). e (sector_at n p i) && not b) (sector-eqb n place i d))

  pub without_elsewhere : {q : ℕ} → q < n → (q ≡ p → ⊥) → (e : ℕ → Bool) (d : ℕ)
      → at_position n q (without e (sector_at n p d)) ≡ at_position n q e
  unfolding at_position without
  without_elsewhere {q} other differ e d =
      fun_ext (λ i.
      ap (λ (b : Bool). e (sector_at n q i) && not b) (ne_eqb _ _ (sector-apart n other place differ i d)) ∙ and-true (e (sector_at n q i)))

-- ---- sums, counts and tests
module _ (n : ℕ) {p : ℕ} (place : p < n) where
  -- A sum of which only the sectors at one position have a part.
  pub xsum_position : (N : ℕ) (f : ℕ → ℕ) → ((q d : ℕ) → q < n → (q ≡ p → ⊥) → f (sector_at n q d) ≡ 0)
      → xsum (N * n) f ≡ xsum N (λ d. f (sector_at n p d))
  unfolding sector_at
  xsum_position N f none = xsum_mul N n f ∙ xsum_ext N (λ d l. xsum-only n p place (λ q h differ. none q d h differ))

  -- The sum over a stripe at a position is that over the disks of the stripe.
  pub sum_sectors : (L : Layout) (f : ℕ → ℕ) (s : ℕ) → sum_over (sectored n L) f (sector_at n p s) ≡ sum_over L (λ d. f (sector_at n p d)) s
  unfolding sum_over gate sectored
  sum_sectors L f s =
      xsum_position L.disks (λ d. gate (on (sectored n L) d (sector_at n p s)) (f d))
      (λ q d h differ. ap (λ (b : Bool). gate b (f (sector_at n q d))) (on-other n h L place (λ e. differ (sym e)) d s))
      ∙ xsum_ext L.disks (λ d l. ap (λ (b : Bool). gate b (f (sector_at n p d))) (on-sector n place L d s))

-- A count over the sectors is the sum of those over each position.
pub count-sectors : (n N : ℕ) (t : ℕ → Bool) → count (N * n) t ≡ total n (λ p. count N (at_position n p t))
unfolding count at_position sector_at
count-sectors n zero t = ap (λ (k : ℕ). count k t) (zero-mul n) ∙ sym (total-zero n (λ p l. refl))
count-sectors n (suc N) t =
    ap (λ (k : ℕ). count k t) (suc-mul N n) ∙ count_add (N * n) n t
    ∙ ap₂ (λ (i j : ℕ). i + j) (count-sectors n N t) (count-total n (λ p. t (N * n + p)))
    ∙ sym (total_add n (λ p. count N (at_position n p t)) (λ p. bit (t (N * n + p))))

-- A test of every sector is one of every disk at each position.
pub every-sectors : (n N : ℕ) (t : ℕ → Bool) → every (N * n) t ≡ every n (λ p. every N (λ d. t (sector_at n p d)))
every-sectors n N t =
    same_test (every (N * n) t) (every n (λ p. every N (λ d. t (sector_at n p d))))
    (λ h. every_all n (λ p place. every_all N (λ d l. every_at (N * n) t h (sector_at n p d) (sector-below n place l))))
    (λ h. every_all (N * n) (by_sector n N (λ i. t i ≡ true) (λ p d place l. every_at N _ (every_at n _ h p place) d l)))

-- ---- one sector a block
pub one-sector : (L : Layout) → sectored 1 L ≡ L
unfolding sectored sector_at
one-sector L =
    λ i.
    record {
      disks = mul-one L.disks i;
      stripe_bound = mul-one L.stripe_bound i;
      through = fun_ext (λ d. map_same (L.through (d / 1)) (d % 1) (mod-one d) ∙ ap L.through (div-one d)) i;
    }
  where
    map_same : (ss : List ℕ) (q : ℕ) → q ≡ 0 → map (sector_at 1 q) ss ≡ ss
    map_same [] q e = refl
    map_same (s ∷ ss) q e = ap₂ ◌∷◌ (ap (λ (k : ℕ). s * 1 + k) e ∙ add-zero (s * 1) ∙ mul-one s) (map_same ss q e)

pub one_position : (e : ℕ → Bool) → at_position 1 0 e ≡ e
unfolding at_position sector_at
one_position e = fun_ext (λ d. ap e (add-zero (d * 1) ∙ mul-one d))

-- ---- bytes

-- The bytes of a sector are those of its disk at its position.
module _ (n w B : ℕ) (cut : B ≡ n * w) (a : List ℕ) (p d q : ℕ) where
  pub byte-sector : byte (whole w) a (sector_at n p d) q ≡ byte (stretch_at B w p) a d q
  unfolding byte whole sector_at
  byte-sector =
      let blocks = add-mul (d * n) p w in
      let sectors = mul_assoc d n w in
      rw cut (ap (λ (i : ℕ). get_or a i 0) (omega arith))

  pub byte-block : byte (stretch_at B w p) a d q ≡ byte (whole B) a d (p * w + q)
  unfolding byte whole
  byte-block = ap (λ (i : ℕ). get_or a (d * B + i) 0) (sym (zero-add (p * w + q)))
