-- What is left of a fatal loss: each stripe touched holds exactly two of its disks, so that two codewords agree on every survivor.
-- Assumes nothing.
use mathlib.Core.Path.{◌≡◌, refl, sym, ◌∙◌, ap, subst}
use mathlib.Core.Bool.{Bool, true, false, ◌&&◌, true≢false}
use mathlib.Core.Logic.{⊎_elim}
use mathlib.Core.List.{List}
use Prim.Native.Nat.{ℕ, zero, suc, ◌+◌, ◌-◌, ◌*◌, ◌/◌, ◌%◌, ◌≤◌, ◌<◌, zero-le}
use native.Mathlib.Nat.{mod-lt, mod-add-mod, lt-suc_self, le_of_suc-le-suc, not-suc-le-zero}
use native.Mathlib.Omega.{arith}
use lib.Arith.{digits_div, digits_lt, lt_of_le-ne}
use lib.Dec.{ltb}
use lib.ListN.{length, get_or}
use Rattle.stripes.specs.Fold.{◌⊕◌, xsum, gate, bit, count, lowest, tabulate, total}
use Rattle.stripes.specs.System.{Layout, TwoStripes, on, byte, sum_over, stripe_sum, Codeword}
use Rattle.stripes.specs.Erased.{without, Ambiguous, AmbiguousIn, below}
use Rattle.stripes.specs.Repair.{repairs, residual, fatal}
use Rattle.stripes.specs.Cycle.{Paired}
use Rattle.stripes.specs.declared.Stretch.{Stretch}
use Rattle.stripes.proofs.Xor.{zero-⊕, ⊕-zero, ⊕_self}
use Rattle.stripes.proofs.Fold.{and_left, and_right, and_both, fails_with, by_cases, lt_or_le, xsum_ext, xsum-zero, gate-zero, bit_le, count-some, count_found, count-without, Lowest, lowest_is, length-tabulate, get_d_tabulate}
use Rattle.stripes.proofs.Peel.{Within, Stuck, without_at, without_other, without_sub, stuck_other, repairs_peels, residual_stuck, residual_sub, is_fatal, fatal_of_stuck, fatal_mono, repairs-count}
use Rattle.stripes.proofs.Erased.{below_is, is_below}
use Rattle.stripes.proofs.Degree.{total_times, total_squeeze, count-total, count-two, Other, count-other, degree, touched, touches, on-low, on-bound, degrees, touching, touched_mono, peels_fewer}

-- ---- paired disks

-- On each stripe of a disk there is just one other.
pub paired_other : (L : Layout) (c : ℕ → Bool) → Paired L c → (d s : ℕ) → d < L.disks → c d ≡ true → on L d s ≡ true
    → (i : ℕ) × Other L.disks (λ i. c i && on L i s) d i
paired_other L c paired d s l h k = count-other L.disks (λ i. c i && on L i s) d (paired d s l h k) l (and_both h k)

-- Where nothing is allowed and no fewer stripes are touched than there are disks, the disks are paired: each stripe touched
-- holds two at least, and each disk counts on two stripes.
module _ (L : Layout) (two : TwoStripes L) (c : ℕ → Bool) (stuck : Stuck L c) where
  stuck-degree : (s : ℕ) → 2 * bit (ltb 0 (degree L c s)) ≤ degree L c s
  unfolding degree bit
  stuck-degree s =
      by_cases (λ b. 2 * bit b ≤ degree L c s) (ltb 0 (degree L c s))
      (λ h.
      let (d, l, k, m) = touching L c s h in
      let (i, w, q, j, n) = stuck_other L c stuck d s l k m in
      count-two L.disks (λ d. c d && on L d s) d i l (and_both k m) w (and_both j n) q)
      (λ h. zero-le)

  pub paired_of_few : count L.disks c ≤ touched L c → Paired L c
  unfolding touched degree bit
  paired_of_few few d s l h k =
      let sum : total L.stripe_bound (degree L c) ≡ 2 * count L.disks c = degrees L two c in
      let each : total L.stripe_bound (λ s. 2 * bit (ltb 0 (degree L c s))) ≡ 2 * touched L c =
      total_times L.stripe_bound 2 (λ s. bit (ltb 0 (degree L c s)))
      ∙ ap (λ (n : ℕ). 2 * n) (sym (count-total L.stripe_bound (λ s. ltb 0 (degree L c s)))) in
      let same : 2 * bit (ltb 0 (degree L c s)) ≡ degree L c s =
      total_squeeze L.stripe_bound (λ s. 2 * bit (ltb 0 (degree L c s))) (degree L c) (λ i w. stuck-degree i) (omega arith) s
      (on-bound L two d l s k) in
      sym same ∙ ap (λ (b : Bool). 2 * bit b) (touches L c d s l h k)

-- ---- the core of a fatal loss

-- Losing the erased disks one by one, lowest first, this is the first disk whose loss is fatal.
unfoldable pub closing : Layout → (ℕ → Bool) → ℕ
closing L e = lowest L.disks (λ d. fatal L (below (suc d) e))

-- What plan's order then leaves.
unfoldable pub core : Layout → (ℕ → Bool) → ℕ → Bool
core L e = residual L (below (suc (closing L e)) e)

-- There are none below 0.
below_none : (L : Layout) (e : ℕ → Bool) → fatal L (below 0 e) ≡ false
below_none L e =
    by_cases (λ (b : Bool). b ≡ false) (fatal L (below 0 e))
    (λ h.
    let (d, l, k) = (is_fatal L (below 0 e)).0 h in
    absurd (not-suc-le-zero (is_below 0 e d (residual_sub L (below 0 e) d k)).0))
    (λ h. refl)

module _ (L : Layout) (e : ℕ → Bool) where
  -- The core is some of the erased disks up to the closing disk, and nothing is allowed there.
  pub core_sub : (d : ℕ) → core L e d ≡ true → e d ≡ true
  unfolding core
  core_sub d h = (is_below (suc (closing L e)) e d (residual_sub L (below (suc (closing L e)) e) d h)).1

  pub core_below : (d : ℕ) → core L e d ≡ true → d ≤ closing L e
  unfolding core
  core_below d h = le_of_suc-le-suc (is_below (suc (closing L e)) e d (residual_sub L (below (suc (closing L e)) e) d h)).0

  pub core_stuck : Stuck L (core L e)
  unfolding core
  core_stuck = residual_stuck L (below (suc (closing L e)) e)

  -- A part of the core that lacks the closing disk lies below it.
  before-closing : (c : ℕ → Bool) → ((d : ℕ) → c d ≡ true → core L e d ≡ true) → c (closing L e) ≡ false → Within L c (below (closing L e) e)
  before-closing c sub lacks d l h =
      below_is (closing L e) e d
      (lt_of_le-ne (core_below d (sub d h)) (λ q. true≢false (sym h ∙ ap c q ∙ lacks)))
      (core_sub d (sub d h))

module _ (L : Layout) (e : ℕ → Bool) (lossy : fatal L e ≡ true) where
  closing-is : Lowest L.disks (λ d. fatal L (below (suc d) e)) (closing L e)
  unfolding closing
  closing-is = lowest_is L.disks (λ d. fatal L (below (suc d) e))

  pub closing_disk : closing L e < L.disks
  closing_disk =
      ⊎_elim (λ l. l) (λ l. absurd (true≢false (sym whole-loss ∙ closing-is.none (L.disks - 1) (omega (arith, some)))))
      (lt_or_le (closing L e) L.disks)
    where
      some : 0 < L.disks
      some = let (d, l, h) = (is_fatal L e).0 lossy in omega arith

      whole-loss : fatal L (below (suc (L.disks - 1)) e) ≡ true
      whole-loss = fatal_mono L e (below (suc (L.disks - 1)) e) (λ d l h. below_is (suc (L.disks - 1)) e d (omega arith) h) lossy

  -- Up to the closing disk the loss is fatal, and without it it is not.
  closing-fatal : fatal L (below (suc (closing L e)) e) ≡ true
  closing-fatal = closing-is.found closing_disk

  closing-before : fatal L (below (closing L e) e) ≡ false
  closing-before = go (closing L e) closing-is.none
    where
      go : (k : ℕ) → ((i : ℕ) → i < k → fatal L (below (suc i) e) ≡ false) → fatal L (below k e) ≡ false
      go zero none = below_none L e
      go (suc k) none = none k (lt-suc_self k)

  -- The core has disks, the closing disk among them: without that it would peel.
  pub core_some : (d : ℕ) × (d < L.disks) × (core L e d ≡ true)
  unfolding core
  core_some = (is_fatal L (below (suc (closing L e)) e)).0 closing-fatal

  pub core_closing : core L e (closing L e) ≡ true
  core_closing =
      by_cases (λ (b : Bool). b ≡ true) (core L e (closing L e)) (λ h. refl)
      (λ h.
      let (d, l, k) = core_some in
      sym closing-before ∙ fatal_of_stuck L (core L e) (below (closing L e) e) (before-closing L e (core L e) (λ d k. k) h) (core_stuck L e) d l k)

  rest-peels : fatal L (without (core L e) (closing L e)) ≡ false
  rest-peels =
      by_cases (λ (b : Bool). b ≡ false) (fatal L (without (core L e) (closing L e)))
      (λ h.
      sym (fatal_mono L (without (core L e) (closing L e)) (below (closing L e) e)
      (before-closing L e (without (core L e) (closing L e)) (without_sub (core L e) (closing L e)) (without_at (core L e) (closing L e))) h)
      ∙ closing-before)
      (λ h. refl)

  -- The core touches as many stripes as it has disks: so many does it touch without the closing disk, since that peels.
  core-few : TwoStripes L → count L.disks (core L e) ≤ touched L (core L e)
  unfolding without
  core-few two =
      let k : ℕ = closing L e in
      let rest : ℕ → Bool = without (core L e) k in
      let one : count L.disks rest + 1 ≡ count L.disks (core L e) = count-without L.disks (core L e) k closing_disk core_closing in
      let (i, w, q, j, n) = stuck_other L (core L e) (core_stuck L e) k (two.low k) closing_disk core_closing (on-low L two k closing_disk) in
      let some : 0 < count L.disks rest = count-some L.disks rest i w (without_other (core L e) k i q ∙ j) in
      let all : length (repairs L rest) ≡ count L.disks rest = repairs-count L rest rest-peels in
      let fewer : length (repairs L rest) + 1 ≤ touched L rest =
      peels_fewer L two rest (repairs L rest) (repairs_peels L rest) (omega arith) in
      let more : touched L rest ≤ touched L (core L e) = touched_mono L rest (core L e) (λ d l. without_sub (core L e) k d) in
      omega arith

-- So each stripe that it touches holds exactly two of its disks.
pub core_paired : (L : Layout) → TwoStripes L → (e : ℕ → Bool) → fatal L e ≡ true → Paired L (core L e)
core_paired L two e lossy = paired_of_few L two (core L e) (core_stuck L e) (core-few L e lossy two)

-- ---- ones on paired disks

-- The sum of bits is one if and only if there is an odd number of ones.
digit : (r : ℕ) (b : Bool) → r < 2 → r ⊕ bit b ≡ (r + bit b) % 2
unfolding bit
digit zero b l = zero-⊕ (bit b) ∙ by_cases (λ b. bit b ≡ (0 + bit b) % 2) b (λ e. refl) (λ e. refl)
digit (suc zero) true l = ⊕_self 1
digit (suc zero) false l = ⊕-zero 1
digit (suc (suc r)) b l = omega arith

xsum_bits : (n : ℕ) (t : ℕ → Bool) → xsum n (λ i. bit (t i)) ≡ count n t % 2
unfolding xsum count
xsum_bits zero t = refl
xsum_bits (suc n) t =
    ap (λ (x : ℕ). x ⊕ bit (t n)) (xsum_bits n t) ∙ digit (count n t % 2) (t n) (mod-lt (count n t) (omega arith))
    ∙ mod-add-mod (count n t) 2 (bit (t n))

gate-bit : (a b : Bool) → gate a (bit b) ≡ bit (b && a)
unfolding gate bit
gate-bit true true = refl
gate-bit true false = refl
gate-bit false true = refl
gate-bit false false = refl

-- The sum over each stripe is zero.
pub paired_sum : (L : Layout) (c : ℕ → Bool) → Paired L c → (s : ℕ) → sum_over L (λ d. bit (c d)) s ≡ 0
unfolding sum_over
paired_sum L c paired s =
    xsum_ext L.disks (λ d l. gate-bit (on L d s) (c d)) ∙ xsum_bits L.disks (λ d. c d && on L d s)
    ∙ go (count L.disks (λ d. c d && on L d s)) refl
  where
    go : (k : ℕ) → count L.disks (λ d. c d && on L d s) ≡ k → k % 2 ≡ 0
    go zero e = refl
    go (suc k) e =
        let (d, l, h) = count_found L.disks (λ d. c d && on L d s) (omega arith) in
        ap (λ (x : ℕ). x % 2) (sym e ∙ paired d s l (and_left (c d) (on L d s) h) (and_right (c d) (on L d s) h))

-- The array with ones on the disks of c and zeros on the others.
unfoldable pub ones_on : Layout → Stretch → (ℕ → Bool) → List ℕ
ones_on L x c = tabulate (L.disks * x.block) (λ i. bit (c (i / x.block)))

module _ (L : Layout) (x : Stretch) (c : ℕ → Bool) where
  pub ones_length : length (ones_on L x c) ≡ L.disks * x.block
  unfolding ones_on
  ones_length = length-tabulate (L.disks * x.block) _

  pub ones_at : (i : ℕ) → i < L.disks * x.block → get_or (ones_on L x c) i 0 ≡ bit (c (i / x.block))
  unfolding ones_on
  ones_at i l = get_d_tabulate (L.disks * x.block) _ i l

  module _ (fits : x.offset + x.width ≤ x.block) where
    pub ones_byte : (d p : ℕ) → d < L.disks → p < x.width → byte x (ones_on L x c) d p ≡ bit (c d)
    unfolding byte
    ones_byte d p l b =
        let within : x.offset + p < x.block = omega arith in
        ones_at (d * x.block + (x.offset + p)) (digits_lt l within) ∙ ap (λ (i : ℕ). bit (c i)) (digits_div d within)

    -- They are a codeword where the sum over each stripe is zero.
    pub ones_codeword : ((s : ℕ) → sum_over L (λ d. bit (c d)) s ≡ 0) → Codeword L x (ones_on L x c)
    unfolding stripe_sum sum_over
    ones_codeword zero-sums =
        record {
          sized = ones_length;
          bytes = λ i l.
              let same = ones_at i (subst (λ (n : ℕ). i < n) ones_length l) in
              let small = bit_le (c (i / x.block)) in
              omega arith;
          sums = λ s l p b. xsum_ext L.disks (λ d w. ap (gate (on L d s)) (ones_byte d p w b)) ∙ zero-sums s;
        }

-- ---- two codewords

-- Where ones on erased disks have the sum zero over each stripe, the survivors determine none of these disks: zeros, and these ones,
-- agree on every survivor.
pub ones_differ : (L : Layout) (x : Stretch) → x.offset + x.width ≤ x.block → 0 < x.width → (c e : ℕ → Bool)
    → ((s : ℕ) → sum_over L (λ d. bit (c d)) s ≡ 0) → ((d : ℕ) → c d ≡ true → e d ≡ true)
    → (d : ℕ) → d < L.disks → c d ≡ true → AmbiguousIn L x e d
unfolding bit sum_over
ones_differ L x fits some c e zero-sums sub d l h = (
  ones_on L x (λ d. false),
  ones_on L x c,
  ones_codeword L x (λ d. false) fits (λ s. xsum-zero L.disks (λ d l. gate-zero (on L d s))),
  ones_codeword L x c fits zero-sums,
  (λ d l k p b.
      let kept : c d ≡ false = fails_with (c d) (e d) (sub d) k in
      ones_byte L x (λ d. false) fits d p l b ∙ sym (ones_byte L x c fits d p l b ∙ ap bit kept)),
  (
    0,
    some,
    λ q.
        let clash : ◌≡◌ {A = ℕ} 0 1 =
        sym (ones_byte L x (λ d. false) fits d 0 l some) ∙ q ∙ ones_byte L x c fits d 0 l some ∙ ap bit h in
        omega arith,
  ),
)

-- Codewords that differ in a disk are different.
pub differ_in : (L : Layout) (x : Stretch) (e : ℕ → Bool) (d : ℕ) → AmbiguousIn L x e d → Ambiguous L x e
differ_in L x e d (a, b, first, second, same, (p, h, differ)) =
    (a, b, first, second, same, λ q. differ (ap (λ (a : List ℕ). byte x a d p) q))

-- So after a fatal loss the survivors leave a disk of the core open, and do not determine the array.
module _ (L : Layout) (two : TwoStripes L) (x : Stretch) (e : ℕ → Bool) (lossy : fatal L e ≡ true)
    (some : 0 < x.width) (fits : x.offset + x.width ≤ x.block) where
  pub ambiguous_in : (d : ℕ) × (d < L.disks) × AmbiguousIn L x e d
  ambiguous_in =
      let (d, l, h) = core_some L e lossy in
      (d, l, ones_differ L x fits some (core L e) e (paired_sum L (core L e) (core_paired L two e lossy)) (core_sub L e) d l h)

  pub ambiguous : Ambiguous L x e
  ambiguous = let (d, l, both) = ambiguous_in in differ_in L x e d both
