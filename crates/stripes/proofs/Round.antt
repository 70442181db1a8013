-- Sets of disks of which every stripe holds an even number. Opened at a disk such a set leads from one stripe of the disk to the other, and
-- closed by a disk what leads so is such a set; every cycle is one.
-- Assumes nothing.
use mathlib.Core.Path.{◌≡◌, refl, sym, ◌∙◌, ap, ap₂}
use mathlib.Core.Bool.{Bool, true, false, cond, not, ◌&&◌, ◌||◌}
use mathlib.Core.Logic.{⊎_elim}
use mathlib.Core.List.{List}
use Prim.Native.Nat.{ℕ, zero, suc, ◌<◌}
use native.Mathlib.Omega.{arith}
use borrow.Author.Tests.{eq-eqb, eqb-true, eqb-false}
use lib.Dec.{eqb}
use Rattle.stripes.specs.Fold.{◌⊕◌, xsum, gate, count}
use Rattle.stripes.specs.System.{Layout, TwoStripes, lower, higher, on, sum_over}
use Rattle.stripes.specs.Erased.{without}
use Rattle.stripes.specs.Repair.{Entry, disk_of, repairs, residual, fatal}
use Rattle.stripes.specs.Cycle.{Paired, Cycle}
use Rattle.stripes.specs.Smallest.{disks_of}
use Rattle.stripes.proofs.Xor.{zero-⊕, ⊕_self}
use Rattle.stripes.proofs.Fold.{and_left, and_right, by_cases, fails_with, lt_or_le, count_found, count-zero-none, xsum_ext, xsum-only, gate_and, gate-one, gate_or, bit-gate}
use Rattle.stripes.proofs.Sums.{sum_over_ext, sum_over-⊕}
use Rattle.stripes.proofs.Peel.{Stuck, other_stuck, without_sub, without-apart, without_at, without_other, fatal_of_stuck, residual_largest, repairs_peels, after_outside}
use Rattle.stripes.proofs.Core.{core, core_sub, core_some, core_paired, paired_sum}
use Rattle.stripes.proofs.Trace.{cycle_sub, cycle_paired, disk_of_lem}
use Rattle.stripes.proofs.Ends.{Ends, sum_disk}

-- Erased disks, one at least, of which every stripe holds an even number: the sum of a value on them is nothing everywhere.
pub record Round (L : Layout) (e c : ℕ → Bool) : Type 0 where
  pub some : (d : ℕ) × (d < L.disks) × (c d ≡ true)
  pub within : (d : ℕ) → c d ≡ true → e d ≡ true
  pub even : (v s : ℕ) → sum_over L (λ d. gate (c d) v) s ≡ 0

-- Of more erased disks it is one too.
pub round_wider : (L : Layout) (c e g : ℕ → Bool) → ((d : ℕ) → c d ≡ true → e d ≡ true) → Round L c g → Round L e g
round_wider L c e g sub r = record { some = r.some; within = λ d h. sub d (r.within d h); even = r.even }

-- Only the numbers of disks matter.
pub round_same : (L : Layout) (e c g : ℕ → Bool) → ((d : ℕ) → d < L.disks → g d ≡ c d) → ((d : ℕ) → g d ≡ true → e d ≡ true)
    → Round L e c → Round L e g
round_same L e c g same sub r =
    let (d, l, h) = r.some in
    record {
      some = (d, l, same d l ∙ h);
      within = sub;
      even = λ v s. sum_over_ext L (λ d l. ap (λ (b : Bool). gate b v) (same d l)) s ∙ r.even v s;
    }

-- ---- opened and closed at a disk

-- A set without one of its disks: what is in just one of the two.
pub without-one : (c : ℕ → Bool) (d : ℕ) → c d ≡ true → (i : ℕ) → without c d i ≡ cond (c i) (not (eqb i d)) (eqb i d)
without-one c d h i =
    by_cases (λ (b : Bool). eqb i d ≡ b → without c d i ≡ cond (c i) (not b) b) (eqb i d)
    (λ _ q. ap (without c d) (eqb-true i d q) ∙ without_at c d ∙ sym (ap (λ (b : Bool). cond b false true) (ap c (eqb-true i d q) ∙ h)))
    (λ _ q.
    without_other c d i (eqb-false i d q) ∙ by_cases (λ (b : Bool). b ≡ cond b true false) (c i) (λ _. refl) (λ _. refl))
    refl

module _ (L : Layout) (two : TwoStripes L) where
  -- Without one of its disks it has the stripes of that disk for ends.
  unfoldable pub round-open : (e c : ℕ → Bool) → Round L e c → (d : ℕ) → d < L.disks → c d ≡ true
      → (g : ℕ → Bool) → ((i : ℕ) → c i ≡ true → (i ≡ d → ⊥) → g i ≡ true) → Ends L g (lower L d) (higher L d)
  round-open e c r d l h g sub =
      record {
        set = without c d;
        within = λ i q. sub i (without_sub c d i q) (without-apart c d i q);
        sum = λ v x.
            sum_over_ext L (λ i w. ap (λ (b : Bool). gate b v) (without-one c d h i) ∙ gate-one (c i) (eqb i d) v) x
            ∙ sum_over-⊕ L (λ i. gate (c i) v) (λ i. gate (eqb i d) v) x
            ∙ ap₂ (λ (x y : ℕ). x ⊕ y) (r.even v x) (sum_disk L two d l v x)
            ∙ zero-⊕ _;
      }

  -- Disks with the stripes of another disk for ends are one together with that disk.
  pub round_close : (e g : ℕ → Bool) (d : ℕ) → d < L.disks → e d ≡ true → ((i : ℕ) → g i ≡ true → e i ≡ true) → g d ≡ false
      → (f : Ends L g (lower L d) (higher L d)) → Round L e (λ i. eqb i d || f.set i)
  round_close e g d l h sub out f =
      record {
        some = (d, l, ap (λ (b : Bool). b || f.set d) (eq-eqb d d refl));
        within = λ i.
            by_cases (λ (b : Bool). eqb i d ≡ b → (b || f.set i) ≡ true → e i ≡ true) (eqb i d)
            (λ q k w. ap e (eqb-true i d k) ∙ h) (λ q k w. sub i (f.within i w)) refl;
        even = λ v x.
            sum_over_ext L (λ i w. gate_or (eqb i d) (f.set i) v (λ q. ap f.set (eqb-true i d q) ∙ fails_with (f.set d) (g d) (f.within d) out)) x
            ∙ sum_over-⊕ L (λ i. gate (eqb i d) v) (λ i. gate (f.set i) v) x
            ∙ ap₂ (λ (x y : ℕ). x ⊕ y) (sum_disk L two d l v x) (f.sum v x)
            ∙ ⊕_self _;
      }

-- ---- cycles

-- The test holds of an odd number of the numbers below n.
odd : ℕ → (ℕ → Bool) → Bool
odd zero t = false
odd (suc n) t = cond (odd n t) (not (t n)) (t n)

xsum_odd : (n : ℕ) (t : ℕ → Bool) (v : ℕ) → xsum n (λ i. gate (t i) v) ≡ gate (odd n t) v
unfolding xsum odd gate
xsum_odd zero t v = refl
xsum_odd (suc n) t v = ap (λ (x : ℕ). x ⊕ gate (t n) v) (xsum_odd n t v) ∙ sym (gate-one (odd n t) (t n) v)

-- So what is nothing for the value 1 is nothing for any.
xsum-even : (n : ℕ) (t : ℕ → Bool) → xsum n (λ i. gate (t i) 1) ≡ 0 → (v : ℕ) → xsum n (λ i. gate (t i) v) ≡ 0
unfolding gate
xsum-even n t e v =
    xsum_odd n t v
    ∙ by_cases (λ (b : Bool). odd n t ≡ b → gate b v ≡ 0) (odd n t)
    (λ q k. let one : 1 ≡ 0 = sym (ap (λ (b : Bool). gate b 1) k) ∙ sym (xsum_odd n t 1) ∙ e in absurd (omega arith)) (λ q k. refl) refl

-- Disks with just two on each stripe touched.
pub round_paired : (L : Layout) (e c : ℕ → Bool) → Paired L c → ((d : ℕ) → c d ≡ true → e d ≡ true)
    → (d : ℕ) → d < L.disks → c d ≡ true → Round L e c
unfolding sum_over
round_paired L e c paired sub d l h =
    record {
      some = (d, l, h);
      within = sub;
      even = λ v s.
          xsum_ext L.disks (λ i w. gate_and (on L i s) (c i) v)
          ∙ xsum-even L.disks (λ i. c i && on L i s)
          (xsum_ext L.disks (λ i w. sym (gate_and (on L i s) (c i) 1) ∙ ap (gate (on L i s)) (sym (bit-gate (c i)))) ∙ paired_sum L c paired s) v;
    }

-- The disks of a cycle.
pub cycle_round : (L : Layout) (e : ℕ → Bool) (w : List Entry) → Cycle L e w → Round L e (disks_of w)
cycle_round L e w y =
    round_paired L e (disks_of w) (cycle_paired L e w y) (cycle_sub L e w y) (disk_of w 0) (y.disk 0 y.some) (disk_of_lem w 0 y.some)

-- The core of a fatal loss.
pub core_round : (L : Layout) → TwoStripes L → (e : ℕ → Bool) → fatal L e ≡ true → Round L e (core L e)
core_round L two e lossy =
    let (d, l, h) = core_some L e lossy in
    round_paired L e (core L e) (core_paired L two e lossy) (core_sub L e) d l h

-- ---- repairs
module _ (L : Layout) (e c : ℕ → Bool) (r : Round L e c) where
  -- Beside each of its disks there is another on each stripe, so that no repair is allowed.
  pub round_stuck : Stuck L c
  unfolding sum_over gate
  round_stuck =
      other_stuck L c (λ d s l h k.
      ⊎_elim
      (λ some.
      let (i, w, q) = count_found L.disks (λ i. without c d i && on L i s) some in
      let held = and_left (without c d i) (on L i s) q in
      (i, w, without-apart c d i held, without_sub c d i held, and_right (without c d i) (on L i s) q))
      (λ none.
      let alone : sum_over L (λ i. gate (c i) 1) s ≡ 1 =
      xsum-only L.disks d l (λ i w q.
      gate_and (on L i s) (c i) 1
      ∙ ap (λ (b : Bool). gate (b && on L i s) 1) (sym (without_other c d i q))
      ∙ ap (λ (b : Bool). gate b 1) (count-zero-none L.disks (λ i. without c d i && on L i s) (omega arith) i w))
      ∙ ap₂ (λ (a b : Bool). gate a (gate b 1)) k h in
      let none-there = r.even 1 s in
      absurd (omega arith))
      (lt_or_le 0 (count L.disks (λ i. without c d i && on L i s))))

  -- So the loss is fatal, and plan's order leaves these disks.
  pub round_fatal : fatal L e ≡ true
  round_fatal = let (d, l, h) = r.some in fatal_of_stuck L c e (λ d l. r.within d) round_stuck d l h

  pub round_left : (d : ℕ) → d < L.disks → c d ≡ true → residual L e d ≡ true
  round_left = residual_largest L c e (λ d l. r.within d) round_stuck

  pub round_residual : Round L (residual L e) c
  unfolding residual
  round_residual =
      record {
        some = r.some;
        within = λ d h.
            ⊎_elim (λ l. round_left d l h) (λ l. after_outside L e (repairs L e) (repairs_peels L e) d l ∙ r.within d h) (lt_or_le d L.disks);
        even = r.even;
      }
