-- The price of a set of disks, and the least of some numbers.
-- Assumes nothing.
use mathlib.Core.Path.{◌≡◌, refl, sym, ◌∙◌, ap}
use mathlib.Core.Bool.{Bool, true, false, cond, not, ◌||◌}
use mathlib.Core.Logic.{◌⊎◌, inl, inr, ⊎_elim}
use Prim.Native.Nat.{ℕ, zero, suc, ◌+◌, ◌≤◌, ◌<◌, zero-le, min}
use native.Mathlib.Nat.{le_refl, le_step, lt-suc_self, not-suc-le-zero, le_of_suc-le-suc}
use native.Mathlib.Omega.{arith}
use borrow.Author.Tests.{eq-eqb, ne_eqb, eqb-true, eqb-false}
use lib.Dec.{eqb}
use lib.ListN.{get_or}
use Rattle.stripes.specs.Fold.{gate, count, least, tabulate}
use Rattle.stripes.specs.Erased.{without}
use Rattle.stripes.proofs.Price.{cost}
use Rattle.stripes.proofs.Fold.{by_cases, lt_or_le, below_suc, bit-gate}
use Rattle.stripes.proofs.Peel.{without_at, without_other}
use Rattle.stripes.proofs.Degree.{total_ext, total-zero, total_add, total_mono, total_squeeze, total-only, count-total}

-- ---- tables, and the least of some numbers
pub table_at : (n : ℕ) (f : ℕ → ℕ) (z i : ℕ) → i < n → get_or (tabulate n f) i z ≡ f i
unfolding tabulate
table_at zero f z i l = absurd (not-suc-le-zero l)
table_at (suc n) f z zero l = refl
table_at (suc n) f z (suc i) l = table_at n (λ i. f (suc i)) z i (le_of_suc-le-suc l)

pub table_past : (n : ℕ) (f : ℕ → ℕ) (z i : ℕ) → n ≤ i → get_or (tabulate n f) i z ≡ z
unfolding tabulate
table_past zero f z i l = refl
table_past (suc n) f z zero l = absurd (not-suc-le-zero l)
table_past (suc n) f z (suc i) l = table_past n (λ i. f (suc i)) z i (le_of_suc-le-suc l)

module _ (f : ℕ → ℕ) (m : ℕ) where
  pub least_start : (n : ℕ) → least n f m ≤ m
  unfolding least
  least_start zero = le_refl m
  least_start (suc n) = let before = least_start n in omega arith

  pub least-below : (n i : ℕ) → i < n → least n f m ≤ f i
  unfolding least
  least-below zero i l = absurd (not-suc-le-zero l)
  least-below (suc n) i l =
      below_suc (λ i. min (least n f m) (f n) ≤ f i) n (λ i l. let before = least-below n i l in omega arith) (omega arith) i l

  pub least_is : (n : ℕ) → (least n f m ≡ m) ⊎ ((i : ℕ) × (i < n) × (least n f m ≡ f i))
  unfolding least
  least_is zero = inl refl
  least_is (suc n) =
      ⊎_elim (λ l. inr (n, lt-suc_self n, omega arith))
      (λ l.
      let same : min (least n f m) (f n) ≡ least n f m = omega arith in
      ⊎_elim (λ q. inl (same ∙ q)) (λ (i, w, q). inr (i, le_step w, same ∙ q)) (least_is n))
      (lt_or_le (f n) (least n f m))

-- ---- the price of a set
gate_mono : (a b : Bool) (v : ℕ) → (a ≡ true → b ≡ true) → gate a v ≤ gate b v
unfolding gate
gate_mono true b v h = let same = ap (λ (t : Bool). gate t v) (h refl) in omega arith
gate_mono false b v h = zero-le

gate_known : (a b : Bool) (v : ℕ) → 0 < v → gate a v ≡ gate b v → a ≡ b
unfolding gate
gate_known true true v some e = refl
gate_known true false v some e = absurd (omega arith)
gate_known false true v some e = absurd (omega arith)
gate_known false false v some e = refl

gate_either : (a b : Bool) (v : ℕ) → gate (cond a (not b) b) v ≤ gate a v + gate b v
unfolding gate
gate_either true true v = omega arith
gate_either true false v = omega arith
gate_either false b v = omega arith

module _ (n : ℕ) (w : ℕ → ℕ) where
  pub cost_ext : {c g : ℕ → Bool} → ((i : ℕ) → i < n → c i ≡ g i) → cost n w c ≡ cost n w g
  unfolding cost
  cost_ext h = total_ext n (λ i l. ap (λ (b : Bool). gate b (w i)) (h i l))

  -- More disks are not cheaper, and where each disk costs something they are dearer.
  pub cost_mono : (c g : ℕ → Bool) → ((i : ℕ) → i < n → c i ≡ true → g i ≡ true) → cost n w c ≤ cost n w g
  unfolding cost
  cost_mono c g h = total_mono n (λ i. gate (c i) (w i)) (λ i. gate (g i) (w i)) (λ i l. gate_mono (c i) (g i) (w i) (h i l))

  pub cost_squeeze : ((i : ℕ) → i < n → 0 < w i) → (c g : ℕ → Bool) → ((i : ℕ) → i < n → c i ≡ true → g i ≡ true)
      → cost n w g ≤ cost n w c → (i : ℕ) → i < n → c i ≡ g i
  unfolding cost
  cost_squeeze some c g h few i l =
      gate_known (c i) (g i) (w i) (some i l)
      (total_squeeze n (λ i. gate (c i) (w i)) (λ i. gate (g i) (w i)) (λ i l. gate_mono (c i) (g i) (w i) (h i l)) few i l)

  -- The price of no disk, of one, and of those that are in just one of two sets.
  pub cost_none : cost n w (λ i. false) ≡ 0
  unfolding cost gate
  cost_none = total-zero n (λ i l. refl)

  pub cost_one : (d : ℕ) → d < n → cost n w (λ i. eqb i d) ≡ w d
  unfolding cost gate
  cost_one d l =
      total-only n d l (λ i k q. ap (λ (b : Bool). gate b (w i)) (ne_eqb i d q)) ∙ ap (λ (b : Bool). gate b (w d)) (eq-eqb d d refl)

  pub cost_either : (c g : ℕ → Bool) → cost n w (λ i. cond (c i) (not (g i)) (g i)) ≤ cost n w c + cost n w g
  unfolding cost
  cost_either c g =
      let each =
      total_mono n (λ i. gate (cond (c i) (not (g i)) (g i)) (w i)) (λ i. gate (c i) (w i) + gate (g i) (w i))
      (λ i l. gate_either (c i) (g i) (w i)) in
      let both = total_add n (λ i. gate (c i) (w i)) (λ i. gate (g i) (w i)) in
      omega arith

  -- A disk taken out of a set, and one put in.
  pub cost_without : (c : ℕ → Bool) (d : ℕ) → d < n → c d ≡ true → cost n w (without c d) + w d ≡ cost n w c
  unfolding cost gate
  cost_without c d l h =
      ap (λ (x : ℕ). cost n w (without c d) + x) (sym (cost_one d l))
      ∙ sym (total_add n (λ i. gate (without c d i) (w i)) (λ i. gate (eqb i d) (w i)))
      ∙ total_ext n (λ i k.
      by_cases (λ (b : Bool). eqb i d ≡ b → gate (without c d i) (w i) + gate b (w i) ≡ gate (c i) (w i)) (eqb i d)
      (λ _ q.
      let gone = ap (λ (b : Bool). gate b (w i)) (ap (without c d) (eqb-true i d q) ∙ without_at c d) in
      let here = ap (λ (b : Bool). gate b (w i)) (ap c (eqb-true i d q) ∙ h) in
      omega arith)
      (λ _ q. let same = ap (λ (b : Bool). gate b (w i)) (without_other c d i (eqb-false i d q)) in omega arith)
      refl)

  pub cost_with : (c : ℕ → Bool) (d : ℕ) → d < n → c d ≡ false → cost n w (λ i. eqb i d || c i) ≡ cost n w c + w d
  cost_with c d l out =
      sym (cost_without (λ i. eqb i d || c i) d l (ap (λ (b : Bool). b || c d) (eq-eqb d d refl)))
      ∙ ap (λ (x : ℕ). x + w d)
      (cost_ext (λ i k.
      by_cases (λ (b : Bool). without (λ i. eqb i d || c i) d i ≡ c i) (eqb i d)
      (λ q.
      ap (without (λ i. eqb i d || c i) d) (eqb-true i d q) ∙ without_at (λ i. eqb i d || c i) d
      ∙ sym (ap c (eqb-true i d q) ∙ out))
      (λ q. without_other (λ i. eqb i d || c i) d i (eqb-false i d q) ∙ ap (λ (b : Bool). b || c i) q)))

-- At the price 1 each, the disks are counted.
cost_count : (n : ℕ) (c : ℕ → Bool) → cost n (λ i. 1) c ≡ count n c
unfolding cost
cost_count n c = total_ext n (λ i l. sym (bit-gate (c i))) ∙ sym (count-total n c)

pub count_with : (n : ℕ) (c : ℕ → Bool) (d : ℕ) → d < n → c d ≡ false → count n (λ i. eqb i d || c i) ≡ count n c + 1
count_with n c d l out =
    sym (cost_count n (λ i. eqb i d || c i)) ∙ cost_with n (λ i. 1) c d l out ∙ ap (λ (x : ℕ). x + 1) (cost_count n c)
