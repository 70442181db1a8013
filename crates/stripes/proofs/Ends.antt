-- Sets of disks whose sums are a value on two stripes and nothing elsewhere; and sums over some stripes, in which only the disks count
-- that have just one of their two stripes there.
-- Assumes nothing.
use mathlib.Core.Path.{◌≡◌, refl, sym, ◌∙◌, ap, ap₂}
use mathlib.Core.Bool.{Bool, true, false, cond, not, ◌&&◌, and-false, false≢true}
use mathlib.Core.Logic.{⊎_elim}
use Prim.Native.Nat.{ℕ, zero, suc, ◌+◌, ◌≤◌, ◌<◌}
use native.Mathlib.Omega.{arith}
use borrow.Author.Tests.{eq-eqb, ne_eqb, eqb-true, not-true}
use lib.Dec.{eqb}
use Rattle.stripes.specs.Fold.{◌⊕◌, xsum, gate, bit, count, total}
use Rattle.stripes.specs.System.{Layout, TwoStripes, lower, higher, on, other_than, sum_over}
use Rattle.stripes.specs.Joined.{joined, crosses}
use Rattle.stripes.proofs.Xor.{zero-⊕, ⊕_comm, ⊕_self, ⊕_assoc, ⊕_cancel}
use Rattle.stripes.proofs.Fold.{by_cases, lt_or_le, and_left, count_ext, count_found, count-zero-none, count-without, gate_and, xsum_ext, xsum-zero, xsum-⊕, xsum_swap, gate-⊕, gate-zero, gate_swap, gate-one, gate_or, gate-xsum, xsum_at, and_right}
use Rattle.stripes.proofs.Sums.{sum_over_ext, sum_over-⊕}
use Rattle.stripes.proofs.Degree.{total_ext, total-zero, total_swap, count-total, count_where, other-first, other_second, on-two, on_which, on-among}
use Rattle.stripes.proofs.Joined.{lower_is, higher_is, lower-bound, higher-bound, joined-least}

-- ---- a disk on its two stripes
module _ (L : Layout) (two : TwoStripes L) (d : ℕ) (inside : d < L.disks) where
  -- What lies on a stripe of this disk lies on the lower or on the higher one.
  pub on-gate : (s v : ℕ) → gate (on L d s) v ≡ gate (eqb s (lower L d)) v ⊕ gate (eqb s (higher L d)) v
  on-gate s v =
      rw (higher_is L two d inside, lower_is L two d inside, on-two L two d inside s)
      (gate_or (eqb s (two.low d)) (eqb s (two.high d)) v
      (λ q. let e = eqb-true s (two.low d) q in let order = two.order d inside in ne_eqb s (two.high d) (λ h. omega arith)))

  -- The sum over each stripe of a value on this disk only.
  pub sum_disk : (v s : ℕ) → sum_over L (λ i. gate (eqb i d) v) s ≡ gate (eqb s (lower L d)) v ⊕ gate (eqb s (higher L d)) v
  unfolding sum_over
  sum_disk v s =
      xsum_ext L.disks (λ i l. gate_swap (on L i s) (eqb i d) v) ∙ xsum_at L.disks d inside (λ i. gate (on L i s) v)
      ∙ on-gate s v

-- ---- ends

-- Disks of c whose sums are v on stripe s and on stripe t, and nothing elsewhere. They need not form a way: it is the sums that count.
pub record Ends (L : Layout) (c : ℕ → Bool) (s t : ℕ) : Type 0 where
  pub set : ℕ → Bool
  pub within : (d : ℕ) → set d ≡ true → c d ≡ true
  pub sum : (v x : ℕ) → sum_over L (λ d. gate (set d) v) x ≡ gate (eqb x s) v ⊕ gate (eqb x t) v

-- More disks have the same ends.
unfoldable pub ends_wider : (L : Layout) (c e : ℕ → Bool) → ((d : ℕ) → c d ≡ true → e d ≡ true) → (s t : ℕ) → Ends L c s t → Ends L e s t
ends_wider L c e sub s t f = record { set = f.set; within = λ d h. sub d (f.within d h); sum = f.sum }

module _ (L : Layout) (c : ℕ → Bool) where
  -- Nothing has its two ends on one stripe.
  unfoldable pub ends-none : (s : ℕ) → Ends L c s s
  unfolding sum_over gate
  ends-none s =
      record {
        set = λ d. false;
        within = λ d h. absurd (false≢true h);
        sum = λ v x. xsum-zero L.disks (λ d l. gate-zero (on L d x)) ∙ sym (⊕_self (gate (eqb x s) v));
      }

  unfoldable pub ends-back : (s t : ℕ) → Ends L c s t → Ends L c t s
  ends-back s t f =
      record { set = f.set; within = f.within; sum = λ v x. f.sum v x ∙ ⊕_comm (gate (eqb x s) v) (gate (eqb x t) v) }

  -- Two of them in a row: the disks that are in just one of the two sets.
  unfoldable pub ends-chain : (r s t : ℕ) → Ends L c r s → Ends L c s t → Ends L c r t
  ends-chain r s t f g =
      record {
        set = λ d. cond (f.set d) (not (g.set d)) (g.set d);
        within = λ d. one (f.set d) (g.set d) (c d) (f.within d) (g.within d);
        sum = λ v x.
            sum_over_ext L (λ d l. gate-one (f.set d) (g.set d) v) x ∙ sum_over-⊕ L (λ d. gate (f.set d) v) (λ d. gate (g.set d) v) x
            ∙ ap₂ (λ (x y : ℕ). x ⊕ y) (f.sum v x) (g.sum v x)
            ∙ ⊕_assoc (gate (eqb x r) v) (gate (eqb x s) v) (gate (eqb x s) v ⊕ gate (eqb x t) v)
            ∙ ap (λ (y : ℕ). gate (eqb x r) v ⊕ y) (⊕_cancel (gate (eqb x s) v) (gate (eqb x t) v));
      }
    where
      one : (a b c : Bool) → (a ≡ true → c ≡ true) → (b ≡ true → c ≡ true) → cond a (not b) b ≡ true → c ≡ true
      one true b c p q h = p refl
      one false b c p q h = q h

  module _ (two : TwoStripes L) where
    -- A disk has its two stripes for ends.
    unfoldable pub ends-disk : (d : ℕ) → d < L.disks → c d ≡ true → Ends L c (lower L d) (higher L d)
    ends-disk d l h =
        record {
          set = λ i. eqb i d;
          within = λ i q. ap c (eqb-true i d q) ∙ h;
          sum = sum_disk L two d l;
        }

    -- So disks of c with these ends are there wherever disks of c join two stripes.
    pub joined-ends_of : (s t : ℕ) → joined L c s t ≡ true → Ends L c s t
    joined-ends_of = joined-least L c (Ends L c) (record { self = ends-none; back = ends-back; chain = ends-chain; disk = ends-disk })

-- ---- taking ends apart, and putting them together
module _ (L : Layout) (two : TwoStripes L) (c : ℕ → Bool) where
  -- A disk has its two stripes for ends, from either of them to the other.
  unfoldable pub ends-over : (d : ℕ) → d < L.disks → c d ≡ true → (t : ℕ) → on L d t ≡ true → Ends L c t (other_than t (L.through d))
  ends-over d l h t there =
      record {
        set = λ i. eqb i d;
        within = λ i q. ap c (eqb-true i d q) ∙ h;
        sum = λ v x.
            sum_disk L two d l v x
            ∙ ap₂ (λ (p q : ℕ). gate (eqb x p) v ⊕ gate (eqb x q) v) (lower_is L two d l) (higher_is L two d l)
            ∙ ⊎_elim
            (λ (q : t ≡ two.low d).
            rw (q, two.two d l, other-first (two.low d) (two.high d) apart) refl)
            (λ (q : t ≡ two.high d).
            rw (q, two.two d l, other_second (two.low d) (two.high d) apart)
            (⊕_comm (gate (eqb x (two.low d)) v) (gate (eqb x (two.high d)) v)))
            (on_which L two d l t there);
      }
    where
      apart : two.high d ≡ two.low d → ⊥
      apart e = let h = two.order d l in omega arith

  -- Where the ends differ, a disk of the set lies on the last of them.
  pub ends_found : (s t : ℕ) → (t ≡ s → ⊥) → (f : Ends L c s t) → (d : ℕ) × (d < L.disks) × (f.set d ≡ true) × (on L d t ≡ true)
  unfolding sum_over gate
  ends_found s t apart f =
      ⊎_elim
      (λ some.
      let (d, l, h) = count_found L.disks (λ d. f.set d && on L d t) some in
      (d, l, and_left (f.set d) (on L d t) h, and_right (f.set d) (on L d t) h))
      (λ none.
      let zero-sum : sum_over L (λ d. gate (f.set d) 1) t ≡ 0 =
      xsum-zero L.disks (λ d l.
      gate_and (on L d t) (f.set d) 1
      ∙ ap (λ (b : Bool). gate b 1) (count-zero-none L.disks (λ d. f.set d && on L d t) (omega arith) d l)) in
      let one-sum : sum_over L (λ d. gate (f.set d) 1) t ≡ 1 =
      f.sum 1 t ∙ ap₂ (λ (p q : Bool). gate p 1 ⊕ gate q 1) (ne_eqb t s apart) (eq-eqb t t refl) ∙ zero-⊕ 1 in
      absurd (omega arith))
      (lt_or_le 0 (count L.disks (λ d. f.set d && on L d t)))

  -- Without such a disk the set leads to the disk's other stripe.
  unfoldable pub ends-step : (s t : ℕ) → Ends L c s t → (d : ℕ) → d < L.disks → c d ≡ true → on L d t ≡ true
      → Ends L c s (other_than t (L.through d))
  ends-step s t f d l h there = ends-chain L c s t (other_than t (L.through d)) f (ends-over d l h t there)

  pub ends_step_count : (s t : ℕ) (f : Ends L c s t) (d : ℕ) (l : d < L.disks) (h : c d ≡ true) (there : on L d t ≡ true)
      → f.set d ≡ true → count L.disks (ends-step s t f d l h there).set + 1 ≡ count L.disks f.set
  unfolding ends-step ends-chain ends-over
  ends_step_count s t f d l h there held =
      ap (λ (n : ℕ). n + 1)
      (count_ext L.disks (λ i w.
      by_cases (λ (b : Bool). cond (f.set i) (not b) b ≡ (f.set i && not b)) (eqb i d)
      (λ q. ap (λ (b : Bool). cond b false true) (ap f.set (eqb-true i d q) ∙ held) ∙ sym (and-false (f.set i)))
      (λ q. by_cases (λ (b : Bool). cond b true false ≡ (b && true)) (f.set i) (λ _. refl) (λ _. refl))))
      ∙ count-without L.disks f.set d l held

-- Two of them in a row have no more disks than both together.
pub ends_chain_count : (L : Layout) (c : ℕ → Bool) (r s t : ℕ) (f : Ends L c r s) (g : Ends L c s t)
    → count L.disks (ends-chain L c r s t f g).set ≤ count L.disks f.set + count L.disks g.set
unfolding ends-chain count bit
ends_chain_count L c r s t f g = few L.disks
  where
    bits : (a b : Bool) → bit (cond a (not b) b) ≤ bit a + bit b
    bits true true = omega arith
    bits true false = omega arith
    bits false b = omega arith

    few : (n : ℕ) → count n (λ d. cond (f.set d) (not (g.set d)) (g.set d)) ≤ count n f.set + count n g.set
    few zero = omega arith
    few (suc n) = let up = few n in let here = bits (f.set n) (g.set n) in omega arith

-- ---- sums over some stripes

-- The bits of two tests of which just one holds.
one_bit : (a b : Bool) → cond a (not b) b ≡ true → bit a + bit b ≡ 1
unfolding bit
one_bit true b h = ap (λ (t : Bool). 1 + bit t) (not-true b h)
one_bit false b h = ap (λ (t : Bool). 0 + bit t) h

module _ (L : Layout) (two : TwoStripes L) (some : ℕ → Bool) where
  -- In the sum over some stripes a disk counts once if just one of its two stripes is among them, and else not at all.
  cut-disk : (d : ℕ) → d < L.disks → (v : ℕ) → xsum L.stripe_bound (λ s. gate (some s) (gate (on L d s) v)) ≡ gate (crosses L some d) v
  unfolding crosses
  cut-disk d l v =
      xsum_ext L.stripe_bound (λ s b.
      ap (gate (some s)) (on-gate L two d l s v) ∙ gate-⊕ (some s) (gate (eqb s (lower L d)) v) (gate (eqb s (higher L d)) v)
      ∙ ap₂ (λ (x y : ℕ). x ⊕ y) (gate_swap (some s) (eqb s (lower L d)) v) (gate_swap (some s) (eqb s (higher L d)) v))
      ∙ xsum-⊕ L.stripe_bound (λ s. gate (eqb s (lower L d)) (gate (some s) v)) (λ s. gate (eqb s (higher L d)) (gate (some s) v))
      ∙ ap₂ (λ (x y : ℕ). x ⊕ y) (xsum_at L.stripe_bound (lower L d) (lower-bound L two d l) (λ s. gate (some s) v))
      (xsum_at L.stripe_bound (higher L d) (higher-bound L two d l) (λ s. gate (some s) v))
      ∙ sym (gate-one (some (lower L d)) (some (higher L d)) v)

  -- A disk on one of them crosses if its other stripe is not among them.
  pub crosses-from : (d : ℕ) → d < L.disks → (s : ℕ) → on L d s ≡ true → some s ≡ true → crosses L some d ≡ not (some (other_than s (L.through d)))
  unfolding crosses
  crosses-from d l s there e =
      let order = two.order d l in
      let apart : two.high d ≡ two.low d → ⊥ = λ h. omega arith in
      rw (higher_is L two d l, lower_is L two d l, two.two d l)
      (⊎_elim
      (λ (q : s ≡ two.low d). rw q (simp (sym (ap some q) ∙ e) (ap (λ (t : ℕ). not (some t)) (sym (other-first (two.low d) (two.high d) apart)))))
      (λ (q : s ≡ two.high d).
      rw q
      (simp (sym (ap some q) ∙ e)
      (by_cases (λ (t : Bool). cond t false true ≡ not t) (some (two.low d)) (λ h. refl) (λ h. refl)
      ∙ ap (λ (t : ℕ). not (some t)) (sym (other_second (two.low d) (two.high d) apart)))))
      (on_which L two d l s there))

  pub cut_sum_lem : (f : ℕ → ℕ) → xsum L.stripe_bound (λ s. gate (some s) (sum_over L f s)) ≡ xsum L.disks (λ d. gate (crosses L some d) (f d))
  unfolding sum_over
  cut_sum_lem f =
      xsum_ext L.stripe_bound (λ s l. gate-xsum (some s) L.disks (λ d. gate (on L d s) (f d)))
      ∙ xsum_swap L.stripe_bound L.disks (λ s d. gate (some s) (gate (on L d s) (f d)))
      ∙ xsum_ext L.disks (λ d l. cut-disk d l (f d))

  -- So the disks that cross, counted on each of these stripes, are counted once.
  pub cut-count : (g : ℕ → Bool)
      → total L.stripe_bound (λ s. cond (some s) (count L.disks (λ d. (g d && crosses L some d) && on L d s)) 0)
      ≡ count L.disks (λ d. g d && crosses L some d)
  unfolding crosses bit
  cut-count g =
      total_ext L.stripe_bound (λ s l. count_where (some s) L.disks (λ d. (g d && crosses L some d) && on L d s))
      ∙ total_swap L.stripe_bound L.disks (λ s d. bit (some s && ((g d && crosses L some d) && on L d s)))
      ∙ total_ext L.disks (λ d l.
      by_cases (λ (t : Bool). total L.stripe_bound (λ s. bit (some s && (t && on L d s))) ≡ bit t) (g d && crosses L some d)
      (λ h.
      on-among L two d l some ∙ sym (ap₂ (λ (s t : ℕ). bit (some s) + bit (some t)) (lower_is L two d l) (higher_is L two d l))
      ∙ one_bit (some (lower L d)) (some (higher L d)) (and_right (g d) (crosses L some d) h))
      (λ h. total-zero L.stripe_bound (λ s b. ap bit (and-false (some s)))))
      ∙ sym (count-total L.disks (λ d. g d && crosses L some d))
