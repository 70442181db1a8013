-- The laws of links and ways.
-- Assumes nothing.
use mathlib.Core.Path.{◌≡◌, refl, sym, ◌∙◌, ap, ap₂, subst}
use mathlib.Core.Bool.{Bool, true, false, cond, not, ◌&&◌, true≢false}
use mathlib.Core.Logic.{⊎_elim}
use Prim.Native.Nat.{ℕ, zero, suc, ◌^◌, ◌≤◌, ◌<◌}
use native.Mathlib.Nat.{eq-or-lt_of_le, le_of_suc-le-suc, le_trans, le_refl, not-suc-le-zero}
use native.Mathlib.Omega.{arith}
use borrow.Author.Tests.{eq-eqb, ne_eqb, eqb-true, eqb-false}
use lib.Bits.{bit_or, or_zero_r}
use lib.Dec.{eqb}
use Rattle.stripes.specs.Fold.{◌⊕◌, gate, bit}
use Rattle.stripes.specs.System.{Layout, lower, higher}
use Rattle.stripes.specs.Joined.{united, part_by}
use Rattle.stripes.proofs.Xor.{⊕_comm, ⊕_self, ⊕-zero, ⊕_assoc, ⊕_cancel, ⊕_swap4, zero_of_equal}
use Rattle.stripes.proofs.Fold.{by_cases, and_left, and_right, lt_or_le}
use Rattle.stripes.proofs.Joined.{part-united, part-kept, part_stays, part-disk}
use Rattle.parts.specs.Ways.{joined_before, between, longer, way_by, closed_by}
use Rattle.stripes.proofs.Digits.{digit, digit-⊕, digit-none, digit-one, digit_or, in_left, in_right}

-- Nothing changes where two parts that become one are one already.
united-same : (part : ℕ → ℕ) (low high : ℕ) → part low ≡ part high → (s : ℕ) → part s ≡ united low high part s
unfolding united
united-same part low high same s =
    by_cases (λ (t : Bool). eqb (part s) (part high) ≡ t → part s ≡ cond t (part low) (part s)) (eqb (part s) (part high))
    (λ _ q. eqb-true (part s) (part high) q ∙ sym same) (λ _ q. refl) refl

-- What is added to both of two numbers is not in their sum.
pub twice_none : (x y q : ℕ) → x ⊕ q ⊕ (y ⊕ q) ≡ x ⊕ y
twice_none x y q = ⊕_swap4 x q y q ∙ ap (λ (z : ℕ). x ⊕ y ⊕ z) (⊕_self q) ∙ ⊕-zero (x ⊕ y)

module _ (L : Layout) (e : ℕ → Bool) where
  -- The number of disk d as a link.
  abbrev pub number : ℕ → ℕ
  number d = part_by L e d (higher L d)

  -- ---- one step

  -- A link joins two parts, and makes ways longer.
  pub way_link : (k : ℕ) → e k ≡ true → joined_before L e k ≡ false
      → way_by L e (suc k) ≡ longer (lower L k) (higher L k) (part_by L e k) (way_by L e k)
  unfolding way_by
  way_link k h apart = rw (h, apart)

  -- Another disk changes no way and no part.
  pub way_kept : (k : ℕ) → (e k && not (joined_before L e k)) ≡ false → way_by L e (suc k) ≡ way_by L e k
  unfolding way_by
  way_kept k h = rw h

  pub part-closed : (k : ℕ) → joined_before L e k ≡ true → (s : ℕ) → part_by L e (suc k) s ≡ part_by L e k s
  unfolding part_by
  part-closed k h s =
      by_cases (λ (b : Bool). cond b (united (lower L k) (higher L k) (part_by L e k)) (part_by L e k) s ≡ part_by L e k s) (e k)
      (λ w. sym (united-same (part_by L e k) (lower L k) (higher L k) (eqb-true _ _ h) s)) (λ w. refl)

  -- A disk that is not of e closes no cycle.
  pub closed-kept : (k : ℕ) → e k ≡ false → closed_by L e (suc k) ≡ closed_by L e k
  unfolding closed_by gate
  closed-kept k h = rw h (or_zero_r (closed_by L e k))

  -- ---- numbers

  -- A link ends the name that is its number: after it no stripe has it,
  name-ended : (d : ℕ) → e d ≡ true → joined_before L e d ≡ false → (s : ℕ) → part_by L e (suc d) s ≡ number d → ⊥
  unfolding part_by united
  name-ended d h apart s =
      rw h
      (by_cases (λ (b : Bool). eqb (part_by L e d s) (number d) ≡ b → cond b (part_by L e d (lower L d)) (part_by L e d s) ≡ number d → ⊥)
      (eqb (part_by L e d s) (number d)) (λ _ w q. eqb-false _ _ apart q) (λ _ w q. eqb-false _ _ w q) refl)

  -- nor later.
  name-none : (k n : ℕ) → ((s : ℕ) → part_by L e k s ≡ n → ⊥) → (s : ℕ) → part_by L e (suc k) s ≡ n → ⊥
  unfolding part_by united
  name-none k n none s =
      by_cases (λ (b : Bool). cond b (united (lower L k) (higher L k) (part_by L e k)) (part_by L e k) s ≡ n → ⊥) (e k)
      (λ w.
      by_cases (λ (b : Bool). cond b (part_by L e k (lower L k)) (part_by L e k s) ≡ n → ⊥) (eqb (part_by L e k s) (part_by L e k (higher L k)))
      (λ _. none (lower L k)) (λ _. none s))
      (λ w. none s)

  name-gone : (d : ℕ) → e d ≡ true → joined_before L e d ≡ false → (k : ℕ) → d < k → (s : ℕ) → part_by L e k s ≡ number d → ⊥
  name-gone d h apart zero l = absurd (not-suc-le-zero l)
  name-gone d h apart (suc k) l =
      ⊎_elim (λ (q : d ≡ k). subst (λ (i : ℕ). (s : ℕ) → part_by L e (suc i) s ≡ number d → ⊥) q (name-ended d h apart))
      (λ w. name-none k (number d) (name-gone d h apart k w)) (eq-or-lt_of_le (le_of_suc-le-suc l))

  -- So two links have two numbers.
  pub numbers_differ : (d i : ℕ) → e d ≡ true → joined_before L e d ≡ false → e i ≡ true → joined_before L e i ≡ false
      → (i ≡ d → ⊥) → number d ≡ number i → ⊥
  numbers_differ d i hd ad hi ai apart q =
      ⊎_elim (λ l. name-gone d hd ad i l (higher L i) (sym q)) (λ l. name-gone i hi ai d (omega (arith, apart)) (higher L d) q)
      (lt_or_le d i)

  -- ---- the links between the stripes of a disk

  -- They stay the same when the stripes are in one part already.
  between_next : (k d : ℕ) → part_by L e k (lower L d) ≡ part_by L e k (higher L d)
      → between L (way_by L e (suc k)) d ≡ between L (way_by L e k) d
  unfolding way_by longer
  between_next k d same =
      by_cases (λ (b : Bool). between L (cond b (longer (lower L k) (higher L k) (part_by L e k) (way_by L e k)) (way_by L e k)) d ≡ between L (way_by L e k) d)
      (e k && not (joined_before L e k)) (λ h. rw same (twice_none (way_by L e k (lower L d)) (way_by L e k (higher L d)) _)) (λ h. refl)

  between_stays : (d : ℕ) → e d ≡ true → (k : ℕ) → d < k → between L (way_by L e k) d ≡ between L (way_by L e (suc d)) d
  between_stays d h zero l = absurd (not-suc-le-zero l)
  between_stays d h (suc k) l =
      ⊎_elim (λ q. rw q)
      (λ w. between_next k d (part_stays L e (suc d) k (lower L d) (higher L d) w (part-disk L e d h)) ∙ between_stays d h k w)
      (eq-or-lt_of_le (le_of_suc-le-suc l))

  -- Between the stripes of a link there is the link alone.
  pub between_link : (d : ℕ) → e d ≡ true → joined_before L e d ≡ false → (k : ℕ) → d < k → between L (way_by L e k) d ≡ 2 ^ number d
  unfolding longer gate
  between_link d h apart k l =
      let a : ℕ = way_by L e d (lower L d) in
      let b : ℕ = way_by L e d (higher L d) in
      between_stays d h k l ∙ ap (λ (way : ℕ → ℕ). between L way d) (way_link d h apart)
      ∙ rw (apart, eq-eqb (number d) (number d) refl, ⊕-zero a) (sym (⊕_assoc a b (a ⊕ b ⊕ 2 ^ number d)) ∙ ⊕_cancel (a ⊕ b) (2 ^ number d))

  -- The links between the stripes of another disk are on a cycle.
  closed-more : (j k t : ℕ) → j ≤ k → digit (closed_by L e j) t ≤ digit (closed_by L e k) t
  unfolding closed_by
  closed-more j zero t l = let none : j ≡ 0 = omega arith in rw none (le_refl _)
  closed-more j (suc k) t l =
      ⊎_elim (λ q. rw q (le_refl _)) (λ w. le_trans (closed-more j k t (le_of_suc-le-suc w)) (in_left (closed_by L e k) _ t)) (eq-or-lt_of_le l)

  pub between-closed : (d : ℕ) → e d ≡ true → joined_before L e d ≡ true → (k : ℕ) → d < k
      → (t : ℕ) → digit (between L (way_by L e k) d) t ≤ digit (closed_by L e k) t
  unfolding closed_by gate
  between-closed d h joins k l t =
      rw (between_stays d h k l, way_kept d (rw (h, joins) refl))
      (le_trans (rw (h, joins) (in_right (closed_by L e d) (between L (way_by L e d) d) t)) (closed-more (suc d) k t l))

  -- ---- cuts

  -- A value for each stripe that is the same on the two stripes of every disk of e but d, and differs by 1 on those of d.
  pub record Cut (d : ℕ) (g : ℕ → ℕ) : Type 0 where
    pub others : (i : ℕ) → i < L.disks → e i ≡ true → (i ≡ d → ⊥) → g (lower L i) ≡ g (higher L i)
    pub disk : g (lower L d) ⊕ g (higher L d) ≡ 1

  module _ (d : ℕ) (h : e d ≡ true) (apart : joined_before L e d ≡ false) (g : ℕ → ℕ) (cut : Cut d g) where
    -- A link is on the way from its higher stripe to its lower one if it is d.
    cut-number : (k : ℕ) → k < L.disks → e k ≡ true → joined_before L e k ≡ false → digit (2 ^ number k) (number d) ≡ g (lower L k) ⊕ g (higher L k)
    unfolding bit
    cut-number k l w off =
        digit-one (number k) (number d)
        ∙ by_cases (λ (b : Bool). eqb k d ≡ b → bit (eqb (number d) (number k)) ≡ g (lower L k) ⊕ g (higher L k)) (eqb k d)
        (λ _ q. rw (eqb-true k d q) (ap bit (eq-eqb (number d) (number d) refl) ∙ sym cut.disk))
        (λ _ q.
        ap bit (ne_eqb (number d) (number k) (numbers_differ d k h apart w off (eqb-false k d q)))
        ∙ sym (zero_of_equal _ _ (cut.others k l w (eqb-false k d q))))
        refl

    -- The number of d in the way of s says whether the values of s and of the stripe that names its part differ,
    abbrev Tells : (k s : ℕ) → Type 0
    Tells k s = digit (way_by L e k s) (number d) ≡ g s ⊕ g (part_by L e k s)

    tells-kept : (k s : ℕ) → way_by L e (suc k) ≡ way_by L e k → part_by L e (suc k) s ≡ part_by L e k s → Tells k s → Tells (suc k) s
    tells-kept k s way part t = rw (way, part) t

    tells-link : (k s : ℕ) → k < L.disks → e k ≡ true → joined_before L e k ≡ false → ((s : ℕ) → Tells k s) → Tells (suc k) s
    unfolding united longer gate
    tells-link k s l w off t =
        let a : ℕ = lower L k in
        let b : ℕ = higher L k in
        let p : ℕ → ℕ = part_by L e k in
        let way : ℕ → ℕ = way_by L e k in
        let more : digit (way a ⊕ way b ⊕ 2 ^ p b) (number d) ≡ g (p a) ⊕ g (p b) =
        digit-⊕ (way a ⊕ way b) (2 ^ p b) (number d)
        ∙ ap₂ (λ (x y : ℕ). x ⊕ y) (digit-⊕ (way a) (way b) (number d) ∙ ap₂ (λ (x y : ℕ). x ⊕ y) (t a) (t b) ∙ ⊕_swap4 (g a) (g (p a)) (g b) (g (p b)))
        (cut-number k l w off)
        ∙ ⊕_comm (g a ⊕ g b ⊕ (g (p a) ⊕ g (p b))) (g a ⊕ g b) ∙ ⊕_cancel (g a ⊕ g b) (g (p a) ⊕ g (p b)) in
        rw (way_link k w off, part-united L e k w)
        (by_cases
        (λ (z : Bool). eqb (p s) (p b) ≡ z → digit (way s ⊕ gate z (way a ⊕ way b ⊕ 2 ^ p b)) (number d) ≡ g s ⊕ g (cond z (p a) (p s)))
        (eqb (p s) (p b))
        (λ _ q.
        digit-⊕ (way s) (way a ⊕ way b ⊕ 2 ^ p b) (number d)
        ∙ ap₂ (λ (x y : ℕ). x ⊕ y) (t s ∙ ap (λ (i : ℕ). g s ⊕ g i) (eqb-true (p s) (p b) q)) more ∙ twice_none (g s) (g (p a)) (g (p b)))
        (λ _ q. ap (λ (x : ℕ). digit x (number d)) (⊕-zero (way s)) ∙ t s)
        refl)

    pub cut_way : (k s : ℕ) → k ≤ L.disks → Tells k s
    unfolding way_by part_by
    cut_way zero s l = digit-none (number d) ∙ sym (⊕_self (g s))
    cut_way (suc k) s l =
        by_cases (λ (b : Bool). e k ≡ b → Tells (suc k) s) (e k)
        (λ _ w.
        by_cases (λ (b : Bool). joined_before L e k ≡ b → Tells (suc k) s) (joined_before L e k)
        (λ _ joins. tells-kept k s (way_kept k (rw (w, joins) refl)) (part-closed k joins s) (cut_way k s (omega arith)))
        (λ _ off. tells-link k s l w off (λ i. cut_way k i (omega arith)))
        refl)
        (λ _ w. tells-kept k s (way_kept k (rw w refl)) (ap (λ (f : ℕ → ℕ). f s) (part-kept L e k w)) (cut_way k s (omega arith)))
        refl

    -- and d is on no cycle.
    pub cut-closed : (k : ℕ) → k ≤ L.disks → digit (closed_by L e k) (number d) ≡ 0
    unfolding closed_by gate
    cut-closed zero l = digit-none (number d)
    cut-closed (suc k) l =
        digit_or (closed_by L e k) _ (number d)
        ∙ ap₂ bit_or (cut-closed k (omega arith))
        (by_cases
        (λ (b : Bool). e k && joined_before L e k ≡ b → digit (gate b (between L (way_by L e k) k)) (number d) ≡ 0)
        (e k && joined_before L e k)
        (λ _ w.
        let joins = and_right (e k) (joined_before L e k) w in
        digit-⊕ (way_by L e k (lower L k)) (way_by L e k (higher L k)) (number d)
        ∙ ap₂ (λ (x y : ℕ). x ⊕ y)
        (cut_way k (lower L k) (omega arith) ∙ ap (λ (i : ℕ). g (lower L k) ⊕ g i) (eqb-true _ _ joins))
        (cut_way k (higher L k) (omega arith))
        ∙ twice_none (g (lower L k)) (g (higher L k)) (g (number k))
        ∙ zero_of_equal _ _
        (cut.others k l (and_left (e k) (joined_before L e k) w) (λ q. true≢false (sym joins ∙ ap (joined_before L e) q ∙ apart))))
        (λ _ w. digit-none (number d))
        refl)
