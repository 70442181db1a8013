-- The smallest cycle found at its lowest disk: with the fewest disks above it, and of those the cheapest.
-- Assumes nothing.
use mathlib.Core.Path.{◌≡◌, refl, sym, ◌∙◌, ap, ap₂}
use mathlib.Core.Bool.{Bool, true, false, ◌&&◌, ◌||◌}
use mathlib.Core.Logic.{◌⊎◌, ⊎_elim}
use Prim.Native.Nat.{ℕ, ◌+◌, ◌≤◌, ◌<◌}
use native.Mathlib.Nat.{le_refl, le_of_lt, eq-or-lt_of_le}
use native.Mathlib.Omega.{arith}
use borrow.Author.Tests.{eq-eqb, ne_eqb, lt-ltb, le-ltb}
use lib.Arith.{lt_of_le-ne}
use lib.Dec.{eqb, ltb}
use Rattle.stripes.specs.Fold.{count, lowest}
use Rattle.stripes.specs.System.{Layout, TwoStripes, lower, higher}
use Rattle.stripes.specs.Erased.{above}
use Rattle.stripes.specs.Smallest.{price, on_smallest}
use Rattle.stripes.proofs.Fold.{and_right, fails_with, lt_or_le, count_ext, lowest_is}
use Rattle.stripes.proofs.Erased.{count_less, above_is, is_above, above-not}
use Rattle.stripes.proofs.Walk.{lowest_le, lowest_holds}
use Rattle.stripes.proofs.Ends.{Ends}
use Rattle.stripes.proofs.Round.{Round, round_same, round-open, round_close}
use Rattle.stripes.proofs.Price.{cost, digits_first, fewer_cheaper, cheaper_first}
use Rattle.stripes.proofs.Cost.{cost_ext, cost_without, cost_with, count_with}
use Rattle.stripes.proofs.Cheapest.{smallest-set}

module _ (L : Layout) (two : TwoStripes L) (e : ℕ → Bool) (g : ℕ → Bool) (r : Round L e g)
    (d : ℕ) (l : d < L.disks) (h : g d ≡ true) (low : (i : ℕ) → g i ≡ true → d ≤ i) where
  -- Opened at its lowest disk a set leads over disks above that.
  opened : Ends L (above d e) (lower L d) (higher L d)
  opened = round-open L two e g r d l h (above d e) (λ i k q. above_is d e i (lt_of_le-ne (low i k) (λ p. q (sym p))) (r.within i k))

  opened-count : count L.disks opened.set + 1 ≡ count L.disks g
  unfolding opened round-open
  opened-count = count_less L.disks g d l h

  opened-cost : (w : ℕ → ℕ) → cost L.disks w opened.set + w d ≡ cost L.disks w g
  unfolding opened round-open
  opened-cost w = cost_without L.disks w g d l h

-- So the smallest cycle is closed by that erased disk which the fewest disks above it close, the lowest of several, and it has the cheapest of
-- the sets with which it does so.
module _ (L : Layout) (two : TwoStripes L) (e : ℕ → Bool) (d₀ : ℕ) (l₀ : d₀ < L.disks) (h₀ : e d₀ ≡ true)
    (p : Ends L (above d₀ e) (lower L d₀) (higher L d₀))
    (fewest : (d : ℕ) → d < L.disks → e d ≡ true → (f : Ends L (above d e) (lower L d) (higher L d))
    → (count L.disks p.set ≤ count L.disks f.set) × (d < d₀ → count L.disks p.set < count L.disks f.set))
    (cheapest : (f : Ends L (above d₀ e) (lower L d₀) (higher L d₀))
    → cost L.disks (price L.disks) p.set ≤ cost L.disks (price L.disks) f.set) where
  closed : ℕ → Bool
  closed i = ltb i L.disks && (eqb i d₀ || p.set i)

  closed_same : (i : ℕ) → i < L.disks → closed i ≡ (eqb i d₀ || p.set i)
  unfolding closed
  closed_same i l = ap (λ (b : Bool). b && (eqb i d₀ || p.set i)) (lt-ltb i L.disks l)

  -- Its lowest disk is the disk that closes it.
  set-above : (i : ℕ) → i ≤ d₀ → p.set i ≡ false
  set-above i l = fails_with (p.set i) (above d₀ e i) (p.within i) (above-not d₀ e i l)

  closed-first : closed d₀ ≡ true
  closed-first = closed_same d₀ l₀ ∙ ap (λ (b : Bool). b || p.set d₀) (eq-eqb d₀ d₀ refl)

  closed-before : (i : ℕ) → i < d₀ → closed i ≡ false
  closed-before i l =
      closed_same i (omega arith) ∙ ap₂ (λ (a b : Bool). a || b) (ne_eqb i d₀ (λ q. omega arith)) (set-above i (omega arith))

  closed-count : count L.disks closed ≡ count L.disks p.set + 1
  closed-count = count_ext L.disks closed_same ∙ count_with L.disks p.set d₀ l₀ (set-above d₀ (le_refl d₀))

  closed-cost : cost L.disks (price L.disks) closed ≡ cost L.disks (price L.disks) p.set + price L.disks d₀
  closed-cost =
      cost_ext L.disks (price L.disks) closed_same
      ∙ cost_with L.disks (price L.disks) p.set d₀ l₀ (set-above d₀ (le_refl d₀))

  closed-round : Round L e closed
  unfolding closed
  closed-round =
      let whole = round_close L two e (above d₀ e) d₀ l₀ h₀ (λ i h. (is_above d₀ e i h).1) (above-not d₀ e d₀ (le_refl d₀)) p in
      round_same L e (λ i. eqb i d₀ || p.set i) closed closed_same
      (λ i h. whole.within i (and_right (ltb i L.disks) (eqb i d₀ || p.set i) h)) whole

  closed-least : (g : ℕ → Bool) → Round L e g → cost L.disks (price L.disks) closed ≤ cost L.disks (price L.disks) g
  closed-least g r =
      let n : ℕ = L.disks in
      let d : ℕ = lowest n g in
      let (i, b, k) = r.some in
      let (l, h) = lowest_holds n g i b k in
      let low : (i : ℕ) → g i ≡ true → d ≤ i = lowest_le n g in
      let few = fewest d l (r.within d h) (opened L two e g r d l h low) in
      let rest = opened-count L two e g r d l h low in
      let own = closed-count in
      ⊎_elim
      (λ (before : d < d₀). le_of_lt (fewer_cheaper n closed g (omega (arith, few.1 before))))
      (λ (not-before : d₀ ≤ d).
      ⊎_elim
      (λ (q : d₀ ≡ d).
      let here : g d₀ ≡ true = ap g q ∙ h in
      let from : (i : ℕ) → g i ≡ true → d₀ ≤ i = λ i k. omega (arith, low i k) in
      let cheap = cheapest (opened L two e g r d₀ l₀ here from) in
      let others = opened-cost L two e g r d₀ l₀ here from (price n) in
      let all = closed-cost in
      omega arith)
      (λ (after : d₀ < d).
      ⊎_elim
      (λ fewer. le_of_lt (fewer_cheaper n closed g fewer))
      (λ more.
      let none : (i : ℕ) → i < d → g i ≡ false = (lowest_is n g).none in
      le_of_lt
      (cheaper_first n closed g (omega arith)
      (digits_first n closed g d₀ l₀ (λ i l. closed-before i l ∙ sym (none i (omega arith))) closed-first (none d₀ after))))
      (lt_or_le (count n closed) (count n g)))
      (eq-or-lt_of_le not-before))
      (lt_or_le d d₀)

  pub smallest_by : on_smallest L e ≡ (λ i. ltb i L.disks && (eqb i d₀ || p.set i))
  unfolding closed
  smallest_by =
      smallest-set L two e closed
      (λ i l. ap (λ (b : Bool). b && (eqb i d₀ || p.set i)) (le-ltb i L.disks l)) closed-round closed-least
