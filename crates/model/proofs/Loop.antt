-- Cycles in a grid and the loops of paper 01 are the same: rows and columns in turn, at least four disks. They have at most
-- twice as many disks as there are rows, and as there are columns.
-- Assumes nothing.
use mathlib.Core.Path.{◌≡◌, refl, sym, ◌∙◌, ap, ap₂, subst}
use mathlib.Core.Bool.{Bool, true, false}
use mathlib.Core.Logic.{◌↔◌, ◌⊎◌, inl, inr, ⊎_elim}
use mathlib.Core.List.{List}
use Prim.Native.Nat.{ℕ, zero, suc, ◌+◌, ◌-◌, ◌*◌, ◌/◌, ◌%◌, ◌≤◌, ◌<◌}
use native.Mathlib.Nat.{le_of_suc-le, add_left_cancel, add-sub_of_le}
use native.Mathlib.Omega.{arith}
use borrow.Author.Tests.{eq-eqb, eqb-true, eqb-false}
use lib.Dec.{eqb}
use lib.ListN.{length}
use Rattle.stripes.specs.Fold.{count}
use Rattle.stripes.specs.System.{Layout, on}
use Rattle.stripes.specs.Repair.{Entry, fatal, disk_of, stripe_of}
use Rattle.stripes.specs.Cycle.{following, Cycle}
use Rattle.model.specs.Grid.{rows, columns, across, layout_of, disks, disk_at, size_fits}
use Rattle.model.specs.Loop.{Loop}
use Rattle.model.specs.declared.Size.{Size}
use Rattle.stripes.proofs.Fold.{by_cases, lt_or_le, count_ext}
use Rattle.stripes.proofs.Degree.{two_each}
use Rattle.stripes.proofs.Counts.{count-different}
use Rattle.stripes.proofs.Trace.{following-last, following_inner, following_is, following-below, cycle-fatal, core_cycle}
use Rattle.model.proofs.Grid.{Fits, size_fits_lem, layout-disks, layout-two, disk_is, row_within, column-within, on_row, on-column}

-- ---- the stripes of a cycle

-- Where a disk d has f d as its only stripe of some kind, a disk left along it shares it with the next, which is left along a
-- stripe of the other kind.
record Turn (f : ℕ → ℕ) (Other : ℕ → Type 0) (w : List Entry) (i : ℕ) : Type 0 where
  left : stripe_of w i ≡ f (disk_of w i)
  shared : f (disk_of w (following w i)) ≡ f (disk_of w i)
  next : Other (stripe_of w (following w i))

module _ (L : Layout) (e : ℕ → Bool) (w : List Entry) (y : Cycle L e w) where
  turn : (f : ℕ → ℕ) (Kind Other : ℕ → Type 0) → ((s : ℕ) → Kind s ⊎ Other s)
      → ((i : ℕ) → i < length w → (s : ℕ) → on L (disk_of w i) s ≡ true → Kind s → s ≡ f (disk_of w i))
      → (i : ℕ) → i < length w → Kind (stripe_of w i) → Turn f Other w i
  turn f Kind Other either only i l s =
      let k : ℕ = following w i in
      let b : k < length w = following-below w i l in
      let left = only i l (stripe_of w i) (y.here i l) s in
      let there = only k b (stripe_of w i) (y.there i l) s in
      record {
        left = left;
        shared = sym there ∙ left;
        next = ⊎_elim (λ h. absurd (y.turns i l (only k b (stripe_of w k) (y.here k b) h ∙ sym there))) (λ h. h) (either (stripe_of w k));
      }

-- ---- the stripes of a disk are its row and its column
module _ (z : Size) (base : ℕ) (above : rows z < base) (d : ℕ) (l : d < disks z) where
  -- Rows have numbers below base.
  row_small : d / across z < base
  row_small = let r = row_within z d l in omega arith

  own_row : on (layout_of z base) d (d / across z) ≡ true
  own_row = on_row z base d (d / across z) row_small ∙ eq-eqb (d / across z) (d / across z) refl

  own-column : on (layout_of z base) d (base + d % across z) ≡ true
  own-column = on-column z base above d (d % across z) l ∙ eq-eqb (d % across z) (d % across z) refl

  is_row : (s : ℕ) → on (layout_of z base) d s ≡ true → s < base → s ≡ d / across z
  is_row s h b = eqb-true s (d / across z) (sym (on_row z base d s b) ∙ h)

  is-column : (s : ℕ) → on (layout_of z base) d s ≡ true → base ≤ s → s ≡ base + d % across z
  is-column s h b =
      let q : base + (s - base) ≡ s = add-sub_of_le b in
      let c = eqb-true (s - base) (d % across z) (sym (on-column z base above d (s - base) l) ∙ ap (on (layout_of z base) d) q ∙ h) in
      omega arith

-- ---- the rows and columns of a loop

-- Each one touched holds two disks, so there are at most twice as many disks as rows, and as columns.
pub loop_bound : (z : Size) (base : ℕ) (e : ℕ → Bool) (w : List Entry) → Loop z base e w → (length w ≤ 2 * (rows z + 1)) × (length w ≤ 2 * (columns z + 1))
loop_bound z base e w y = (
  two_each (length w) (rows z + 1) (λ i. disk_of w i / across z) (λ i l. let b = row_within z (disk_of w i) (y.disk i l) in omega arith) y.two_in_row,
  two_each (length w) (columns z + 1) (λ i. disk_of w i % across z) (λ i l. let b = column-within z (disk_of w i) in omega arith) y.two_in_column,
)

-- ---- a cycle of a grid is a loop: rows and columns in turn
module _ (z : Size) (base : ℕ) (above : rows z < base) (e : ℕ → Bool) (w : List Entry) (y : Cycle (layout_of z base) e w) where
  inside : (i : ℕ) → i < length w → disk_of w i < disks z
  inside i l = subst (λ (n : ℕ). disk_of w i < n) (layout-disks z base) (y.disk i l)

  -- A disk left along its row shares it with the next, which is left along its column, and the other way round.
  by_row : (i : ℕ) → i < length w → stripe_of w i < base → Turn (λ d. d / across z) (λ s. base ≤ s) w i
  by_row = turn (layout_of z base) e w y (λ d. d / across z) (λ s. s < base) (λ s. base ≤ s) (λ s. lt_or_le s base) (λ i l. is_row z base above (disk_of w i) (inside i l))

  by-column : (i : ℕ) → i < length w → base ≤ stripe_of w i → Turn (λ d. base + d % across z) (λ s. s < base) w i
  by-column =
      turn (layout_of z base) e w y (λ d. base + d % across z) (λ s. base ≤ s) (λ s. s < base) (λ s. ⊎_elim inr inl (lt_or_le s base))
      (λ i l. is-column z base above (disk_of w i) (inside i l))

  -- The first is left along its row, the second along its column, and so on.
  in-turn : (i : ℕ) → i < length w → ((i % 2 ≡ 0) × (stripe_of w i < base)) ⊎ ((i % 2 ≡ 1) × (base ≤ stripe_of w i))
  in-turn zero l =
      let low = y.lower_first (disk_of w 0 / across z) (own_row z base above (disk_of w 0) (inside 0 l)) in
      let r = row_small z base above (disk_of w 0) (inside 0 l) in
      inl (refl, omega arith)
  in-turn (suc i) l =
      let b : i < length w = le_of_suc-le l in
      let step : following w i ≡ suc i = following_inner w i l in
      ⊎_elim
      (λ p. inr (omega (arith, p.0), subst (λ (k : ℕ). base ≤ stripe_of w k) step (by_row i b p.1).next))
      (λ p. inl (omega (arith, p.0), subst (λ (k : ℕ). stripe_of w k < base) step (by-column i b p.1).next))
      (in-turn i b)

  row-turn : (i : ℕ) → i < length w → i % 2 ≡ 0 → Turn (λ d. d / across z) (λ s. base ≤ s) w i
  row-turn i l h = ⊎_elim (λ p. by_row i l p.1) (λ p. absurd (omega (arith, p.0))) (in-turn i l)

  column-turn : (i : ℕ) → i < length w → i % 2 ≡ 1 → Turn (λ d. base + d % across z) (λ s. s < base) w i
  column-turn i l h = ⊎_elim (λ p. absurd (omega (arith, p.0))) (λ p. by-column i l p.1) (in-turn i l)

  -- The last shares a column with the first, which is left along its row: so their number is even.
  cycle-even : length w % 2 ≡ 0
  cycle-even =
      let some = y.some in
      let m : ℕ = length w - 1 in
      let l : m < length w = omega arith in
      let first : stripe_of w 0 < base = ⊎_elim (λ p. p.1) (λ p. absurd (omega (arith, p.0))) (in-turn 0 some) in
      let back : following w m ≡ 0 = following-last w m (omega arith) in
      ⊎_elim
      (λ p.
      let n : base ≤ stripe_of w 0 = subst (λ (k : ℕ). base ≤ stripe_of w k) back (by_row m l p.1).next in
      absurd (omega arith))
      (λ p. omega (arith, p.0))
      (in-turn m l)

  -- Two disks that share a row and a column would be one.
  cycle-long : 4 ≤ length w
  cycle-long =
      let some = y.some in
      let even = cycle-even in
      let more : length w ≡ 2 → ⊥ = two-only in
      omega arith
    where
      two-only : length w ≡ 2 → ⊥
      two-only n =
          let a : 0 < length w = omega arith in
          let b : 1 < length w = omega arith in
          let next : following w 0 ≡ 1 = following_inner w 0 b in
          let back : following w 1 ≡ 0 = following-last w 1 (sym n) in
          let row : disk_of w 1 / across z ≡ disk_of w 0 / across z =
          ap (λ (k : ℕ). disk_of w k / across z) (sym next) ∙ (row-turn 0 a refl).shared in
          let column : disk_of w 1 % across z ≡ disk_of w 0 % across z =
          sym (add_left_cancel base (column-turn 1 b refl).shared) ∙ ap (λ (k : ℕ). disk_of w k % across z) back in
          let same : ◌≡◌ {A = ℕ} 1 0 =
          y.different 1 0 b a (disk_is z (disk_of w 1) ∙ ap₂ (disk_at z) row column ∙ sym (disk_is z (disk_of w 0))) in
          omega arith

  -- The row and the column of each disk hold two of them.
  two-in-row : (i : ℕ) → i < length w → count (length w) (λ j. eqb (disk_of w i / across z) (disk_of w j / across z)) ≡ 2
  two-in-row i l =
      let d : ℕ = disk_of w i in
      count_ext (length w) (λ j k. sym (on_row z base (disk_of w j) (d / across z) (row_small z base above d (inside i l))))
      ∙ y.two i l (d / across z) (own_row z base above d (inside i l))

  two-in-column : (i : ℕ) → i < length w → count (length w) (λ j. eqb (disk_of w i % across z) (disk_of w j % across z)) ≡ 2
  two-in-column i l =
      let d : ℕ = disk_of w i in
      count_ext (length w) (λ j k. sym (on-column z base above (disk_of w j) (d % across z) (inside j k)))
      ∙ y.two i l (base + d % across z) (own-column z base above d (inside i l))

  pub loop_is : Loop z base e w
  loop_is =
      record {
        disk = inside;
        erased = y.erased;
        different = y.different;
        long = cycle-long;
        even = cycle-even;
        row = λ i l h. let t = row-turn i l h in (t.left, t.shared);
        column = λ i l h. let t = column-turn i l h in (t.left, add_left_cancel base t.shared);
        two_in_row = two-in-row;
        two_in_column = two-in-column;
        lowest_first = y.lowest_first;
      }

  -- So its disks fit a sheet.
  pub loop_fits : size_fits z ≡ true → length w ≤ 32
  loop_fits fits = let f : Fits z = size_fits_lem z fits in let b = (loop_bound z base e w loop_is).0 in omega arith

-- ---- a loop is a cycle
module _ (z : Size) (base : ℕ) (above : rows z < base) (e : ℕ → Bool) (w : List Entry) (y : Loop z base e w) where
  -- A disk that is left along its row, or along its column, and the next disk.
  record Leaves (Kind : ℕ → Type 0) (i : ℕ) : Type 0 where
    kind : Kind (stripe_of w i)
    here : on (layout_of z base) (disk_of w i) (stripe_of w i) ≡ true
    there : on (layout_of z base) (disk_of w (following w i)) (stripe_of w i) ≡ true

  leaves : (f : ℕ → ℕ) (Kind : ℕ → Type 0) → ((d : ℕ) → d < disks z → Kind (f d)) → ((d : ℕ) → d < disks z → on (layout_of z base) d (f d) ≡ true)
      → (i : ℕ) → i < length w → stripe_of w i ≡ f (disk_of w i) → f (disk_of w (following w i)) ≡ f (disk_of w i) → Leaves Kind i
  leaves f Kind kinds own i l left shared =
      let k : ℕ = following w i in
      record {
        kind = subst Kind (sym left) (kinds (disk_of w i) (y.disk i l));
        here = ap (on (layout_of z base) (disk_of w i)) left ∙ own (disk_of w i) (y.disk i l);
        there = ap (on (layout_of z base) (disk_of w k)) (left ∙ sym shared) ∙ own (disk_of w k) (y.disk k (following-below w i l));
      }

  leaves-row : (i : ℕ) → i < length w → i % 2 ≡ 0 → Leaves (λ s. s < base) i
  leaves-row i l h =
      let (left, shared) = y.row i l h in
      leaves (λ d. d / across z) (λ s. s < base) (row_small z base above) (own_row z base above) i l left shared

  leaves-column : (i : ℕ) → i < length w → i % 2 ≡ 1 → Leaves (λ s. base ≤ s) i
  leaves-column i l h =
      let (left, shared) = y.column i l h in
      leaves (λ d. base + d % across z) (λ s. base ≤ s) (λ d k. omega arith) (own-column z base above) i l left (ap (λ (c : ℕ). base + c) shared)

  -- Even and odd numbers take turns, also from the last to the first.
  odd-next : (i : ℕ) → i < length w → i % 2 ≡ 0 → following w i % 2 ≡ 1
  odd-next i l h = let n = y.even in ⊎_elim (λ p. absurd (omega (arith, p.0))) (λ p. omega (arith, p.1)) (following_is w i l)

  even-next : (i : ℕ) → i < length w → i % 2 ≡ 1 → following w i % 2 ≡ 0
  even-next i l h = ⊎_elim (λ p. omega (arith, p.1)) (λ p. omega (arith, p.1)) (following_is w i l)

  by_turn : (P : Type 0) (i : ℕ) → (i % 2 ≡ 0 → P) → (i % 2 ≡ 1 → P) → P
  by_turn P i even odd =
      by_cases (λ (b : Bool). P) (eqb (i % 2) 0) (λ q. even (eqb-true (i % 2) 0 q)) (λ q. let n = eqb-false (i % 2) 0 q in odd (omega arith))

  turns-off : (i : ℕ) → i < length w → stripe_of w (following w i) ≡ stripe_of w i → ⊥
  turns-off i l q =
      let k : ℕ = following w i in
      let b : k < length w = following-below w i l in
      by_turn ⊥ i
      (λ h. let r = (leaves-row i l h).kind in let c = (leaves-column k b (odd-next i l h)).kind in omega arith)
      (λ h. let c = (leaves-column i l h).kind in let r = (leaves-row k b (even-next i l h)).kind in omega arith)

  two-on : (i : ℕ) → i < length w → (s : ℕ) → on (layout_of z base) (disk_of w i) s ≡ true → count (length w) (λ j. on (layout_of z base) (disk_of w j) s) ≡ 2
  two-on i l s h = ⊎_elim row column (lt_or_le s base)
    where
      d : ℕ
      d = disk_of w i

      row : s < base → count (length w) (λ j. on (layout_of z base) (disk_of w j) s) ≡ 2
      row b =
          count_ext (length w) (λ j k. on_row z base (disk_of w j) s b ∙ ap (λ (r : ℕ). eqb r (disk_of w j / across z)) (is_row z base above d (y.disk i l) s h b))
          ∙ y.two_in_row i l

      column : base ≤ s → count (length w) (λ j. on (layout_of z base) (disk_of w j) s) ≡ 2
      column b =
          count_ext (length w) (λ j k.
          ap (on (layout_of z base) (disk_of w j)) (is-column z base above d (y.disk i l) s h b)
          ∙ on-column z base above (disk_of w j) (d % across z) (y.disk j k))
          ∙ y.two_in_column i l

  pub loop_cycle : Cycle (layout_of z base) e w
  loop_cycle =
      let long = y.long in
      let some : 0 < length w = omega arith in
      record {
        some = some;
        disk = λ i l. subst (λ (n : ℕ). disk_of w i < n) (sym (layout-disks z base)) (y.disk i l);
        erased = y.erased;
        different = y.different;
        here = λ i l. by_turn _ i (λ h. (leaves-row i l h).here) (λ h. (leaves-column i l h).here);
        there = λ i l. by_turn _ i (λ h. (leaves-row i l h).there) (λ h. (leaves-column i l h).there);
        turns = turns-off;
        two = two-on;
        lowest_first = y.lowest_first;
        lower_first =
            λ s h.
            let first = (leaves-row 0 some refl).kind in
            let row = (y.row 0 some refl).0 in
            ⊎_elim (λ b. let q = is_row z base above (disk_of w 0) (y.disk 0 some) s h b in omega arith) (λ b. omega arith) (lt_or_le s base);
      }

-- ---- fatal losses of a grid

module _ (z : Size) (base : ℕ) (above : rows z < base) (e : ℕ → Bool) where
  -- A loss is fatal exactly if there is a loop of erased disks.
  pub fatal_loop : (fatal (layout_of z base) e ≡ true) ↔ ((w : List Entry) × Loop z base e w)
  fatal_loop = (
    λ lossy. (_, loop_is z base above e _ (core_cycle (layout_of z base) (layout-two z base above) e lossy)),
    λ (w, y). cycle-fatal (layout_of z base) e w (loop_cycle z base above e w y),
  )

  -- The loss of three disks or fewer is never fatal: a loop has four.
  pub three : count (disks z) e ≤ 3 → fatal (layout_of z base) e ≡ false
  three few =
      by_cases (λ (b : Bool). b ≡ false) (fatal (layout_of z base) e)
      (λ lossy.
      let (w, y) = fatal_loop.0 lossy in
      let long = y.long in
      let erased = count-different (length w) (disks z) e (disk_of w) y.disk y.erased y.different in
      absurd (omega arith))
      (λ lossy. refl)
