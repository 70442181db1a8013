-- How many repairs a grid allows, and lists that fit a sheet.
-- Assumes nothing.
use mathlib.Core.Path.{◌≡◌, ◌∙◌, ap, ap₂}
use mathlib.Core.Bool.{Bool, true, false, ◌&&◌, ◌||◌, and-false}
use mathlib.Core.List.{List, [], ◌∷◌}
use Prim.Native.Nat.{ℕ, ◌+◌, ◌/◌, ◌%◌, ◌≤◌, ◌<◌}
use native.Mathlib.Nat.{zero-lt-suc, le_of_lt, div-lt_iff_lt-mul}
use native.Mathlib.Omega.{arith}
use borrow.Author.Tests.{ne_eqb}
use lib.Dec.{ltb}
use lib.ListN.{length, take}
use Rattle.stripes.specs.Fold.{count}
use Rattle.stripes.specs.System.{among, on, Layout}
use Rattle.stripes.specs.Repair.{Entry, Peels, after, disk_of, stripe_of}
use Rattle.stripes.specs.Cycle.{Cycle}
use Rattle.model.specs.Grid.{grid, rows, columns, layout_of, size_fits}
use Rattle.model.specs.declared.Size.{Size}
use Rattle.model.specs.Sheet.{narrow}
use Rattle.stripes.proofs.Fold.{count_le, count_add, count_short}
use Rattle.stripes.proofs.Degree.{peels_fewer, touched, degree, untouched}
use Rattle.stripes.proofs.Peel.{allowed_is, peels_at}
use Rattle.model.proofs.Grid.{Fits, size_fits_lem, layout-two, rows-below, disks-bound, layout-disks, layout_ordered}
use Rattle.model.proofs.Sheets.{Fitting}
use Rattle.model.proofs.Loop.{loop_fits}

module _ (z : Size) (base : ℕ) where
  -- No disk lies on a stripe between the rows and the columns.
  pub between_none : (d s : ℕ) → d < (layout_of z base).disks → rows z < s → s < base → on (layout_of z base) d s ≡ false
  unfolding on among layout_of grid
  between_none d s l a b =
      let row : d / (columns z + 1) < rows z + 1 = (div-lt_iff_lt-mul {k = columns z + 1} (omega arith)).1 l in
      ap₂ (λ (x y : Bool). x || (y || false)) (ne_eqb s (d / (columns z + 1)) (λ q. omega arith))
      (ne_eqb s (base + d % (columns z + 1)) (λ q. omega arith))

  -- So no more stripes are touched than there are rows and columns.
  pub grid_touched : (e : ℕ → Bool) → touched (layout_of z base) e ≤ (rows z + 1) + (columns z + 1)
  unfolding touched layout_of grid
  grid_touched e =
      let split = count_add base (columns z + 1) (λ s. ltb 0 (degree (layout_of z base) e s)) in
      let top : count base (λ s. ltb 0 (degree (layout_of z base) e s)) ≤ rows z + 1 =
      count_short (rows z + 1) base _ (λ s l b. untouched (layout_of z base) e s (λ d w. ap (λ (t : Bool). e d && t) (between_none d s w (omega arith) b) ∙ and-false (e d))) in
      let side = count_le (columns z + 1) (λ s. ltb 0 (degree (layout_of z base) e (base + s))) in
      omega arith

module _ (z : Size) (base : ℕ) (above : rows z < base) where
  -- There are fewer repairs than that.
  pub grid-repairs : (e : ℕ → Bool) (w : List Entry) → Peels (layout_of z base) e w → length w < (rows z + 1) + (columns z + 1)
  grid-repairs e [] p = omega arith
  grid-repairs e (r ∷ rs) p =
      let fewer = peels_fewer (layout_of z base) (layout-two z base above) e (r ∷ rs) p (zero-lt-suc (length rs)) in
      let most = grid_touched z base e in
      omega arith

  -- At most 31, at the largest size.
  pub grid-repairs-bound : size_fits z ≡ true → (e : ℕ → Bool) (w : List Entry) → Peels (layout_of z base) e w → length w < 32
  grid-repairs-bound fits e w p = let f : Fits z = size_fits_lem z fits in let all = grid-repairs e w p in omega arith

-- ---- lists that fit the sheet of paper 01
module _ (z : Size) (fits : size_fits z ≡ true) where
  -- At most 32 entries, each a disk of the grid and a stripe that it lies on.
  entries-fitting : (w : List Entry) → length w ≤ 32
      → ((i : ℕ) → i < length w → (disk_of w i < (layout_of z narrow.base).disks) × (on (layout_of z narrow.base) (disk_of w i) (stripe_of w i) ≡ true))
      → Fitting narrow w
  unfolding layout_of grid
  entries-fitting w few each =
      let f : Fits z = size_fits_lem z fits in
      let above : rows z < narrow.base = rows-below z fits in
      record {
        room = few;
        numbers = omega arith;
        disk = λ i l. let d = (each i l).0 in let most = disks-bound z f in let all = layout-disks z narrow.base in omega arith;
        stripe = λ i l.
            let low = (layout_ordered z narrow.base above).bounded (disk_of w i) (stripe_of w i) (each i l).0 (each i l).1 in
            omega arith;
      }

  -- Repairs, each of them allowed at its step.
  pub peels_fitting : (e : ℕ → Bool) (w : List Entry) → Peels (layout_of z narrow.base) e w → Fitting narrow w
  peels_fitting e w p =
      let L : Layout = layout_of z narrow.base in
      entries-fitting w (le_of_lt (grid-repairs-bound z narrow.base (rows-below z fits) fits e w p))
      (λ i l. let turn = allowed_is L (after e (take i w)) (disk_of w i) (stripe_of w i) (peels_at L e w p i l) in (turn.disk, turn.here))

  -- A cycle.
  pub cycle_fitting : (e : ℕ → Bool) (w : List Entry) → Cycle (layout_of z narrow.base) e w → Fitting narrow w
  cycle_fitting e w y =
      entries-fitting w (loop_fits z narrow.base (rows-below z fits) e w y fits) (λ i l. (y.disk i l, y.here i l))
