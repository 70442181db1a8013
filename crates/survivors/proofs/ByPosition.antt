-- The positions of an array one after another: what holds at each, and that the survivors fit where they do at each.
-- Assumes nothing.
use mathlib.Core.Path.{◌≡◌, refl, sym, ◌∙◌, ap}
use mathlib.Core.Bool.{Bool, true, false}
use mathlib.Core.List.{List}
use Prim.Native.Nat.{ℕ, ◌+◌, ◌*◌, ◌/◌, ◌≤◌, ◌<◌}
use native.Mathlib.Numerals.{add-one}
use lib.ListN.{length}
use Rattle.stripes.specs.Fold.{every}
use Rattle.stripes.specs.System.{Layout, TwoStripes, whole}
use Rattle.stripes.specs.Erased.{erasures}
use Rattle.stripes.specs.Sectors.{sectored, at_position, stretch_at}
use Rattle.stripes.specs.Undetermined.{parts_cancel}
use Rattle.stripes.proofs.Fold.{and_both, every-not}
use Rattle.stripes.proofs.SectorBytes.{stretch_inside}
use Rattle.stripes.proofs.SectorParts.{parts_cancel-sectors}
use Rattle.model.specs.Grid.{disks, layout_of, map_bytes, map_fits}
use Rattle.model.specs.declared.Size.{Size}
use Rattle.model.proofs.Grid.{layout-two, sector-cut, sectors-some, sectors-bound}
use Rattle.layout.specs.Stripe.{Numbered}
use Rattle.tally.specs.Column.{Positioned}
use Rattle.tally.proofs.Column.{position_inside}
use Rattle.restore.specs.Restored.{Sectored}
use Rattle.sums.specs.Held.{Held}

-- No disk behind the last is loaded.
pub loaded_inside : {z : Size} {n p : ℕ} {m : List ℕ} → Positioned z n p m → (work : List ℕ)
    → erasures work ≡ at_position n p (erasures m) → (d : ℕ) → disks z ≤ d → erasures work d ≡ false
loaded_inside h work loaded d l = ap (λ (c : ℕ → Bool). c d) loaded ∙ position_inside h d l

-- The survivors fit at position p: a test.
abbrev pub fits_at : Layout → (B w : ℕ) → (e : ℕ → Bool) → List ℕ → (p : ℕ) → Bool
fits_at L B w e a p = parts_cancel L (stretch_at B w p) (at_position (B / w) p e) a

-- ---- the positions of an array
module _ {z : Size} {base : ℕ} (n : Numbered z base) {B w : ℕ} {a : List ℕ} (held : Sectored z B w a) (m : List ℕ) where
  abbrev L : Layout
  L = layout_of z base

  abbrev sectors : ℕ
  sectors = B / w

  abbrev e : ℕ → Bool
  e = erasures m

  pub two : TwoStripes L
  two = layout-two z base n.above

  pub cut : B ≡ sectors * w
  cut = sector-cut B w held.sector

  -- There are few positions.
  pub positions-few : sectors ≤ 4096
  positions-few = (sectors-bound sectors (sectors-some B w held.block held.sector)).1

  module _ {p : ℕ} (place : p < sectors) where
    pub positioned : map_fits (map_bytes z sectors) m ≡ true → Positioned z sectors p m
    positioned fits = record { size = n.fits; sectors = sectors-some B w held.block held.sector; place = place; map = fits }

    pub offset_inside : p * w + w ≤ B
    offset_inside = stretch_inside sectors w B cut place

    pub held_at : {b : List ℕ} → length b ≡ length a → Held z (stretch_at B w p) b
    held_at same = record { inside = offset_inside; block = held.block; sized = same ∙ held.sized }

  -- Judged: the survivors fit where they do at each position.
  pub judged : parts_cancel (sectored sectors L) (whole w) e a ≡ every sectors (fits_at L B w e a)
  judged = parts_cancel-sectors sectors L two w B cut e a

  pub fits-none : every 0 (fits_at L B w e a) ≡ true
  unfolding every
  fits-none = refl

  pub fits_next : (p : ℕ) → every p (fits_at L B w e a) ≡ true → fits_at L B w e a p ≡ true → every (p + 1) (fits_at L B w e a) ≡ true
  unfolding every
  fits_next p before here = ap (λ (k : ℕ). every k (fits_at L B w e a)) (add-one p) ∙ and_both before here

  pub fits_all : every sectors (fits_at L B w e a) ≡ true → true ≡ parts_cancel (sectored sectors L) (whole w) e a
  fits_all all = sym (judged ∙ all)

  pub unfit_at : (p : ℕ) → p < sectors → fits_at L B w e a p ≡ false → false ≡ parts_cancel (sectored sectors L) (whole w) e a
  unfit_at p place here = sym (judged ∙ every-not sectors _ p place here)
