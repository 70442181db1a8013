-- The positions of an array saved one after another: what they come to together.
-- Assumes nothing.
use mathlib.Core.Path.{◌≡◌, refl, sym, ◌∙◌, ap, ap₂}
use mathlib.Core.Bool.{Bool, true}
use mathlib.Core.List.{List}
use Prim.Native.Nat.{ℕ, ◌+◌, ◌*◌, ◌/◌, ◌≤◌, ◌<◌}
use native.Mathlib.Numerals.{add-one}
use native.Mathlib.Omega.{arith}
use lib.ListN.{length}
use Rattle.stripes.specs.Fold.{count, total}
use Rattle.stripes.specs.System.{Layout, TwoStripes, whole}
use Rattle.stripes.specs.Erased.{erasures}
use Rattle.stripes.specs.Sectors.{sectored, at_position, stretch_at}
use Rattle.stripes.specs.Undetermined.{determined, parts_cancel, saved}
use Rattle.stripes.proofs.Fold.{every_at, count_le}
use Rattle.stripes.proofs.SectorParts.{saved_below, length-saved-below, saved-below-none, saved-below-next, saved-below_cancel, saved-below_all, count-determined}
use Rattle.model.specs.Grid.{disks, layout_of}
use Rattle.model.specs.declared.Size.{Size}
use Rattle.model.proofs.Grid.{layout-disks, disks-bound, size_fits_lem}
use Rattle.layout.specs.Stripe.{Numbered}
use Rattle.tally.specs.Column.{Positioned}
use Rattle.tally.proofs.Column.{disks-few}
use Rattle.restore.specs.Restored.{Sectored}
use Rattle.solve.specs.Memory.{Room}
use Rattle.survivors.proofs.ByPosition.{fits_at, two, cut, judged}

-- The memory that is made for one position is large enough.
pub position_room : {z : Size} {n p : ℕ} {m : List ℕ} → Positioned z n p m → (base : ℕ) {work stripes counts list : List ℕ}
    → length work ≡ disks z → length stripes ≡ 512 → length counts ≡ 64 → 32 ≤ length list → Room (layout_of z base) work stripes counts list
position_room {z} h base ew es ec room =
    let few = disks-few h in
    let same = layout-disks z base in
    record { disks_fit = omega arith; table_fits = omega arith; stripes_fit = omega arith; list_fits = room }

-- How many disks are determined at position p, of n.
abbrev pub number_at : Layout → (n : ℕ) → (e : ℕ → Bool) → (p : ℕ) → ℕ
number_at L n e p = count L.disks (determined L (at_position n p e))

-- The first k positions of an array are saved, and the determined sectors there counted.
pub record SavedTo (L : Layout) (n w : ℕ) (e : ℕ → Bool) (a : List ℕ) (k : ℕ) (b : List ℕ) (s : ℕ) : Type 0 where
  pub array : b ≡ saved_below n w L e a k
  pub number : s ≡ total k (number_at L n e)
  pub few : s ≤ 256 * k

module _ {z : Size} {base : ℕ} (n : Numbered z base) {B w : ℕ} {a : List ℕ} (held : Sectored z B w a) (m : List ℕ) where
  abbrev L : Layout
  L = layout_of z base

  abbrev sectors : ℕ
  sectors = B / w

  abbrev e : ℕ → Bool
  e = erasures m

  abbrev pair : TwoStripes L
  pair = two n held m

  abbrev blocks : B ≡ sectors * w
  blocks = cut n held m

  sized : length a ≡ L.disks * B
  sized = held.sized ∙ ap (λ (k : ℕ). k * B) (sym (layout-disks z base))

  -- Saved: one position after another.
  pub saved-none : SavedTo L sectors w e a 0 a 0
  unfolding total
  saved-none = record { array = sym (saved-below-none sectors L pair w B blocks e a sized); number = refl; few = omega arith }

  module _ {k : ℕ} {array : List ℕ} {number : ℕ} (to : SavedTo L sectors w e a k array number) where
    pub saved-length : length array ≡ length a
    saved-length = ap length to.array ∙ length-saved-below sectors w L e a k

    -- At the next position the survivors fit as they did.
    pub still_fits : k < sectors → parts_cancel (sectored sectors L) (whole w) e a ≡ true
        → parts_cancel L (stretch_at B w k) (at_position sectors k e) array ≡ true
    still_fits place fit =
        rw to.array
        (saved-below_cancel sectors L pair w B blocks e a sized k place ∙ every_at sectors (fits_at L B w e a) (sym (judged n held m) ∙ fit) k place)

    pub saved-next : k < sectors → {next : List ℕ} → next ≡ saved L (stretch_at B w k) array (at_position sectors k e)
        → {more : ℕ} → more ≡ number_at L sectors e k → SavedTo L sectors w e a (k + 1) next (number + more)
    unfolding total
    saved-next place saves counted =
        let most = count_le L.disks (determined L (at_position sectors k e)) in
        let same = layout-disks z base in
        let few = disks-bound z (size_fits_lem z n.fits) in
        let before = to.few in
        record {
          array = saves ∙ ap (λ (b : List ℕ). saved L (stretch_at B w k) b (at_position sectors k e)) to.array
              ∙ saved-below-next sectors L pair w B blocks e a sized k place ∙ ap (saved_below sectors w L e a) (sym (add-one k));
          number = ap₂ ◌+◌ to.number counted ∙ ap (λ (i : ℕ). total i (number_at L sectors e)) (sym (add-one k));
          few = omega arith;
        }

  pub saved_all : {array : List ℕ} {number : ℕ} → SavedTo L sectors w e a sectors array number
      → (number ≡ count (sectored sectors L).disks (determined (sectored sectors L) e))
      × (array ≡ saved (sectored sectors L) (whole w) a e)
  saved_all to =
      (to.number ∙ sym (count-determined sectors L pair e), to.array ∙ saved-below_all sectors L pair w B blocks e a sized)
