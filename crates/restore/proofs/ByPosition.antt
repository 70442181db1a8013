-- Repairs made at one position after the other.
-- Assumes nothing.
use mathlib.Core.Path.{◌≡◌, refl, sym, ◌∙◌, ap}
use mathlib.Core.Bool.{Bool}
use mathlib.Core.List.{List}
use Prim.Native.Nat.{ℕ, ◌+◌, ◌*◌, ◌<◌}
use native.Mathlib.Nat.{le_refl}
use native.Mathlib.Numerals.{add-one}
use lib.ListN.{length}
use Rattle.stripes.specs.System.{Layout, whole}
use Rattle.stripes.specs.Repair.{Entry, Peels, rebuilt}
use Rattle.stripes.specs.Sectors.{sectored, at_position, stretch_at, rising}
use Rattle.stripes.proofs.Fold.{every_at}
use Rattle.stripes.proofs.Clears.{all_allowed_peels, peels_all_allowed}
use Rattle.stripes.proofs.Positions.{all_allowed-rising}
use Rattle.stripes.proofs.EachPosition.{rebuilt-next}

-- Lists of which all repairs are allowed at their turn are so at each position.
pub peels_at : (n : ℕ) (L : Layout) (e : ℕ → Bool) (g : ℕ → List Entry) → Peels (sectored n L) e (rising n g n)
    → (p : ℕ) → p < n → Peels L (at_position n p e) (g p)
peels_at n L e g peels p place =
    all_allowed_peels L (at_position n p e) (g p)
    (every_at n _ (sym (all_allowed-rising n g L e n (le_refl n)) ∙ peels_all_allowed (sectored n L) e (rising n g n) peels) p place)

module _ (n w B : ℕ) (cut : B ≡ n * w) (L : Layout) (a : List ℕ) (sized : length a ≡ L.disks * B) (g : ℕ → List Entry) where
  pub positions-none : a ≡ rebuilt (sectored n L) (whole w) a (rising n g 0)
  unfolding rising rebuilt
  positions-none = refl

  -- The repairs of position p, after those of the positions before it.
  pub positions-next : (p : ℕ) → p < n → (b : List ℕ) → b ≡ rebuilt (sectored n L) (whole w) a (rising n g p)
      → rebuilt L (stretch_at B w p) b (g p) ≡ rebuilt (sectored n L) (whole w) a (rising n g (p + 1))
  positions-next p place b so_far =
      ap (λ (l : List ℕ). rebuilt L (stretch_at B w p) l (g p)) so_far ∙ sym (rebuilt-next n w B cut L a sized g p place)
      ∙ ap (λ (k : ℕ). rebuilt (sectored n L) (whole w) a (rising n g k)) (sym (add-one p))
