-- What a list of repairs makes of an array.
-- Assumes nothing.
use Rattle.std.specs.Prelude.{◌≡◌, Bool, true, cond, List, ℕ, ◌*◌, length}
use Rattle.stripes.specs.System.{Layout, consistent}
use Rattle.stripes.specs.Repair.{Entry, rebuilt, zeroed}
use Rattle.stripes.specs.declared.Stretch.{Stretch}
use Rattle.model.specs.Grid.{disks, block_fits, sector_fits}
use Rattle.model.specs.declared.Size.{Size}

-- An array holds a block for each disk, and sectors divide the block.
pub record Sectored (z : Size) (B w : ℕ) (a : List ℕ) : Type 0 where
  pub block : block_fits B ≡ true
  pub sector : sector_fits B w ≡ true
  pub sized : length a ≡ disks z * B

-- After the repairs every stripe's sum is zero.
unfoldable pub fits : Layout → Stretch → List ℕ → List Entry → Bool
fits L x a w = consistent L x (rebuilt L x a w)

-- The array is repaired where that holds, else it has zeros on the erased disks.
unfoldable pub restored : Layout → Stretch → List ℕ → (ℕ → Bool) → List Entry → List ℕ
restored L x a e w = cond (fits L x a w) (rebuilt L x a w) (zeroed x a e)
