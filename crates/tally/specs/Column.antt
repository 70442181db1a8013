-- One position of a map.
-- Assumes nothing.
use Rattle.std.specs.Prelude.{◌≡◌, true, List, ℕ, ◌<◌, length, get_or}
use Rattle.stripes.specs.Fold.{tabulate}
use Rattle.stripes.specs.Sectors.{sector_at}
use Rattle.model.specs.Grid.{disks, size_fits, sectors_fit, map_bytes, map_fits}
use Rattle.model.specs.declared.Size.{Size}

-- The bytes that a map with n bytes for each of N disks has at position p, in the order of the disks.
unfoldable pub column_of : (N n p : ℕ) → List ℕ → List ℕ
column_of N n p m = tabulate N (λ d. get_or m (sector_at n p d) 0)

-- A map has n bytes for each disk of a size that the library takes, and p is one of the positions.
pub record Positioned (z : Size) (n p : ℕ) (m : List ℕ) : Type 0 where
  pub size : size_fits z ≡ true
  pub sectors : sectors_fit n ≡ true
  pub place : p < n
  pub map : map_fits (map_bytes z n) m ≡ true

-- Besides, a working map has a byte for each disk.
pub record Located (z : Size) (n p : ℕ) (m work : List ℕ) : Type 0 where
  pub positioned : Positioned z n p m
  pub room : length work ≡ disks z
