-- A stretch of the blocks of an array.
-- Assumes nothing.
use Rattle.std.specs.Prelude.{◌≡◌, Bool, true, not, List, ℕ, ◌+◌, ◌*◌, ◌≤◌, length}
use Rattle.stripes.specs.System.{sums_to_zero}
use Rattle.stripes.specs.declared.Stretch.{Stretch}
use Rattle.model.specs.Grid.{layout_of, disks, block_fits}
use Rattle.model.specs.declared.Size.{Size}

-- It lies within the block, and the array holds a block for each disk.
pub record Held (z : Size) (x : Stretch) (a : List ℕ) : Type 0 where
  pub inside : x.offset + x.width ≤ x.block
  pub block : block_fits x.block ≡ true
  pub sized : length a ≡ disks z * x.block

-- The sum of stripe s is not zero somewhere.
abbrev pub nonzero : Size → (base : ℕ) → Stretch → List ℕ → ℕ → Bool
nonzero z base x a s = not (sums_to_zero (layout_of z base) x a s)
