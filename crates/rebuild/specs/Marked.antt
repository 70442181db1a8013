-- Repairs that a map has places for.
-- Assumes nothing.
use Rattle.std.specs.Prelude.{List, length, ℕ, ◌<◌}
use Rattle.stripes.specs.Repair.{Entry, disk_of}

-- The number of every repaired disk, or sector, is below a bound.
abbrev pub Within : (bound : ℕ) → List Entry → Type 0
Within bound w = (i : ℕ) → i < length w → disk_of w i < bound
