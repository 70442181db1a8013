-- What save answers. It never calls a loss fatal.
-- Assumes nothing.
use Rattle.std.specs.Prelude.{ℕ}

-- The number of sectors that were saved, which without sectors is that of disks; or a refusal by its number.
pub data Saving : Type 0 where
  Saved : ℕ → Saving
  Refused : ℕ → Saving
