-- What plan, the plan for one disk, rebuild and follow answer.
-- Assumes nothing.
use Rattle.std.specs.Prelude.{ℕ}

-- The number of repairs; or, of a fatal loss that no repair of the wanted disk gets around, the number of undetermined disks (paper 02: lost
-- cards) at the lowest position where it is fatal, and that position; or a refusal by its number.
pub data Outcome : Type 0 where
  Repairs : ℕ → Outcome
  Fatal : (lost position : ℕ) → Outcome
  Refused : ℕ → Outcome
