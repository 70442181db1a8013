-- What check answers.
-- Assumes nothing.
use Rattle.std.specs.Prelude.{ℕ}

-- Every stripe's sum is zero at every place; or the lowest stripe whose sum is not zero; or a refusal by its number.
pub data Checked : Type 0 where
  Sealed : Checked
  Unsealed : ℕ → Checked
  Refused : ℕ → Checked
