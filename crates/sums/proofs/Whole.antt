-- Whole blocks: what the tests of every call on an array say of the sums over it.
-- Assumes nothing.
use mathlib.Core.List.{List}
use Prim.Native.Nat.{ℕ}
use lib.ListN.{length}
use Rattle.stripes.specs.System.{whole}
use Rattle.model.specs.Grid.{array_bytes}
use Rattle.model.specs.declared.Size.{Size}
use Rattle.stripes.proofs.Bytes.{whole-inside}
use Rattle.model.proofs.Refusal.{ArrayFits}
use Rattle.sums.specs.Held.{Held}

-- An array of the right length holds a whole block for each disk.
pub held : (z : Size) (B : ℕ) (a : List ℕ) → ArrayFits z B (length a) → Held z (whole B) a
unfolding whole array_bytes
held z B a fits = record { inside = whole-inside B; block = fits.block; sized = fits.long }
