-- `xor::fill::fill_few` meets its contract: the bytes that go one at a time lie behind those that go eight at a time.
-- Assumes nothing.
use mathlib.Core.Path.{refl}
use Prim.Native.Nat.{◌*◌, ◌/◌}
use native.Mathlib.Nat.{le_refl}
use native.Mathlib.Omega.{arith}
use Rattle.xor.proofs.Parts.{filled_then}
use Rattle.xor.proofs.Spots.{clear_aside}
use Rattle.xor.proofs.fill.fill_few.Goals as goal

pub returns : goal.returns
returns g c =
    filled_then (clear_aside c.requires) _ (8 * (c.args.len / 8)) _ _ _ _ _ _ (le_refl _) (le_refl _) (omega arith) (omega arith)
    c.fill_parts.ensures refl (omega arith) c.fill_parts-2.ensures
