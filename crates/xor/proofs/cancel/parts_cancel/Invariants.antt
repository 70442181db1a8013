-- `xor::cancel::parts_cancel` meets its contract: the sums so far are all zero.
-- Assumes nothing.
use mathlib.Core.Path.{◌≡◌}
use mathlib.Core.Bool.{true}
use Prim.Native.Nat.{◌*◌}
use Rattle.xor.specs.Parts.{zero_from}
use Rattle.xor.specs.Spots.{total_at}
use Rattle.xor.proofs.cancel.parts_cancel.Given as goal

abbrev pub invariant-loop-i : goal.invariant-loop-i
invariant-loop-i g l = zero_from (total_at (g.S.Stretches.spots l.stretches) l.a) l.first (g.row.W * l.i) ≡ true
