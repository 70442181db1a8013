-- `xor::fill::fill_parts` meets its contract: after each turn W places more hold the sum.
-- Assumes nothing.
use mathlib.Core.Path.{◌≡◌}
use Prim.Native.Nat.{◌+◌, ◌*◌}
use Rattle.xor.specs.Parts.{stored_from}
use Rattle.xor.specs.Spots.{total_at}
use Rattle.xor.proofs.fill.fill_parts.Given as goal

abbrev pub invariant-loop-i : goal.invariant-loop-i
invariant-loop-i g l =
    l.a ≡ stored_from l.initial.a (l.first + l.gap) (total_at (g.S.Stretches.spots l.stretches) l.initial.a) l.first (g.row.W * l.i)
