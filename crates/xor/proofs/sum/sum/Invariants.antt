-- `xor::sum::sum` meets its contract: the loop adds one stretch after the other.
-- Assumes nothing.
use mathlib.Core.Path.{◌≡◌}
use lib.ListN.{length}
use Rattle.xor.proofs.Parts.{Holds}
use Rattle.xor.proofs.Spots.{partly}
use Rattle.xor.proofs.sum.sum.Given as goal

abbrev pub invariant-loop-k : goal.invariant-loop-k
invariant-loop-k g l = record { len : length l.v ≡ g.row.W; sums : Holds g.row.W l.v (partly (g.S.Stretches.spots l.stretches) l.k l.a) l.first }
