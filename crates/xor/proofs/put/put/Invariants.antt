-- `xor::put::put` meets its contract: the loop stores one byte after the other.
-- Assumes nothing.
use mathlib.Core.Path.{◌≡◌}
use lib.ListN.{get_or}
use Rattle.zeros.specs.Stored.{stored}
use Rattle.xor.proofs.put.put.Given as goal

abbrev pub invariant-loop-i : goal.invariant-loop-i
invariant-loop-i g l = l.a ≡ stored l.initial.a l.at l.i (λ j. get_or l.v j 0)
