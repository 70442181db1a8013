-- `xor::put::add` meets its contract: the loop adds one byte after the other.
-- Assumes nothing.
use mathlib.Core.Path.{◌≡◌}
use lib.ListN.{get_or}
use Rattle.xor.specs.Strided.{added}
use Rattle.xor.proofs.put.add.Given as goal

abbrev pub invariant-loop-i : goal.invariant-loop-i
invariant-loop-i g l = l.a ≡ added l.initial.a l.at l.i (λ j. get_or l.v j 0)
