-- `xor::put::difference` meets its contract: the loop takes one difference after the other.
-- Assumes nothing.
use mathlib.Core.Path.{◌≡◌}
use Rattle.zeros.specs.Stored.{stored}
use Rattle.xor.proofs.Parts.{differ}
use Rattle.xor.proofs.put.difference.Given as goal

abbrev pub invariant-loop-i : goal.invariant-loop-i
invariant-loop-i g l = l.r ≡ stored l.initial.r 0 l.i (differ l.a l.at l.b l.from)
