-- `xor::sum::mix` meets its contract: the loop adds one byte after the other.
-- Assumes nothing.
use mathlib.Core.Path.{◌≡◌}
use Prim.Native.Nat.{◌+◌}
use lib.ListN.{get_or}
use Rattle.xor.specs.Strided.{added}
use Rattle.xor.proofs.sum.mix.Given as goal

abbrev pub invariant-loop-i : goal.invariant-loop-i
invariant-loop-i g l = l.v ≡ added l.initial.v 0 l.i (λ j. get_or l.a (l.at + j) 0)
