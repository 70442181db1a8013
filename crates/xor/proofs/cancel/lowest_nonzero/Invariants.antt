-- `xor::cancel::lowest_nonzero` meets its contract: every sum so far is zero.
-- Assumes nothing.
use mathlib.Core.Path.{◌≡◌}
use mathlib.Core.Bool.{true}
use Prim.Native.Nat.{ℕ, ◌<◌, ◌+◌, ◌*◌}
use Rattle.xor.specs.Strided.{cancelled}
use Rattle.xor.proofs.cancel.lowest_nonzero.Given as goal

abbrev pub invariant-loop-i : goal.invariant-loop-i
invariant-loop-i l = (k : ℕ) → k < l.i → cancelled l.len l.a (l.first + k * l.pitch) l.step l.count l.skip ≡ true
