-- `xor::cancel::is_zero` meets its contract: the bytes so far are all zero exactly if nothing was gathered.
-- Assumes nothing.
use mathlib.Core.Path.{◌≡◌}
use lib.Dec.{eqb}
use Rattle.stripes.specs.Fold.{every}
use Rattle.xor.proofs.Parts.{zero_at}
use Rattle.xor.proofs.cancel.is_zero.Given as goal

abbrev pub invariant-loop-b : goal.invariant-loop-b
invariant-loop-b g l = eqb l.any 0 ≡ every l.b-index (zero_at l.v)
