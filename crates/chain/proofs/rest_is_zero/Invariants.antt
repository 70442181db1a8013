-- `chain::rest_is_zero` meets its contract: the groups so far are in order.
-- Assumes nothing.
use mathlib.Core.Path.{◌≡◌}
use mathlib.Core.Bool.{true}
use Prim.Native.Nat.{◌-◌, ◌%◌, ◌≤◌}
use Rattle.stripes.specs.Fold.{every}
use Rattle.chain.specs.Read.{in_order}
use Rattle.chain.proofs.rest_is_zero.Given as goal

abbrev pub invariant-loop-at : goal.invariant-loop-at
invariant-loop-at l = (2 ≤ l.at) × (l.at ≤ 98) × (l.at % 16 ≡ 2) × (every l.at (in_order l.marks l.sheet) ≡ true)

abbrev pub decreases-loop-at : goal.decreases-loop-at
decreases-loop-at l = 98 - l.at
