-- `chain::group_in_order` meets its contract: the bytes so far are in order.
-- Assumes nothing.
use mathlib.Core.Path.{◌≡◌}
use mathlib.Core.Bool.{true}
use Prim.Native.Nat.{◌+◌}
use Rattle.stripes.specs.Fold.{every}
use Rattle.chain.specs.Read.{in_order}
use Rattle.chain.proofs.group_in_order.Given as goal

abbrev pub invariant-loop-j : goal.invariant-loop-j
invariant-loop-j l = (every l.j (λ i. in_order l.marks l.sheet (l.at + i)) ≡ true)
