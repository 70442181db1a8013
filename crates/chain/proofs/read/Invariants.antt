-- `chain::read` meets its contract: each turn reads the next record of the chain and marks it.
-- Assumes nothing.
use Rattle.std.proofs.Common.{◌-◌, ◌≤◌}
use Rattle.chain.proofs.Listed.{Listed}
use Rattle.chain.proofs.read.Given as goal

abbrev pub invariant-loop-disk : goal.invariant-loop-disk
invariant-loop-disk l = Listed l.sheet l.list l.marks l.number l.count × (l.count ≤ 32)

abbrev pub decreases-loop-disk : goal.decreases-loop-disk
decreases-loop-disk l = 32 - l.count
