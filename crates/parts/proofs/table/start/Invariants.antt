-- `parts::table::start` meets its contract: the loop names one stripe after the other.
-- Assumes nothing.
use Rattle.parts.proofs.Filled.{Filled}
use Rattle.parts.proofs.table.start.Given as goal

abbrev pub invariant-loop-s : goal.invariant-loop-s
invariant-loop-s l = Filled (λ i. i) l.initial.parts l.s l.parts
