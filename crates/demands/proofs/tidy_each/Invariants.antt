-- `demands::tidy_each` meets its contract: each sheet is tidied in its turn.
-- Assumes nothing.
use Rattle.demands.proofs.Each.{Tidying}
use Rattle.demands.proofs.tidy_each.Given as goal

abbrev pub invariant-loop-p : goal.invariant-loop-p
invariant-loop-p l = Tidying l.p l.initial.sheets l.sheets
