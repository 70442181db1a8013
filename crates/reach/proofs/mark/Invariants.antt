-- `reach::mark` meets its contract: each turn gives a stripe that is left of the set its level.
-- Assumes nothing.
use Rattle.reach.proofs.Rest.{Marked}
use Rattle.reach.proofs.mark.Given as goal

abbrev pub invariant-loop-s : goal.invariant-loop-s
invariant-loop-s l = Marked l.initial.levels l.set l.level l.levels l.s-iterator.left
