-- `reach::neighbours` meets its contract: each turn takes in what is next to a stripe that is left of the set.
-- Assumes nothing.
use Rattle.reach.specs.Reached.{next_in}
use Rattle.reach.proofs.Rest.{Gathered}
use Rattle.reach.proofs.neighbours.Given as goal

abbrev pub invariant-loop-s : goal.invariant-loop-s
invariant-loop-s l = Gathered (next_in l.near) l.set l.all l.s-iterator.left
