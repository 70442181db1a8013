-- `bridges::closing` meets its contract: each turn takes in the links for one stripe of the set.
-- Assumes nothing.
use lib.ListN.{get_or}
use Rattle.stripes.specs.Fold.{◌⊕◌}
use Rattle.reach.specs.Reached.{has}
use Rattle.reach.proofs.Rest.{Gathered}
use Rattle.bridges.proofs.closing.Given as goal

abbrev pub invariant-loop-s : goal.invariant-loop-s
invariant-loop-s l = Gathered (λ s t. has (l.way ⊕ get_or l.ways s 0) t) l.set l.all l.s-iterator.left
