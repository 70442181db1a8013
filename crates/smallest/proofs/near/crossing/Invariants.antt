-- `smallest::near::crossing` meets its contract: each turn takes in the disks that leave from one stripe of the set.
-- Assumes nothing.
use lib.ListN.{get_or}
use Rattle.reach.specs.Reached.{has}
use Rattle.reach.proofs.Rest.{Gathered}
use Rattle.smallest.specs.Leads.{leaving_of}
use Rattle.smallest.proofs.near.crossing.Given as goal

abbrev pub invariant-loop-s : goal.invariant-loop-s
invariant-loop-s l = Gathered (λ x t. has (leaving_of (get_or l.near x 0) l.inside x) t) l.inside l.found l.s-iterator.left
