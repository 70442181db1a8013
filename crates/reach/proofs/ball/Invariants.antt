-- `reach::ball` meets its contract: each turn of the loop is a step of the search.
-- Assumes nothing.
use Rattle.reach.specs.Reached.{next_in}
use Rattle.reach.proofs.Search.{Searched}
use Rattle.reach.proofs.ball.Given as goal

abbrev pub invariant-loop-taken : goal.invariant-loop-taken
invariant-loop-taken l = Searched (next_in l.near) l.from l._taken l.inside l.front
