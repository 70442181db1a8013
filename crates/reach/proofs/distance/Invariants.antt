-- `reach::distance` meets its contract: each turn of the loop is a step of the search, which has not reached the goal before.
-- Assumes nothing.
use mathlib.Core.Path.{◌≡◌}
use mathlib.Core.Bool.{false}
use Rattle.reach.specs.Reached.{reached, next_in, word_stripes}
use Rattle.reach.proofs.Search.{Searched}
use Rattle.reach.proofs.distance.Given as goal

abbrev pub invariant-loop-k : goal.invariant-loop-k
invariant-loop-k l = Searched (next_in l.near) l.from l.k l.seen l.front × (reached (next_in l.near) word_stripes l.from l.k l.to ≡ false)
