-- `reach::levels` meets its contract: each turn of the loop is a step of the search, and marks what it reaches first.
-- Assumes nothing.
use Rattle.reach.specs.Reached.{next_in}
use Rattle.reach.proofs.Search.{Searched}
use Rattle.reach.proofs.Levelled.{Levelled}
use Rattle.reach.proofs.levels.Given as goal

abbrev pub invariant-loop-level : goal.invariant-loop-level
invariant-loop-level l = Searched (next_in l.near) l.from l.level l.done l.front × Levelled (next_in l.near) l.from l.limit l.level l.levels
