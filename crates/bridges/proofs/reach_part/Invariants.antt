-- `bridges::reach_part` meets its contract: each turn of the loop reaches one of the stripes ahead.
-- Assumes nothing.
use mathlib.Core.Bool.{not}
use Rattle.stripes.specs.Fold.{count}
use Rattle.stripes.specs.Erased.{erasures}
use Rattle.model.specs.Grid.{layout_of}
use Rattle.reach.specs.Reached.{has, word_stripes}
use Rattle.bridges.proofs.Reaching.{Spreading}
use Rattle.bridges.proofs.reach_part.Given as goal

abbrev pub invariant-loop-ahead : goal.invariant-loop-ahead
invariant-loop-ahead l = Spreading (layout_of l.grid.size l.grid.base) (erasures l.work) l.initial.done.seen l.done.seen l.done.links l.done.closed l.ways l.ahead

abbrev pub decreases-loop-ahead : goal.decreases-loop-ahead
decreases-loop-ahead l = count word_stripes (λ t. not (has l.done.seen t))
