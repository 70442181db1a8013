-- `reach::fresh` meets its contract.
-- Assumes nothing.
use mathlib.Core.Path.{◌∙◌, ap}
use mathlib.Core.Bool.{Bool, not, ◌&&◌}
use Rattle.reach.specs.Reached.{has}
use Rattle.reach.proofs.Words.{has-without}
use Rattle.reach.proofs.fresh.Goals as goal

pub returns : goal.returns
returns c = λ t. has-without _ _ t ∙ ap (λ (x : Bool). x && not (has c.args.seen t)) (c.neighbours.ensures t)
