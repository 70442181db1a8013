-- `reach::mark` meets its contract: where no stripe is left, all of the set are marked.
-- Assumes nothing.
use Rattle.reach.proofs.Rest.{marked_all}
use Rattle.reach.proofs.mark.Goals as goal

pub returns : goal.returns
returns c = marked_all c.loop-s.invariant c.in-None.ensures.steps.0
