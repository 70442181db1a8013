-- `cycle::other_of` meets its contract: the first of the two stripes that differs.
-- Assumes nothing.
use Rattle.cycle.proofs.Search.{other-high, other-low}
use Rattle.cycle.proofs.other_of.Goals as goal

pub returns-then-pair-stripe : goal.returns-then-pair-stripe
returns-then-pair-stripe c = other-high _ _ _ c.requires c.if-pair-stripe.true

pub returns : goal.returns
returns c = other-low _ _ _ c.if-pair-stripe.false
