-- `cycle::either_is` meets its contract: it tries the two stripes one after the other.
-- Assumes nothing.
use mathlib.Core.Path.{◌∙◌}
use borrow.Author.Tests.{eq-eqb}
use Rattle.cycle.proofs.Search.{either_low, either_high}
use Rattle.cycle.proofs.either_is.Goals as goal

pub returns-then-stripe-pair : goal.returns-then-stripe-pair
returns-then-stripe-pair c = eq-eqb _ _ c.if-stripe-pair.true ∙ either_low _ _ _ c.if-stripe-pair.true

pub returns-else-stripe-pair : goal.returns-else-stripe-pair
returns-else-stripe-pair c = either_high _ _ _ c.if-stripe-pair.false
