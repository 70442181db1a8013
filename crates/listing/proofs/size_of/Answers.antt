-- `listing::size_of` meets its contract: the two bytes, in their order.
-- Assumes nothing.
use mathlib.Core.Path.{ap₂}
use Rattle.model.specs.Grid.{rectangle}
use Rattle.listing.proofs.size_of.Goals as goal

pub returns : goal.returns
unfolding rectangle
returns c = ap₂ rectangle c.byte_at.ensures c.byte_at-2.ensures
