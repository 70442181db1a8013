-- `refusal::side_fits` meets its contract: each test is one of the definition's.
-- Assumes nothing.
use Rattle.model.specs.Grid.{side_fits}
use Rattle.refusal.proofs.Range.{below_range, above_range}
use Rattle.refusal.proofs.side_fits.Goals as goal

pub returns-then-side-lt-SIDE_MIN : goal.returns-then-side-lt-SIDE_MIN
unfolding side_fits
returns-then-side-lt-SIDE_MIN c = below_range 2 15 _ c.if-side-lt-SIDE_MIN.true

pub returns : goal.returns
unfolding side_fits
returns c = above_range 2 15 _ c.if-side-lt-SIDE_MIN.false
