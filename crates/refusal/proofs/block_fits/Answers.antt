-- `refusal::block_fits` meets its contract: each test is one of the definition's.
-- Assumes nothing.
use Rattle.model.specs.Grid.{block_fits}
use Rattle.refusal.proofs.Range.{below_range, above_range}
use Rattle.refusal.proofs.block_fits.Goals as goal

pub returns-then-block-lt-BLOCK_MIN : goal.returns-then-block-lt-BLOCK_MIN
unfolding block_fits
returns-then-block-lt-BLOCK_MIN c = below_range 1 4096 _ c.if-block-lt-BLOCK_MIN.true

pub returns : goal.returns
unfolding block_fits
returns c = above_range 1 4096 _ c.if-block-lt-BLOCK_MIN.false
