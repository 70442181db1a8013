-- `refusal::sectors_fit` meets its contract: each test is one of the definition's.
-- Assumes nothing.
use Rattle.model.specs.Grid.{sectors_fit}
use Rattle.refusal.proofs.Range.{below_range, above_range}
use Rattle.refusal.proofs.sectors_fit.Goals as goal

pub returns-then-sectors-lt-SECTORS_MIN : goal.returns-then-sectors-lt-SECTORS_MIN
unfolding sectors_fit
returns-then-sectors-lt-SECTORS_MIN c = below_range 1 4096 _ c.if-sectors-lt-SECTORS_MIN.true

pub returns : goal.returns
unfolding sectors_fit
returns c = above_range 1 4096 _ c.if-sectors-lt-SECTORS_MIN.false
