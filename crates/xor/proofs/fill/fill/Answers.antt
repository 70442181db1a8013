-- `xor::fill::fill` meets its contract: evenly spaced stretches are clear of the one that is left out.
-- Assumes nothing.
use Rattle.xor.specs.Spots.{total_at}
use Rattle.xor.specs.Strided.{strided, filled}
use Rattle.xor.proofs.Strided.{spaced_clear}
use Rattle.xor.proofs.fill.fill.Goals as goal

pub fill_from-requires : goal.fill_from-requires
fill_from-requires c = spaced_clear c.requires

pub returns : goal.returns
unfolding filled strided total_at
returns c = c.fill_from.ensures
