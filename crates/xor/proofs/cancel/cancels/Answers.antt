-- `xor::cancel::cancels` meets its contract: evenly spaced stretches are stretches that are summed.
-- Assumes nothing.
use Rattle.xor.specs.Spots.{total_at}
use Rattle.xor.specs.Strided.{strided, cancelled}
use Rattle.xor.proofs.cancel.cancels.Goals as goal

pub returns : goal.returns
unfolding cancelled strided total_at
returns c = c.all_cancel.ensures
