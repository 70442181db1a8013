-- `series::any_erased` meets its contract: a disk is found exactly if there is one.
-- Assumes nothing.
use Rattle.series.proofs.Ends.{some-erased}
use Rattle.series.proofs.any_erased.Goals as goal

pub returns : goal.returns
returns c = some-erased c.args.map.now c.next_erased.ensures
