-- `raid2d::raid2d_write` meets its contract: it is that of the call.
-- Assumes nothing.
use Rattle.model.specs.Grid.{rectangle}
use Rattle.std.proofs.Common.{◌∙◌}
use Rattle.raid2d.proofs.raid2d_write.Goals as goal

pub returns : goal.returns
unfolding rectangle
returns c =
    let record { status = status; array = array } = c.write-answer.ensures in
    record { status = c.status.ensures ∙ status; array = array }
