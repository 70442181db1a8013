-- `sheet::zero_all` meets its contract.
-- Assumes nothing.
use mathlib.Core.Path.{◌∙◌}
use Rattle.sheet.proofs.Blanks.{all_zeroed}
use Rattle.sheet.proofs.zero_all.Goals as goal

pub returns : goal.returns
returns c =
    c.wipe.ensures ∙ all_zeroed c.args.number c.args.sheets.now c.requires
