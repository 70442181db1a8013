-- `sheet::zero_others` meets its contract: zeros before the sheet that stays, and behind it.
-- Assumes nothing.
use Rattle.sheet.proofs.Blanks.{others-zeroed}
use Rattle.sheet.proofs.zero_others.Goals as goal

pub returns : goal.returns
returns c =
    let a = c.args in
    let record { own_lt_number = inside; number_bound = few; sheets_len = long } = c.requires in
    others-zeroed a.number a.sheets.now long a.own inside c.wipe.new.a c.wipe.ensures
    _ c.wipe-2.ensures
