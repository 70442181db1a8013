-- `raid2d::raid2d_save` meets its contract: it is that of the call, with the answer as a number and a count.
-- Assumes nothing.
use mathlib.Core.Path.{◌∙◌, ap}
use Rattle.model.specs.Grid.{rectangle}
use Rattle.model.specs.Save.{saving_status, saving_count}
use Rattle.model.specs.Saving.{Saving}
use Rattle.raid2d.proofs.raid2d_save.Goals as goal

pub returns : goal.returns
unfolding rectangle
returns c =
    let record { answer = answer; array = array } = c.save-answer.ensures in
    let record { repairs = _; repairs_count = _; saved = status; saved_count = count } = c.report_count.ensures in
    let before = c.args.count.now in
    record {
      status = status ∙ ap saving_status answer;
      array = array;
      count = count ∙ ap (λ (r : Saving). saving_count r before) answer;
    }
