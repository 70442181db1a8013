-- `raid2d::raid2d_follow` meets its contract: it is that of the call, with the answer as a number and a count.
-- Assumes nothing.
use mathlib.Core.Path.{◌∙◌, ap}
use Rattle.model.specs.Grid.{rectangle}
use Rattle.model.specs.Plan.{outcome_status, outcome_count}
use Rattle.model.specs.Outcome.{Outcome}
use Rattle.raid2d.proofs.raid2d_follow.Goals as goal

pub returns : goal.returns
unfolding rectangle
returns c =
    let record { outcome = outcome; array = array } = c.follow-answer.ensures in
    let record { repairs = status; repairs_count = count; saved = _; saved_count = _ } = c.report_count.ensures in
    let before = c.args.count.now in
    record {
      status = status ∙ ap outcome_status outcome;
      array = array;
      count = count ∙ ap (λ (o : Outcome). outcome_count o before) outcome;
    }
