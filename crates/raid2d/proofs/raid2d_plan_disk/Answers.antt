-- `raid2d::raid2d_plan_disk` meets its contract: it is that of the call, with the answer as a number and a count.
-- Assumes nothing.
use mathlib.Core.Path.{◌∙◌, ap}
use Rattle.model.specs.Grid.{rectangle}
use Rattle.model.specs.Plan.{outcome_status, outcome_count}
use Rattle.model.specs.Outcome.{Outcome}
use Rattle.raid2d.proofs.raid2d_plan_disk.Goals as goal

pub returns : goal.returns
unfolding rectangle
returns c =
    let record { outcome = outcome; sheet = sheet } = c.plan_disk-answer.ensures in
    let record { status = status; count = count } = c.report_one.ensures in
    let before = c.args.count.now in
    record {
      status = status ∙ ap outcome_status outcome;
      sheet = sheet;
      count = count ∙ ap (λ (o : Outcome). outcome_count o before) outcome;
    }
