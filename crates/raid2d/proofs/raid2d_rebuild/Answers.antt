-- `raid2d::raid2d_rebuild` meets its contract: it is that of the call, with the answer as a number, a count and a position.
-- Assumes nothing.
use mathlib.Core.Path.{◌∙◌, ap}
use Rattle.model.specs.Grid.{rectangle}
use Rattle.model.specs.Plan.{outcome_status, outcome_count, outcome_position}
use Rattle.model.specs.Outcome.{Outcome}
use Rattle.raid2d.proofs.raid2d_rebuild.Goals as goal

pub returns : goal.returns
unfolding rectangle
returns c =
    let record { outcome = outcome; array = array; map = map; sheets = sheets } = c.rebuild-answer.ensures in
    let record { status = status; count = count; position = position } = c.report.ensures in
    let a = c.args in
    record {
      status = status ∙ ap outcome_status outcome;
      array = array;
      map = map;
      sheets = sheets;
      count = count ∙ ap (λ (o : Outcome). outcome_count o a.count.now) outcome;
      position = position ∙ ap (λ (o : Outcome). outcome_position o a.position.now) outcome;
    }
