-- `raid2d::status` meets its contract: 0, or the number of the refusal.
-- Assumes nothing.
use mathlib.Core.Path.{◌∙◌, sym, ap}
use Rattle.model.specs.Answers.{status_of}
use Rattle.raid2d.proofs.status.Goals as goal

pub returns-in-Ok : goal.returns-in-Ok
unfolding status_of
returns-in-Ok c = sym (ap status_of c.in-Ok.is)

pub returns-in-Err : goal.returns-in-Err
unfolding status_of
returns-in-Err c = c.number.ensures ∙ sym (ap status_of c.in-Err.is)
