-- `survivors::part_fits` meets its contract: a stripe that does not name its part passes, and else the sum decides.
-- Assumes nothing.
use borrow.Author.Tests.{eq-eqb}
use Rattle.survivors.proofs.part_fits.Goals as goal

pub returns : goal.returns
returns c = rw (eq-eqb _ _ c.if-name-stripe.false) c.cancels.ensures
