-- `reach::has` meets its contract.
-- Assumes nothing.
use borrow.Author.Rules.{rules}
use Rattle.reach.specs.Reached.{has}
use Rattle.reach.proofs.has.Goals as goal

pub returns : goal.returns
unfolding has
returns c = search rules
