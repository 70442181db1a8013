-- `smallest::near::side` meets its contract.
-- Assumes nothing.
use Rattle.smallest.specs.Leads.{side_of}
use Rattle.smallest.proofs.near.side.Goals as goal

pub returns-then-here : goal.returns-then-here
unfolding side_of
returns-then-here c = rw c.if-here.true

pub returns : goal.returns
unfolding side_of
returns c = rw c.if-here.false
