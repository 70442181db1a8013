-- `parts::table::added` meets its contract.
-- Assumes nothing.
use borrow.Author.Tests.{eq-eqb, ne_eqb}
use Rattle.stripes.specs.Fold.{gate}
use Rattle.parts.proofs.table.added.Goals as goal

pub returns-then-part-old : goal.returns-then-part-old
unfolding gate
returns-then-part-old c = rw (eq-eqb _ _ c.if-part-old.true)

pub returns : goal.returns
unfolding gate
returns c = rw (ne_eqb _ _ c.if-part-old.false)
