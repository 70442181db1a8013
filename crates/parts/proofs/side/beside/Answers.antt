-- `parts::side::beside` meets its contract.
-- Assumes nothing.
use mathlib.Core.Path.{sym, ◌∙◌}
use borrow.Author.Tests.{eq-eqb, ne_eqb}
use Rattle.stripes.specs.Fold.{bit}
use Rattle.parts.proofs.side.beside.Goals as goal

pub returns-then-part-name : goal.returns-then-part-name
unfolding bit
returns-then-part-name c = rw (ne_eqb _ _ c.if-part-name.true)

pub returns-then-holds : goal.returns-then-holds
unfolding bit
returns-then-holds c = rw (eq-eqb _ _ c.if-part-name.false, sym c.holds.ensures ∙ c.if-holds.true)

pub returns : goal.returns
unfolding bit
returns c = rw (eq-eqb _ _ c.if-part-name.false, sym c.holds.ensures ∙ c.if-holds.false)
