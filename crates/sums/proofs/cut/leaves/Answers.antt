-- `sums::cut::leaves` meets its contract.
-- Assumes nothing.
use mathlib.Core.Bool.{and-false, and-true}
use borrow.Author.Tests.{eq-eqb, ne_eqb}
use Rattle.stripes.specs.Erased.{erasures}
use Rattle.sums.proofs.cut.leaves.Goals as goal

pub returns-then-parts-other : goal.returns-then-parts-other
returns-then-parts-other c = rw (eq-eqb _ _ c.if-parts-other.true, and-false)

pub returns : goal.returns
unfolding erasures
returns c = rw (ne_eqb _ _ c.if-parts-other.false, and-true)
