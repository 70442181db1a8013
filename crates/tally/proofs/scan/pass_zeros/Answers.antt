-- `tally::scan::pass_zeros` meets its contract: the loop passes over one chunk of zeros after the other.
-- Assumes nothing.
use mathlib.Core.Path.{◌∙◌, sym, refl}
use borrow.Author.Rules.{rules}
use Rattle.tally.proofs.Scanned.{passed_none, passed_zeros}
use Rattle.tally.proofs.scan.pass_zeros.Goals as goal

pub loop-d-init : goal.loop-d-init
loop-d-init c = passed_none _ _ c.requires

pub returns-then-not-all_zero16 : goal.returns-then-not-all_zero16
returns-then-not-all_zero16 c = c.loop-d.invariant

pub loop-d-preserved : goal.loop-d-preserved
loop-d-preserved c =
    passed_zeros c.loop-d.invariant _ 16 _ refl (search rules) (search rules) (search rules)
    (sym c.all_zero16.ensures ∙ c.if-not-all_zero16.false)

pub returns : goal.returns
returns c = c.loop-d.invariant
