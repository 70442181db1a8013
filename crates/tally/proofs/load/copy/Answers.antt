-- `tally::load::copy` meets its contract: the loop copies one byte after the other, and the rest is wiped.
-- Assumes nothing.
use mathlib.Core.Path.{◌≡◌, ap, ◌∙◌}
use native.Mathlib.Nat.{not-suc-le-zero}
use native.Mathlib.Omega.{arith}
use borrow.Author.Rules.{rules}
use Rattle.tally.proofs.Scanned.{copied_next, copied_all}
use Rattle.stripes.specs.Erased.{erasures}
use Rattle.tally.proofs.load.copy.Goals as goal

pub loop-d-init : goal.loop-d-init
loop-d-init c = (search rules, λ j h. absurd (not-suc-le-zero h))

pub loop-d-preserved : goal.loop-d-preserved
loop-d-preserved c =
    let l = c.loop-d in
    (search rules, copied_next _ l.work l.d (search rules) l.invariant.1)

pub returns : goal.returns
returns c =
    let l = c.loop-d in
    ap erasures c.wipe.ensures ∙ copied_all _ l.work (search rules) (λ j h. l.invariant.1 j (omega arith))
