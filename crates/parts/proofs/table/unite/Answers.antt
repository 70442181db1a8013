-- `parts::table::unite` meets its contract: the loop gives one stripe after the other its new name.
-- Assumes nothing.
use mathlib.Core.Path.{◌∙◌, ap}
use mathlib.Core.Bool.{cond}
use Prim.Native.Nat.{ℕ}
use native.Mathlib.Nat.{le_refl}
use borrow.Author.Rules.{rules}
use lib.Dec.{eqb}
use lib.ListN.{get_or}
use Rattle.stripes.specs.Joined.{united}
use Rattle.parts.proofs.Filled.{filled_next}
use Rattle.parts.proofs.table.unite.Goals as goal

pub loop-s-preserved : goal.loop-s-preserved
unfolding united
loop-s-preserved c =
    let filled = c.loop-s.invariant in
    let a = c.args in
    let name = get_or a.parts.now a.low 0 in
    let old = get_or a.parts.now a.high 0 in
    filled_next filled _ (search rules)
    (c.renamed.ensures ∙ ap (λ (part : ℕ). cond (eqb part old) name part) (filled.rest _ (le_refl _)))
