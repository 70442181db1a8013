-- `reach::distance` meets its contract: each turn of the loop is a step of the search, which has not reached the goal before.
-- Assumes nothing.
use mathlib.Core.Path.{sym, ◌∙◌}
use Rattle.reach.proofs.Steps.{unreached, unreached-other, steps_self, steps_found, steps_none}
use Rattle.reach.proofs.Search.{searched_none, searched_next, searched_all, fresh-reached, others_as_before}
use Rattle.reach.proofs.distance.Goals as goal

pub returns-then-from-to : goal.returns-then-from-to
returns-then-from-to c = steps_self _ _ _ _ _ c.if-from-to.true

pub loop-k-init : goal.loop-k-init
loop-k-init c = (searched_none _ _ _ c.one-seen.ensures, unreached-other _ _ _ _ c.if-from-to.false)

pub returns-then-front-eq0 : goal.returns-then-front-eq0
returns-then-front-eq0 c =
    let (searched, out) = c.loop-k.invariant in
    steps_none _ _ _ _ _ (searched_all searched _ c.fresh-front.ensures c.if-front-eq0.true _ c.loop-k.auto.k-end _ ∙ out)

pub returns-then-has : goal.returns-then-has
returns-then-has c =
    let (searched, out) = c.loop-k.invariant in
    steps_found _ _ _ _ _ _ c.loop-k-test.true out
    (fresh-reached searched _ c.fresh-front.ensures _ (sym c.has.ensures ∙ c.if-has.true))

pub loop-k-preserved : goal.loop-k-preserved
loop-k-preserved c =
    let (searched, out) = c.loop-k.invariant in (
      searched_next searched _ c.fresh-front.ensures,
      others_as_before searched _ c.fresh-front.ensures _ (sym c.has.ensures ∙ c.if-has.false) ∙ out,
    )

pub returns : goal.returns
returns c =
    let (searched, out) = c.loop-k.invariant in
    steps_none _ _ _ _ _ (unreached _ _ _ _ _ _ c.loop-k-test.false out)
