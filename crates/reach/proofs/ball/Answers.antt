-- `reach::ball` meets its contract: each turn of the loop is a step of the search.
-- Assumes nothing.
use mathlib.Core.Path.{◌≡◌, sym, ◌∙◌}
use native.Mathlib.Omega.{arith}
use Rattle.reach.proofs.Search.{searched_none, searched_next, searched_all}
use Rattle.reach.proofs.ball.Goals as goal

pub loop-taken-init : goal.loop-taken-init
loop-taken-init c = searched_none _ _ _ c.one-inside.ensures

pub returns-then-front-eq0 : goal.returns-then-front-eq0
returns-then-front-eq0 c =
    let searched = c.loop-taken.invariant in
    λ t. searched.seen_is t ∙ sym (searched_all searched _ c.fresh-front.ensures c.if-front-eq0.true _ (omega arith) t)

pub loop-taken-preserved : goal.loop-taken-preserved
loop-taken-preserved c = searched_next c.loop-taken.invariant _ c.fresh-front.ensures

pub returns : goal.returns
returns c =
    let l = c.loop-taken in
    let end : l._taken ≡ c.args.steps = omega arith in
    λ t. l.invariant.seen_is t ∙ rw end
