-- `reach::neighbours` meets its contract: each turn takes in what is next to a stripe that is left of the set.
-- Assumes nothing.
use Rattle.std.proofs.Common.{◌≡◌, refl, arith}
use Rattle.reach.specs.Reached.{next_in}
use Rattle.reach.proofs.Rest.{gathered_none, gathered_next, gathered_all}
use Rattle.reach.proofs.neighbours.Goals as goal

pub loop-s-init : goal.loop-s-init
loop-s-init c =
    let whole : c.into_iter-s-iterator.result.left ≡ c.args.set = grind arith in
    rw whole (gathered_none _ _ c.ranges.set.fits)

pub loop-s-preserved : goal.loop-s-preserved
unfolding next_in
loop-s-preserved c = gathered_next c.loop-s.invariant c.in-Some.ensures.steps _ (λ t. refl)

pub returns : goal.returns
returns c = gathered_all c.loop-s.invariant c.in-None.ensures.steps.0
