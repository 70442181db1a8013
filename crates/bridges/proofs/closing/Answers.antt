-- `bridges::closing` meets its contract: each turn takes in the links for one stripe of the set.
-- Assumes nothing.
use Rattle.std.proofs.Common.{◌≡◌, refl, arith}
use Rattle.stripes.specs.Fold.{◌⊕◌}
use Rattle.reach.proofs.Rest.{gathered_none, gathered_next, gathered_all}
use Rattle.bridges.specs.Forest.{on_one}
use Rattle.bridges.proofs.closing.Goals as goal

pub loop-s-init : goal.loop-s-init
loop-s-init c =
    let whole : c.into_iter-s-iterator.result.left ≡ c.args.set = grind arith in
    rw whole (gathered_none _ _ c.ranges.set.fits)

pub loop-s-preserved : goal.loop-s-preserved
unfolding ◌⊕◌
loop-s-preserved c = gathered_next c.loop-s.invariant c.in-Some.ensures.steps _ (λ t. refl)

pub returns : goal.returns
unfolding on_one
returns c = gathered_all c.loop-s.invariant c.in-None.ensures.steps.0
