-- `smallest::near::crossing` meets its contract: each turn takes in the disks that leave from one stripe of the set.
-- Assumes nothing.
use Rattle.std.proofs.Common.{◌≡◌, ◌∙◌, ap, ℕ, arith}
use Rattle.reach.specs.Reached.{has}
use Rattle.reach.proofs.Rest.{gathered_none, gathered_next, gathered_all}
use Rattle.smallest.proofs.Cutting.{crossing_all}
use Rattle.smallest.proofs.near.crossing.Goals as goal

pub loop-s-init : goal.loop-s-init
loop-s-init c =
    let whole : c.into_iter-s-iterator.result.left ≡ c.args.inside = grind arith in
    rw whole (gathered_none _ _ c.ranges.inside.fits)

pub loop-s-preserved : goal.loop-s-preserved
loop-s-preserved c = gathered_next c.loop-s.invariant c.in-Some.ensures.steps _ (λ t. ap (λ (w : ℕ). has w t) c.leaving-found.ensures)

pub returns : goal.returns
returns c = λ y.
    gathered_all c.loop-s.invariant c.in-None.ensures.steps.0 y
    ∙ crossing_all _ _ c.ranges.inside.fits (λ x. (c.type_inv.near x).fits) y
