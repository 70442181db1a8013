-- `xor::cancel::is_zero` meets its contract: the bytes so far are all zero exactly if nothing was gathered.
-- Assumes nothing.
use mathlib.Core.Path.{refl}
use lib.ListN.{get_or}
use Rattle.stripes.specs.Fold.{every}
use Rattle.zeros.proofs.Gathered.{zero-next}
use Rattle.xor.proofs.cancel.is_zero.Goals as goal

pub loop-b-init : goal.loop-b-init
unfolding every
loop-b-init g c = refl

pub loop-b-preserved : goal.loop-b-preserved
loop-b-preserved g c =
    let l = c.loop-b in
    zero-next (λ j. get_or c.args.v.now j 0) l.b-index l.any l.invariant
