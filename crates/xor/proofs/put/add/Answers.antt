-- `xor::put::add` meets its contract: the loop adds one byte after the other.
-- Assumes nothing.
use native.Mathlib.Omega.{arith}
use lib.ListN.{get_or}
use Rattle.stripes.specs.Fold.{◌⊕◌}
use Rattle.xor.proofs.Added.{added_none, added_next}
use Rattle.xor.proofs.put.add.Goals as goal

pub loop-i-init : goal.loop-i-init
loop-i-init g c = added_none _ _ _

pub loop-i-preserved : goal.loop-i-preserved
unfolding ◌⊕◌
loop-i-preserved g c =
    let a = c.args in
    let l = c.loop-i in
    added_next a.a.now a.at (λ j. get_or a.v.now j 0) l.i l.a l.invariant (omega arith)
