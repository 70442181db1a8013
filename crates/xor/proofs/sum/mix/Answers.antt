-- `xor::sum::mix` meets its contract: the loop adds one byte after the other.
-- Assumes nothing.
use native.Mathlib.Omega.{arith}
use Rattle.xor.proofs.Added.{added_none}
use Rattle.xor.proofs.Parts.{mix_next}
use Rattle.xor.proofs.sum.mix.Goals as goal

pub loop-i-init : goal.loop-i-init
loop-i-init g c = added_none _ 0 _

pub loop-i-preserved : goal.loop-i-preserved
loop-i-preserved g c =
    let a = c.args in
    let l = c.loop-i in
    mix_next a.v.now a.a.now a.at l.i l.v l.invariant (omega arith)
