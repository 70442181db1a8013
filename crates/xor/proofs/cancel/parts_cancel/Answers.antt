-- `xor::cancel::parts_cancel` meets its contract: the sums so far are all zero.
-- Assumes nothing.
use Rattle.xor.specs.Spots.{total_at}
use Rattle.xor.proofs.Parts.{zero-none, turn_fails, turn_passes}
use Rattle.xor.proofs.cancel.parts_cancel.Goals as goal

pub loop-i-init : goal.loop-i-init
loop-i-init g c = zero-none (total_at (g.S.Stretches.spots c.args.stretches) c.args.a.now) c.args.first g.row.W

pub returns-then-not-is_zero : goal.returns-then-not-is_zero
returns-then-not-is_zero g c =
    let a = c.args in
    turn_fails (total_at (g.S.Stretches.spots a.stretches) a.a.now) g.row.W a.first a.parts c.loop-i.i c.loop-i-test.true
    c.sum.new.v c.is_zero.result c.sum.ensures.sums c.is_zero.ensures c.if-not-is_zero.true

pub loop-i-preserved : goal.loop-i-preserved
loop-i-preserved g c =
    let a = c.args in
    turn_passes (total_at (g.S.Stretches.spots a.stretches) a.a.now) g.row.W a.first a.parts c.loop-i.i c.loop-i-test.true
    c.sum.new.v c.is_zero.result c.sum.ensures.sums c.is_zero.ensures c.loop-i.invariant c.if-not-is_zero.false
