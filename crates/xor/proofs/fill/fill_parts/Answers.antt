-- `xor::fill::fill_parts` meets its contract: after each turn W places more hold the sum.
-- Assumes nothing.
use Prim.Native.Nat.{◌+◌}
use native.Mathlib.Omega.{arith}
use Rattle.xor.specs.Spots.{total_at}
use Rattle.xor.proofs.Parts.{filled_none, turned}
use Rattle.xor.proofs.Spots.{clear_aside}
use Rattle.xor.proofs.fill.fill_parts.Goals as goal

pub loop-i-init : goal.loop-i-init
loop-i-init g c = filled_none g.row.W c.args.a.now (c.args.first + c.args.gap) (total_at (g.S.Stretches.spots c.args.stretches) c.args.a.now) c.args.first

pub loop-i-preserved : goal.loop-i-preserved
loop-i-preserved g c =
    let l = c.loop-i in
    turned g.row.W c.args.parts (clear_aside c.requires) l.i c.loop-i-test.true l.a l.invariant c.sum.new.v c.put.new.a _ c.sum.ensures.sums (omega arith) c.put.ensures
