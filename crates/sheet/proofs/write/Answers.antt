-- `sheet::write` meets its contract: each turn writes one record more.
-- Assumes nothing.
use Rattle.std.proofs.Common.{rules}
use Rattle.sheet.proofs.Written.{written_next, written_none}
use Rattle.sheet.proofs.write.Goals as goal

pub loop-k-init : goal.loop-k-init
loop-k-init c = written_none _ _ c.zero.ensures

pub loop-k-preserved : goal.loop-k-preserved
loop-k-preserved c =
    let l = c.loop-k in
    written_next _ _ _ l.k _ _ (search rules) l.invariant c.disk_of.ensures c.stripe_of.ensures
