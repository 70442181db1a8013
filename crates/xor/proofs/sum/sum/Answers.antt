-- `xor::sum::sum` meets its contract: the loop adds one stretch after the other.
-- Assumes nothing.
use mathlib.Core.Path.{◌≡◌, refl}
use native.Mathlib.Omega.{arith}
use Rattle.stripes.specs.Fold.{xsum}
use Rattle.xor.specs.Spots.{total_at}
use Rattle.xor.proofs.Added.{length-added}
use Rattle.xor.proofs.Spots.{taken_holds, skipped_holds}
use Rattle.xor.proofs.sum.sum.Goals.{then-takes, else-takes}
use Rattle.xor.proofs.sum.sum.Goals as goal

pub loop-k-init : goal.loop-k-init
unfolding xsum
loop-k-init g c =
    let f = c.fill.ensures in
    record { len = omega arith; sums = λ i b. f.clones i 0 (omega arith) refl }

pub loop-k-preserved : goal.loop-k-preserved
loop-k-preserved g c =
    let a = c.args in
    let l = c.loop-k in
    let r = g.S.Stretches.spots a.stretches in
    elim c.if-takes.branch [
      | then-takes w ↦
          rw w.v-is record {
            len = simp (w.mix.ensures, length-added) l.invariant.len;
            sums = taken_holds r a.a.now g.row.W a.first l.k c.takes.result c.takes.ensures l.v l.invariant.sums w.if-takes.true (omega arith) w.mix.new.v (rw w.start.ensures at w.mix.ensures);
          }
      | else-takes w ↦
          rw w.v-is record {
            len = l.invariant.len;
            sums = skipped_holds r a.a.now g.row.W a.first l.k c.takes.result c.takes.ensures l.v l.invariant.sums w.if-takes.false;
          }
    ]

pub returns-clause-sums : goal.returns-clause-sums
unfolding total_at
returns-clause-sums g c =
    let l = c.loop-k in
    let e : l.k ≡ (g.S.Stretches.spots c.args.stretches).count = omega arith in
    rw e at l.invariant.sums
