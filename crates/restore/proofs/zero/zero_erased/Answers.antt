-- `restore::zero::zero_erased` meets its contract: after i turns the erased sectors below number i are zero.
-- Assumes nothing.
use mathlib.Core.Path.{◌∙◌, ap}
use Prim.Native.Nat.{ℕ}
use native.Mathlib.Omega.{arith}
use borrow.Author.Tests.{eq-eqb, ne_eqb}
use lib.ListN.{length}
use Rattle.stripes.specs.System.{whole}
use Rattle.stripes.specs.Erased.{erasures, below}
use Rattle.stripes.specs.Repair.{zeroed}
use Rattle.restore.proofs.Zeros.{zeroed-none, zeroed-present, zeroed-erased, zeroed_all}
use Rattle.restore.proofs.zero.zero_erased.Goals.{In-loop-i, then-map-i-eq1, else-map-i-eq1}
use Rattle.restore.proofs.zero.zero_erased.Goals as goal

pub loop-i-init : goal.loop-i-init
loop-i-init c =
    let a = c.args in
    zeroed-none a.sector (length a.map.now) a.array.now c.requires.array_len (erasures a.map.now)

pub loop-i-preserved : goal.loop-i-preserved
unfolding erasures
loop-i-preserved c =
    let a = c.args in
    let l = c.loop-i in
    let e = erasures a.map.now in
    let more = c.loop-i-test.true in
    elim c.if-map-i-eq1.branch [
      | then-map-i-eq1 w ↦
          w.array-is ∙ w.wipe.ensures
          ∙ zeroed-erased a.sector (length a.map.now) a.array.now c.requires.array_len e l.i more l.array l.invariant
          (eq-eqb _ 1 w.if-map-i-eq1.true)
      | else-map-i-eq1 w ↦
          w.array-is
          ∙ zeroed-present a.sector (length a.map.now) a.array.now c.requires.array_len e l.i more l.array l.invariant
          (ne_eqb _ 1 w.if-map-i-eq1.false)
    ]

pub returns : goal.returns
returns c =
    let a = c.args in
    let l = c.loop-i in
    l.invariant
    ∙ ap (λ (n : ℕ). zeroed (whole a.sector) a.array.now (below n (erasures a.map.now))) (omega arith)
    ∙ zeroed_all a.sector (length a.map.now) a.array.now c.requires.array_len (erasures a.map.now)
