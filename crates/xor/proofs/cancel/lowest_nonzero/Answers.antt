-- `xor::cancel::lowest_nonzero` meets its contract: every sum so far is zero.
-- Assumes nothing.
use mathlib.Core.Path.{◌∙◌, sym, ap}
use mathlib.Core.Bool.{not}
use native.Mathlib.Nat.{le_refl, not-suc-le_self}
use native.Mathlib.Omega.{arith}
use Rattle.stripes.proofs.Fold.{lowest_is, lowest_unique}
use Rattle.xor.proofs.cancel.lowest_nonzero.Goals as goal

pub returns-then-not-cancels : goal.returns-then-not-cancels
returns-then-not-cancels c =
    let a = c.args in
    let l = c.loop-i in
    lowest_unique a.total _ l.i _
    (record { within = omega arith; none = λ k h. ap not (l.invariant k h); found = λ h. ap not (sym c.cancels.ensures ∙ c.if-not-cancels.true) })
    (lowest_is a.total _)

pub returns : goal.returns
returns c =
    let a = c.args in
    let l = c.loop-i in
    lowest_unique a.total _ a.total _
    (record { within = le_refl _; none = λ k h. ap not (l.invariant k (omega arith)); found = λ h. absurd (not-suc-le_self _ h) })
    (lowest_is a.total _)
