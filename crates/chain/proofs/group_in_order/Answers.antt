-- `chain::group_in_order` meets its contract: the bytes so far are in order.
-- Assumes nothing.
use mathlib.Core.Path.{sym, refl}
use Prim.Native.Nat.{◌+◌}
use native.Mathlib.Numerals.{add-one}
use borrow.Author.Rules.{rules}
use Rattle.stripes.specs.Fold.{every}
use Rattle.stripes.proofs.Fold.{and_both, every-not}
use Rattle.chain.proofs.Groups.{off_and_not_zero, zero-byte, on_record}
use Rattle.chain.proofs.group_in_order.Goals.{else-sheet-at-ne0-via-then-sheet-at-ne0+else-marks-at-ne1, else-sheet-at-ne0-via-else-sheet-at-ne0}
use Rattle.chain.proofs.group_in_order.Goals as goal

pub loop-j-init : goal.loop-j-init
unfolding every
loop-j-init c = refl

pub returns-then-marks-at-ne1 : goal.returns-then-marks-at-ne1
returns-then-marks-at-ne1 c =
    let j = c.loop-j.j in
    let a = c.args in
    sym
    (every-not 16 _ j (search rules)
    (off_and_not_zero a.marks.now a.sheet.now (a.at + j) (search rules) c.if-sheet-at-ne0.true c.if-marks-at-ne1.true))

pub loop-j-preserved : goal.loop-j-preserved
unfolding every
loop-j-preserved c =
    let a = c.args in
    let l = c.loop-j in
    rw add-one
    (and_both l.invariant
    (elim c.else-sheet-at-ne0.branch [
      | else-sheet-at-ne0-via-then-sheet-at-ne0+else-marks-at-ne1 w ↦ on_record a.marks.now a.sheet.now (a.at + l.j) w.if-marks-at-ne1.false
      | else-sheet-at-ne0-via-else-sheet-at-ne0 w ↦ zero-byte a.marks.now a.sheet.now (a.at + l.j) w.if-sheet-at-ne0.false
    ]))
