-- `chain::rest_is_zero` meets its contract: the groups so far are in order.
-- Assumes nothing.
use mathlib.Core.Path.{sym, ◌∙◌, ap, refl}
use Prim.Native.Nat.{ℕ}
use native.Mathlib.Omega.{arith}
use borrow.Author.Rules.{rules}
use Rattle.stripes.specs.Fold.{every}
use Rattle.chain.specs.Read.{in_order}
use Rattle.chain.proofs.Groups.{group_zero, group_next, group_fails}
use Rattle.chain.proofs.rest_is_zero.Goals.{else-not-all_zero16-via-then-not-all_zero16+else-not-group_in_order, else-not-all_zero16-via-else-not-all_zero16}
use Rattle.chain.proofs.rest_is_zero.Goals as goal

pub loop-at-init : goal.loop-at-init
unfolding every in_order
loop-at-init c = (search rules, search rules, search rules, refl)

pub returns-then-not-group_in_order : goal.returns-then-not-group_in_order
returns-then-not-group_in_order c =
    let l = c.loop-at in
    let a = c.args in
    sym (group_fails a.marks.now a.sheet.now l.at (omega arith) (sym c.group_in_order.ensures ∙ c.if-not-group_in_order.true))

pub loop-at-preserved : goal.loop-at-preserved
loop-at-preserved c =
    let l = c.loop-at in
    let a = c.args in (
      search rules,
      search rules,
      search rules,
      group_next a.marks.now a.sheet.now l.at l.invariant.3
          (elim c.else-not-all_zero16.branch [
            | else-not-all_zero16-via-then-not-all_zero16+else-not-group_in_order w ↦ sym w.group_in_order.ensures ∙ w.if-not-group_in_order.false
            | else-not-all_zero16-via-else-not-all_zero16 w ↦ group_zero a.marks.now a.sheet.now l.at (sym c.all_zero16.ensures ∙ w.if-not-all_zero16.false)
          ]),
    )

pub returns : goal.returns
returns c =
    let l = c.loop-at in
    let a = c.args in
    sym l.invariant.3 ∙ ap (λ (n : ℕ). every n (in_order a.marks.now a.sheet.now)) (omega arith)
