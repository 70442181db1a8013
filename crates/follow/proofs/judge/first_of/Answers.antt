-- `follow::judge::first_of` meets its contract, at each of its three ends.
-- Assumes nothing.
use Rattle.std.proofs.Common.{refl, sym}
use native.Mathlib.Omega.{arith}
use Rattle.model.specs.Answers.{number_if}
use Rattle.refusal.proofs.Numbers.{number_some}
use Rattle.follow.proofs.Judged.{first-none, lower_second, lower_first_lem}
use Rattle.follow.proofs.judge.first_of.Goals as goal

pub returns-in_default : goal.returns-in_default
unfolding number_if
returns-in_default c = rw c.in_default.is (sym (first-none _ _ refl))

pub returns-then-number : goal.returns-then-number
unfolding number_if
returns-then-number c =
    let h = c.if-number.true in
    let one = c.number-2.ensures in
    let other = c.number.ensures in
    rw c.in-Some.is (sym (lower_second _ _ (number_some _) (omega arith)))

pub returns : goal.returns
unfolding number_if
returns c =
    let h = c.if-number.false in
    let one = c.number-2.ensures in
    let other = c.number.ensures in
    rw c.in-Some.is (sym (lower_first_lem _ _ (number_some _) (omega arith)))
