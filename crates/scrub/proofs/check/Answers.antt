-- `scrub::check` meets its contract: the lowest stripe whose sum is not zero, where there is one.
-- Assumes nothing.
use mathlib.Core.Path.{◌≡◌, ◌∙◌, sym, ap}
use native.Mathlib.Omega.{arith}
use lib.ListN.{length}
use Rattle.stripes.specs.System.{whole}
use Rattle.model.specs.Refusal.{refusal, array_tests}
use Rattle.model.specs.Checked.{Refused}
use Rattle.model.proofs.Refusal.{array-fits}
use Rattle.model.proofs.Demand2.{check_refused}
use Rattle.layout.proofs.Numbers.{numbered}
use Rattle.sums.proofs.Whole.{held}
use Rattle.scrub.proofs.Answer.{unsealed, sealed}
use Rattle.scrub.proofs.check.Goals.{In_ok-test_array}
use Rattle.std.proofs.Common.{Err}
use borrow.Author.Rules.{rules}
use Rattle.model.specs.Answers.{checked_of}
use Rattle.refusal.proofs.Numbers.{refused, taken}
use Rattle.scrub.proofs.check.Goals as goal

-- Past the tests, nothing is refused.
accepted : (c : goal.In_ok-test_array) → let a = c.args in refusal (array_tests a.size a.block (length a.array.now)) ≡ 0
accepted c = taken c.in_ok-test_array.ensures

pub returns-in_err-test_array : goal.returns-in_err-test_array
unfolding checked_of
returns-in_err-test_array c =
    let same : c.from_residual.result ≡ Err c.in_err-test_array.field-0.0 = search rules in
    let (status, some) = refused _ c.in_err-test_array.ensures in
    ap checked_of same ∙ ap Refused status ∙ sym (check_refused _ _ _ some)

pub lowest_nonzero-lowest-requires : goal.lowest_nonzero-lowest-requires
unfolding whole
lowest_nonzero-lowest-requires c =
    record { held = held _ _ _ (array-fits _ _ _ (accepted (goal.at.lowest_nonzero-lowest-requires c).In_ok-test_array)) }

pub invariant_of-grid : goal.invariant_of-grid
invariant_of-grid c = record { numbered = numbered _ (array-fits _ _ _ (accepted (goal.at.invariant_of-grid c).In_ok-test_array)).size }

pub returns-then-lowest-bound : goal.returns-then-lowest-bound
unfolding whole checked_of
returns-then-lowest-bound c = let b = c.bound.ensures in let h = c.if-lowest-bound.true in unsealed _ _ _ (accepted (goal.at.returns-then-lowest-bound c).In_ok-test_array) _ c.lowest_nonzero-lowest.ensures (omega arith)

pub returns : goal.returns
unfolding whole checked_of
returns c = let b = c.bound.ensures in let h = c.if-lowest-bound.false in sealed _ _ _ (accepted (goal.at.returns c).In_ok-test_array) _ c.lowest_nonzero-lowest.ensures (omega arith)
