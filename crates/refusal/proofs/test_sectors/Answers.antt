-- `refusal::test_sectors` meets its contract: each return is the first test that fails.
-- Assumes nothing.
use Rattle.std.proofs.Common.{◌≡◌, Err}
use mathlib.Core.Path.{◌∙◌, sym, ap}
use borrow.Author.Rules.{rules}
use Rattle.model.specs.Refusal.{sector_tests}
use Rattle.model.proofs.Refusal.{fails, refused_first, array-fits, array_passed, sector-accepted}
use Rattle.model.specs.Answers.{number, status_of}
use Rattle.refusal.proofs.Numbers.{refused, taken}
use Rattle.refusal.proofs.test_sectors.Goals as goal

pub returns-in_err-test_array : goal.returns-in_err-test_array
unfolding sector_tests
returns-in_err-test_array c =
    let same : c.from_residual.result ≡ Err c.in_err-test_array.field-0.0 = search rules in
    let e = c.in_err-test_array.ensures in
    ap status_of same ∙ e ∙ sym (refused_first _ _ (refused _ e).1)

pub returns-then-not-sector_fits : goal.returns-then-not-sector_fits
unfolding sector_tests status_of number
returns-then-not-sector_fits c =
    let passed = taken c.in_ok-test_array.ensures in
    sym (array_passed _ _ _ (array-fits _ _ _ passed) _ ∙ fails 16 _ _ (sym c.sector_fits.ensures ∙ c.if-not-sector_fits.true))

pub returns : goal.returns
unfolding status_of
returns c =
    let passed = taken c.in_ok-test_array.ensures in
    sym (sector-accepted _ _ _ _ (array-fits _ _ _ passed) (sym c.sector_fits.ensures ∙ c.if-not-sector_fits.false))
