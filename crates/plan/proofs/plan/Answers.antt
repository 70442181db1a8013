-- `plan::plan` meets its contract: each refusal keeps the sheets; else they are the draft's, whose limit no loss reaches.
-- Assumes nothing.
use mathlib.Core.Path.{◌≡◌, sym, ◌∙◌, ap}
use Rattle.std.proofs.Common.{Err}
use borrow.Author.Rules.{rules}
use mathlib.Core.Bool.{true}
use native.Mathlib.Omega.{arith}
use lib.ListN.{length}
use Rattle.stripes.specs.Erased.{erasures}
use Rattle.model.specs.Grid.{size_fits, sectors_fit}
use Rattle.model.specs.Refusal.{refusal}
use Rattle.model.specs.Plan.{sheet_tests}
use Rattle.model.proofs.Accept.{sheet_fits}
use Rattle.model.proofs.Grid.{sectors-bound}
use Rattle.model.specs.Answers.{number, outcome_of}
use Rattle.refusal.proofs.Numbers.{number_some, refused, taken}
use Rattle.plan.proofs.Answers.{refused_size, refused_sectors, refused_sheets, planned}
use Rattle.plan.proofs.Begun.{all_few}
use Rattle.plan.proofs.plan.Goals.{Else-not-sectors_fit, Else-not-size_fits, In_ok-test_sheets}
use Rattle.plan.proofs.plan.Goals as goal

-- What each test that was passed has shown.
sized : (c : goal.Else-not-size_fits) → size_fits c.args.size ≡ true
sized c = sym c.size_fits.ensures ∙ c.if-not-size_fits.false

cut : (c : goal.Else-not-sectors_fit) → sectors_fit c.args.sectors ≡ true
cut c = sym c.sectors_fit.ensures ∙ c.if-not-sectors_fit.false

tested : (c : goal.In_ok-test_sheets) → let a = c.args in
    refusal (sheet_tests a.size a.sectors a.map.now (length a.sheets.now)) ≡ 0
tested c = taken c.in_ok-test_sheets.ensures

pub returns-then-not-size_fits : goal.returns-then-not-size_fits
unfolding outcome_of number
returns-then-not-size_fits c =
    let (h0, h1) = refused_size _ _ _ _ (sym c.size_fits.ensures ∙ c.if-not-size_fits.true) in
    record {
      outcome = h0;
      sheets = h1;
    }

pub returns-then-not-sectors_fit : goal.returns-then-not-sectors_fit
unfolding outcome_of number
returns-then-not-sectors_fit c =
    let (h0, h1) = refused_sectors _ _ _ _ (sized (goal.at.returns-then-not-sectors_fit c).Else-not-size_fits) (sym c.sectors_fit.ensures ∙ c.if-not-sectors_fit.true) in
    record {
      outcome = h0;
      sheets = h1;
    }

pub returns-in_err-test_sheets : goal.returns-in_err-test_sheets
unfolding outcome_of
returns-in_err-test_sheets c =
    let same : c.from_residual.result ≡ Err c.in_err-test_sheets.field-0.0 = search rules in
    let status = (refused _ c.in_err-test_sheets.ensures).0 in
    let (h0, h1) = refused_sheets _ _ _ _ (sized (goal.at.returns-in_err-test_sheets c).Else-not-size_fits) (cut (goal.at.returns-in_err-test_sheets c).Else-not-sectors_fit) _ status (number_some _) in
    record {
      outcome = ap outcome_of same ∙ h0;
      sheets = h1;
    }

pub overflow_mul-sectors : goal.overflow_mul-sectors
overflow_mul-sectors c = let few = (sectors-bound _ (cut (goal.at.overflow_mul-sectors c).Else-not-sectors_fit)).1 in omega arith

pub draft-requires-clause-map_value : goal.draft-requires-clause-map_value
draft-requires-clause-map_value c = (sheet_fits _ _ _ _ (tested (goal.at.draft-requires-clause-map_value c).In_ok-test_sheets)).0

pub draft-requires-clause-sheets_len : goal.draft-requires-clause-sheets_len
draft-requires-clause-sheets_len c = (sheet_fits _ _ _ _ (tested (goal.at.draft-requires-clause-sheets_len c).In_ok-test_sheets)).1

pub returns : goal.returns
unfolding outcome_of
returns c =
    let a = c.args in
    let size = sized (goal.at.returns c).Else-not-size_fits in
    let (h0, h1) = planned a.size a.sectors a.map.now a.sheets.now size (cut (goal.at.returns c).Else-not-sectors_fit) (tested (goal.at.returns c).In_ok-test_sheets) _
    (all_few a.size size a.sectors (erasures a.map.now)) _ _
    c.draft.ensures.outcome c.draft.ensures.sheets in
    record {
      outcome = h0;
      sheets = h1;
    }
