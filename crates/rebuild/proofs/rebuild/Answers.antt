-- `rebuild::rebuild` meets its contract, at each of its six ends.
-- Assumes nothing.
use mathlib.Core.Path.{◌≡◌, ◌∙◌, ap}
use Rattle.std.proofs.Common.{Err}
use borrow.Author.Rules.{rules}
use mathlib.Core.Bool.{true}
use Prim.Native.Nat.{◌/◌}
use native.Mathlib.Omega.{arith}
use lib.ListN.{length}
use Rattle.model.specs.Grid.{sectors_fit}
use Rattle.model.specs.Refusal.{refusal, sector_tests}
use Rattle.model.proofs.Grid.{sector-some, sectors-some, sectors-bound}
use Rattle.model.proofs.Refusal.{sector_fits_lem}
use Rattle.layout.proofs.Numbers.{numbered}
use Rattle.model.specs.Answers.{number, verdict_of, outcome_of}
use Rattle.refusal.proofs.Numbers.{number_some, refused, taken}
use Rattle.plan.proofs.Begun.{unrepaired}
use Rattle.rebuild.proofs.Answers.{array_refused, sheet_refused, no_repairs, Passed, fitting, held, as_plan_lem, Planned, planned, sheets-long, chains_fit, peels, made_is, made-few, count_is, in_map, contradicted, made_them}
use Rattle.rebuild.proofs.rebuild.Goals.{After-at_most-made, Else-limit-eq0, In_ok-test_sectors}
use Rattle.rebuild.proofs.rebuild.Goals as goal

-- The array and the sectors have passed their tests, and then everything has.
array_ok : (c : goal.In_ok-test_sectors) → let a = c.args in
    refusal (sector_tests a.size a.block (length a.array.now) a.sector) ≡ 0
array_ok c = taken c.in_ok-test_sectors.ensures

some-sectors : (c : goal.In_ok-test_sectors) → let a = c.args in sectors_fit (a.block / a.sector) ≡ true
some-sectors c =
    let a = c.args in
    let (array, sector) = sector_fits_lem a.size a.block (length a.array.now) a.sector (array_ok c) in
    sectors-some a.block a.sector array.block sector

passed : (c : goal.Else-limit-eq0) → let a = c.args in
    Passed a.size a.block a.sector a.array.now a.map.now a.sheets.now a.limit
passed c =
    let other = c.if-limit-eq0.false in
    record {
      array = taken c.in_ok-test_sectors.ensures;
      sheets_fit = taken c.in_ok-test_sheets.ensures;
      some = omega arith;
    }

drafted : (c : goal.After-at_most-made) → let a = c.args in
    Planned a.size a.block a.sector a.array.now a.map.now a.sheets.now a.limit
    c.draft-answer.new.sheets c.in-Repairs.count c.at_most-made.result
unfolding verdict_of
drafted c =
    let other = c.if-limit-eq0.false in
    let tests : Passed c.args.size c.args.block c.args.sector c.args.array.now c.args.map.now c.args.sheets.now c.args.limit =
    record {
      array = taken c.in_ok-test_sectors.ensures;
      sheets_fit = taken c.in_ok-test_sheets.ensures;
      some = omega arith;
    } in
    planned tests _ _ c.draft-answer.ensures.outcome c.draft-answer.ensures.sheets _ (ap verdict_of c.in-Repairs.is) _ c.at_most-made.ensures

pub returns-in_err-test_sectors : goal.returns-in_err-test_sectors
unfolding outcome_of
returns-in_err-test_sectors c =
    let a = c.args in
    let same : c.from_residual.result ≡ Err c.in_err-test_sectors.field-0.0 = search rules in
    let status = (refused _ c.in_err-test_sectors.ensures).0 in
    let (h0, (h1, (h2, h3))) = array_refused a.size a.block a.sector a.array.now a.map.now a.sheets.now a.limit _ status (number_some _) in
    record {
      outcome = ap outcome_of same ∙ h0;
      array = h1;
      map = h2;
      sheets = h3;
    }

pub nonzero_div-sectors : goal.nonzero_div-sectors
nonzero_div-sectors c =
    let a = c.args in
    sector-some a.block a.sector (sector_fits_lem a.size a.block (length a.array.now) a.sector (array_ok (goal.at.nonzero_div-sectors c).In_ok-test_sectors)).1

pub test_sheets-requires : goal.test_sheets-requires
test_sheets-requires c =
    let a = c.args in
    record {
      size_value = (sector_fits_lem a.size a.block (length a.array.now) a.sector (array_ok (goal.at.test_sheets-requires c).In_ok-test_sectors)).0.size;
      sectors_value = some-sectors (goal.at.test_sheets-requires c).In_ok-test_sectors;
    }

pub returns-in_err-test_sheets : goal.returns-in_err-test_sheets
unfolding outcome_of
returns-in_err-test_sheets c =
    let a = c.args in
    let same : c.from_residual-in_err-test_sheets.result ≡ Err c.in_err-test_sheets.field-0.0 = search rules in
    let status = (refused _ c.in_err-test_sheets.ensures).0 in
    let (h0, (h1, (h2, h3))) = sheet_refused a.size a.block a.sector a.array.now a.map.now a.sheets.now a.limit (array_ok (goal.at.returns-in_err-test_sheets c).In_ok-test_sectors) _
    status (number_some _) in
    record {
      outcome = ap outcome_of same ∙ h0;
      array = h1;
      map = h2;
      sheets = h3;
    }

pub returns-then-limit-eq0 : goal.returns-then-limit-eq0
unfolding outcome_of number
returns-then-limit-eq0 c =
    let a = c.args in
    let (h0, (h1, (h2, h3))) = no_repairs a.size a.block a.sector a.array.now a.map.now a.sheets.now a.limit
    (array_ok (goal.at.returns-then-limit-eq0 c).In_ok-test_sectors) (taken c.in_ok-test_sheets.ensures) c.if-limit-eq0.true in
    record {
      outcome = h0;
      array = h1;
      map = h2;
      sheets = h3;
    }

pub draft-answer-requires : goal.draft-answer-requires
draft-answer-requires c =
    let f = fitting (passed (goal.at.draft-answer-requires c).Else-limit-eq0) in
    record {
      size_value = f.array.size;
      sectors_value = some-sectors (goal.at.draft-answer-requires c).In_ok-test_sectors;
      map_value = f.map;
      sheets_len = f.long;
    }

pub returns-in_default : goal.returns-in_default
unfolding outcome_of
returns-in_default c =
    let (h0, (h1, (h2, h3))) = as_plan_lem (passed (goal.at.returns-in_default c).Else-limit-eq0) _ _ c.draft-answer.ensures.outcome c.draft-answer.ensures.sheets (unrepaired _ c.in_default.not-Repairs) in
    record {
      outcome = h0;
      array = h1;
      map = h2;
      sheets = h3;
    }

pub invariant_of-grid : goal.invariant_of-grid
invariant_of-grid c =
    record { numbered = numbered c.args.size (fitting (drafted (goal.at.invariant_of-grid c).After-at_most-made).tests).array.size }

pub make-requires : goal.make-requires
make-requires c =
    let a = c.args in
    let p = drafted (goal.at.make-requires c).After-at_most-made in
    let f = fitting p.tests in
    record {
      sectored = held p.tests;
      map_value = f.map;
      sheets_len = sheets-long p;
      by_index = chains_fit p;
      peels = peels p;
      made_value = made_is p;
      made_le_count = made-few p;
      count_value = count_is p;
    }

pub zero_all-requires : goal.zero_all-requires
zero_all-requires c = sheets-long (drafted (goal.at.zero_all-requires c).After-at_most-made)

pub returns-then-not-make : goal.returns-then-not-make
unfolding outcome_of verdict_of number
returns-then-not-make c =
    let (h0, (h1, (h2, h3))) = contradicted (drafted (goal.at.returns-then-not-make c).After-at_most-made) _ c.make.ensures.answer (c.if-not-make.true)
    _ _ c.make.ensures.array c.zero_all.ensures in
    record {
      outcome = h0;
      array = h1;
      map = h2;
      sheets = h3;
    }

pub mark_present-requires : goal.mark_present-requires
mark_present-requires c =
    let p = drafted (goal.at.mark_present-requires c).After-at_most-made in
    let a = c.args in
    record {
      sectors_bound = (sectors-bound (a.block / a.sector) (some-sectors (goal.at.mark_present-requires c).In_ok-test_sectors)).1;
      sheets_len = sheets-long p;
      by_index = chains_fit p;
      within = in_map p;
    }

pub returns : goal.returns
unfolding outcome_of verdict_of
returns c =
    let (h0, (h1, (h2, h3))) = made_them (drafted (goal.at.returns c).After-at_most-made) _ c.make.ensures.answer
    (c.if-not-make.false) _ _ c.make.ensures.array c.mark_present.ensures in
    record {
      outcome = h0;
      array = h1;
      map = h2;
      sheets = h3;
    }
