-- `wanted::plan_disk` meets its contract: each refusal keeps the sheet; else it has the list that was found, or plan's draft where there is
-- none.
-- Assumes nothing.
use mathlib.Core.Path.{◌≡◌, refl, sym, ◌∙◌, ap}
use Rattle.std.proofs.Common.{Err}
use mathlib.Core.Bool.{true}
use Prim.Native.Nat.{ℕ}
use native.Mathlib.Omega.{arith}
use borrow.Author.Rules.{rules}
use lib.ListN.{length}
use Rattle.model.specs.Grid.{size_fits, sectors_fit, map_fits}
use Rattle.model.specs.Refusal.{refusal}
use Rattle.model.specs.Plan.{one_tests}
use Rattle.model.specs.PlanDisk.{can_be_wanted}
use Rattle.model.proofs.Grid.{one_byte}
use Rattle.model.proofs.Accept.{one-fits}
use Rattle.layout.proofs.Numbers.{numbered}
use Rattle.model.specs.Answers.{number, verdict_of, outcome_of}
use Rattle.refusal.proofs.Numbers.{number_some, refused, taken}
use Rattle.wanted.proofs.Answers.{size-first, size_passed, is_wanted, refused_plan, refused_disk, unreached, small, reaches}
use Rattle.wanted.proofs.plan_disk.Goals.{Else-not-can_be_wanted, Else-not-size_fits, In_ok-test_sheets}
use Rattle.wanted.proofs.plan_disk.Goals as goal

-- What each test that was passed has shown.
sized : (c : goal.Else-not-size_fits) → size_fits c.args.size ≡ true
sized c = sym c.size_fits.ensures ∙ c.if-not-size_fits.false

tested : (c : goal.In_ok-test_sheets) → let a = c.args in
    refusal (one_tests a.size a.map.now (length a.sheet.now)) ≡ 0
tested c = size_passed _ _ _ (sym c.size_fits.ensures ∙ c.if-not-size_fits.false) ∙ taken c.in_ok-test_sheets.ensures

can : (c : goal.Else-not-can_be_wanted) → let a = c.args in
    can_be_wanted a.size a.map.now a.disk ≡ true
can c = sym c.can_be_wanted.ensures ∙ c.if-not-can_be_wanted.false

pub returns-then-not-size_fits : goal.returns-then-not-size_fits
unfolding outcome_of number
returns-then-not-size_fits c =
    let (h0, h1) = refused_plan _ _ _ _ 1 (size-first _ _ _ (sym c.size_fits.ensures ∙ c.if-not-size_fits.true)) (λ q. omega arith) in
    record {
      outcome = h0;
      sheet = h1;
    }

pub test_sheets-requires-clause-sectors_value : goal.test_sheets-requires-clause-sectors_value
unfolding sectors_fit
test_sheets-requires-clause-sectors_value c = refl

pub returns-in_err-test_sheets : goal.returns-in_err-test_sheets
unfolding outcome_of
returns-in_err-test_sheets c =
    let same : c.from_residual.result ≡ Err c.in_err-test_sheets.field-0.0 = search rules in
    let status = (refused _ c.in_err-test_sheets.ensures).0 in
    let (h0, h1) = refused_plan _ _ _ _ _ (size_passed _ _ _ (sized (goal.at.returns-in_err-test_sheets c).Else-not-size_fits) ∙ sym status) (number_some _) in
    record {
      outcome = ap outcome_of same ∙ h0;
      sheet = h1;
    }

pub can_be_wanted-requires : goal.can_be_wanted-requires
can_be_wanted-requires c = (one-fits _ _ _ (tested (goal.at.can_be_wanted-requires c).In_ok-test_sheets)).1

pub returns-then-not-can_be_wanted : goal.returns-then-not-can_be_wanted
unfolding outcome_of number
returns-then-not-can_be_wanted c =
    let (h0, h1) = refused_disk _ _ _ _ (tested (goal.at.returns-then-not-can_be_wanted c).In_ok-test_sheets) (sym c.can_be_wanted.ensures ∙ c.if-not-can_be_wanted.true) in
    record {
      outcome = h0;
      sheet = h1;
    }

pub invariant_of-grid : goal.invariant_of-grid
invariant_of-grid c = record { numbered = numbered _ (sized (goal.at.invariant_of-grid c).Else-not-size_fits) }

pub find-requires : goal.find-requires
find-requires c =
    let (size, map, long) = one-fits _ _ _ (tested (goal.at.find-requires c).In_ok-test_sheets) in
    record {
      map_value = map;
      disk_value = (is_wanted _ _ _ (can (goal.at.find-requires c).Else-not-can_be_wanted)).1;
      capacity_in_bounds = search rules;
    }

pub draft-requires : goal.draft-requires
unfolding sectors_fit
draft-requires c =
    let a = c.args in
    let (size, map, long) = one-fits _ _ _ (tested (goal.at.draft-requires c).In_ok-test_sheets) in
    record {
      size_value = size;
      sectors_value = refl;
      map_value = ap (λ (k : ℕ). map_fits k a.map.now) (one_byte a.size) ∙ map;
      sheets_len = long;
    }

pub returns-in_default : goal.returns-in_default
unfolding outcome_of
returns-in_default c =
    let at = goal.at.returns-in_default c in
    let (h0, h1) = unreached _ _ _ _ (tested at.In_ok-test_sheets) (can at.Else-not-can_be_wanted) c.in_default.ensures 32 _ _ c.draft.ensures.outcome c.draft.ensures.sheets in
    record {
      outcome = h0;
      sheet = h1;
    }

pub write-requires : goal.write-requires
write-requires c =
    let at = goal.at.write-requires c in
    let s = c.args.sheet.now in
    let fits = small _ _ s _ (tested at.In_ok-test_sheets) (can at.Else-not-can_be_wanted) c.in-Some.ensures in
    let few = fits.few in
    record {
      sheet_len = (one-fits _ _ _ (tested at.In_ok-test_sheets)).2;
      count_le_records = few;
      count_in_bounds = search rules;
      by_index = fits.stripe;
    }

pub returns : goal.returns
unfolding outcome_of verdict_of
returns c =
    let at = goal.at.returns c in
    let (h0, h1) = reaches _ _ _ _ (tested at.In_ok-test_sheets) (can at.Else-not-can_be_wanted) c.in-Some.ensures _ c.write.ensures in
    record {
      outcome = h0;
      sheet = h1;
    }
