-- `follow::follow` meets its contract, at each of its six ends.
-- Assumes nothing.
use mathlib.Core.Path.{◌≡◌, ◌∙◌, sym}
use mathlib.Core.Bool.{true}
use Prim.Native.Nat.{◌/◌}
use lib.ListN.{length}
use Rattle.stripes.specs.Erased.{erasures}
use Rattle.stripes.specs.Repair.{clears}
use Rattle.stripes.proofs.Clears.{clears_peels}
use Rattle.model.specs.Grid.{array_bytes, sectors_fit}
use Rattle.model.specs.Refusal.{refusal, sector_tests}
use Rattle.model.specs.Rebuild.{buffer_refusal}
use Rattle.model.proofs.Grid.{sector-some, sectors-some}
use Rattle.model.proofs.Refusal.{sector_fits_lem}
use Rattle.model.proofs.Accept.{BuffersFit, buffers_fit}
use Rattle.model.proofs.Follow.{sectors, listed}
use Rattle.layout.proofs.Numbers.{numbered}
use Rattle.restore.specs.Restored.{Sectored}
use Rattle.follow.proofs.Answers.{array_refused, tests_left, sheet_refused, unclean, chains_fit, steps_refused, agreed, contradicted}
use Rattle.follow.proofs.follow.Goals.{Else-not-all_clear, In_ok-test_sectors, In_ok-test_sheets}
use Rattle.std.proofs.Common.{ap, Err}
use borrow.Author.Rules.{rules}
use Rattle.model.specs.Answers.{number, repairs_of}
use Rattle.refusal.proofs.Numbers.{number_some, refused, taken}
use Rattle.chain.specs.Read.{chain_of}
use Rattle.follow.proofs.follow.Goals as goal

-- The array and the sectors have passed their tests,
sized : (c : goal.In_ok-test_sectors) → let a = c.args in
    refusal (sector_tests a.size a.block (length a.array.now) a.sector) ≡ 0
sized c = taken c.in_ok-test_sectors.ensures

some-sectors : (c : goal.In_ok-test_sectors) → let a = c.args in sectors_fit (a.block / a.sector) ≡ true
some-sectors c =
    let a = c.args in
    let (array, sector) = sector_fits_lem a.size a.block (length a.array.now) a.sector (sized c) in
    sectors-some a.block a.sector array.block sector

passed : (c : goal.In_ok-test_sheets) → let a = c.args in
    buffer_refusal a.size a.block a.sector a.array.now a.map.now a.sheets.now ≡ 0
passed c =
    let a = c.args in
    tests_left a.size a.block a.sector a.array.now a.map.now a.sheets.now (taken c.in_ok-test_sectors.ensures)
    ∙ taken c.in_ok-test_sheets.ensures

fit : (c : goal.In_ok-test_sheets) → let a = c.args in
    BuffersFit a.size a.block a.sector a.array.now a.map.now a.sheets.now
fit c = buffers_fit _ _ _ _ _ _ (passed c)

held : (c : goal.In_ok-test_sheets) → let a = c.args in Sectored a.size a.block a.sector a.array.now
unfolding array_bytes
held c = let f = fit c in record { block = f.array.block; sector = f.sector; sized = f.array.long }

-- Every step is allowed, and nothing is left erased.
cleared : (c : goal.Else-not-all_clear) → let a = c.args in
    clears (sectors a.size a.block a.sector) (erasures a.map.now) (listed a.block a.sector a.sheets.now) ≡ true
cleared c = sym c.all_clear.ensures ∙ c.if-not-all_clear.false

pub returns-in_err-test_sectors : goal.returns-in_err-test_sectors
unfolding repairs_of
returns-in_err-test_sectors c =
    let a = c.args in
    let same : c.from_residual.result ≡ Err c.in_err-test_sectors.field-0.0 = search rules in
    let status = (refused _ c.in_err-test_sectors.ensures).0 in
    let (h0, h1) = array_refused a.size a.block a.sector a.array.now a.map.now a.sheets.now _ status (number_some _) in
    record {
      outcome = ap repairs_of same ∙ h0;
      array = h1;
    }

pub nonzero_div-sectors : goal.nonzero_div-sectors
nonzero_div-sectors c =
    let a = c.args in
    sector-some a.block a.sector (sector_fits_lem a.size a.block (length a.array.now) a.sector (sized (goal.at.nonzero_div-sectors c).In_ok-test_sectors)).1

pub test_sheets-requires : goal.test_sheets-requires
test_sheets-requires c =
    let a = c.args in
    record {
      size_value = (sector_fits_lem a.size a.block (length a.array.now) a.sector (sized (goal.at.test_sheets-requires c).In_ok-test_sectors)).0.size;
      sectors_value = some-sectors (goal.at.test_sheets-requires c).In_ok-test_sectors;
    }

pub returns-in_err-test_sheets : goal.returns-in_err-test_sheets
unfolding repairs_of
returns-in_err-test_sheets c =
    let a = c.args in
    let same : c.from_residual-in_err-test_sheets.result ≡ Err c.in_err-test_sheets.field-0.0 = search rules in
    let status = (refused _ c.in_err-test_sheets.ensures).0 in
    let (h0, h1) = sheet_refused a.size a.block a.sector a.array.now a.map.now a.sheets.now (sized (goal.at.returns-in_err-test_sheets c).In_ok-test_sectors) _ status (number_some _) in
    record {
      outcome = ap repairs_of same ∙ h0;
      array = h1;
    }

pub read_all-requires-clause-sectors_value : goal.read_all-requires-clause-sectors_value
read_all-requires-clause-sectors_value c = some-sectors (goal.at.read_all-requires-clause-sectors_value c).In_ok-test_sectors

pub read_all-requires-clause-sheets_len : goal.read_all-requires-clause-sheets_len
read_all-requires-clause-sheets_len c = (fit (goal.at.read_all-requires-clause-sheets_len c).In_ok-test_sheets).long

pub returns-in_err-count : goal.returns-in_err-count
unfolding repairs_of chain_of
returns-in_err-count c =
    let same : c.from_residual-in_err-count.result ≡ Err c.in_err-count.field-0.0 = search rules in
    let (h0, h1) = unclean _ _ _ _ _ _ (passed (goal.at.returns-in_err-count c).In_ok-test_sheets) _ c.read_all.ensures _ (ap chain_of c.in_err-count.was) in
    record {
      outcome = ap repairs_of same ∙ h0;
      array = h1;
    }

pub invariant_of-grid : goal.invariant_of-grid
invariant_of-grid c = record { numbered = numbered c.args.size (fit (goal.at.invariant_of-grid c).In_ok-test_sheets).array.size }

-- The chain of each sheet fits.
pub all_clear-requires : goal.all_clear-requires
unfolding chain_of
all_clear-requires c =
    let f = fit (goal.at.all_clear-requires c).In_ok-test_sheets in
    record {
      sectors_value = some-sectors (goal.at.all_clear-requires c).In_ok-test_sectors;
      map_value = f.map;
      sheets_len = f.long;
      by_index = chains_fit _ _ _ _ _ _ (passed (goal.at.all_clear-requires c).In_ok-test_sheets) _ c.read_all.ensures _ (ap chain_of c.in_ok-count.was);
    }

pub returns-then-not-all_clear : goal.returns-then-not-all_clear
unfolding chain_of repairs_of number
returns-then-not-all_clear c =
    let (h0, h1) = steps_refused _ _ _ _ _ _ (passed (goal.at.returns-then-not-all_clear c).In_ok-test_sheets) _ c.read_all.ensures _ (ap chain_of c.in_ok-count.was)
    (sym c.all_clear.ensures ∙ c.if-not-all_clear.true) in
    record {
      outcome = h0;
      array = h1;
    }

pub restore-requires : goal.restore-requires
unfolding chain_of
restore-requires c =
    let a = c.args in
    let f = fit (goal.at.restore-requires c).In_ok-test_sheets in
    record {
      sectored = held (goal.at.restore-requires c).In_ok-test_sheets;
      map_value = f.map;
      sheets_len = f.long;
      by_index = chains_fit _ _ _ _ _ _ (passed (goal.at.restore-requires c).In_ok-test_sheets) _ c.read_all.ensures _ (ap chain_of c.in_ok-count.was);
      peels = clears_peels (sectors a.size a.block a.sector) (erasures a.map.now) _ (cleared (goal.at.restore-requires c).Else-not-all_clear);
    }

pub returns-then-not-restore : goal.returns-then-not-restore
unfolding chain_of repairs_of number
returns-then-not-restore c =
    let (h0, h1) = contradicted _ _ _ _ _ _ (passed (goal.at.returns-then-not-restore c).In_ok-test_sheets) _ c.read_all.ensures _ (ap chain_of c.in_ok-count.was) (cleared (goal.at.returns-then-not-restore c).Else-not-all_clear)
    _ c.restore.ensures.array (sym c.restore.ensures.answer ∙ c.if-not-restore.true) in
    record {
      outcome = h0;
      array = h1;
    }

pub returns : goal.returns
unfolding chain_of repairs_of number
returns c =
    let (h0, h1) = agreed _ _ _ _ _ _ (passed (goal.at.returns c).In_ok-test_sheets) _ c.read_all.ensures _ (ap chain_of c.in_ok-count.was) (cleared (goal.at.returns c).Else-not-all_clear)
    _ c.restore.ensures.array (sym c.restore.ensures.answer ∙ c.if-not-restore.false) in
    record {
      outcome = h0;
      array = h1;
    }
