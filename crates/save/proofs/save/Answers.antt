-- `save::save` meets its contract: refusals in order, then the survivors decide.
-- Assumes nothing.
use mathlib.Core.Path.{◌≡◌, sym, ◌∙◌}
use Rattle.std.proofs.Common.{ap, Err}
use borrow.Author.Rules.{rules}
use mathlib.Core.Bool.{true}
use Prim.Native.Nat.{◌/◌}
use lib.ListN.{length}
use Rattle.model.specs.Grid.{map_bytes, map_fits}
use Rattle.model.specs.Refusal.{refusal, sector_tests}
use Rattle.model.specs.Answers.{number, saving_of}
use Rattle.refusal.proofs.Numbers.{number_some, refused, taken}
use Rattle.save.proofs.Answers.{refused_array, refused_map, some_bytes, sectors_fit_lem, is_numbered, is_sectored, array-few, byte_each, contradicted, determined-saved}
use Rattle.save.proofs.save.Goals.{Else-not-map_fits, In_ok-test_sectors}
use Rattle.save.proofs.save.Goals as goal

pub returns-in_err-test_sectors : goal.returns-in_err-test_sectors
unfolding saving_of
returns-in_err-test_sectors c =
    let a = c.args in
    let same : c.from_residual.result ≡ Err c.in_err-test_sectors.field-0.0 = search rules in
    let status = (refused _ c.in_err-test_sectors.ensures).0 in
    let (h0, h1) = refused_array a.size a.block a.sector a.array.now a.map.now status (number_some _) in
    record {
      answer = ap saving_of same ∙ h0;
      array = h1;
    }

-- The tests of the array and of the sectors are passed, and then that of the map.
accepted : (c : goal.In_ok-test_sectors) →
    let a = c.args in
    refusal (sector_tests a.size a.block (length a.array.now) a.sector) ≡ 0
accepted c = taken c.in_ok-test_sectors.ensures

fitting : (c : goal.Else-not-map_fits) →
    let a = c.args in
    map_fits (map_bytes a.size (a.block / a.sector)) a.map.now ≡ true
fitting c = sym c.map_fits.ensures ∙ c.if-not-map_fits.false

pub nonzero_div-block : goal.nonzero_div-block
nonzero_div-block c = let a = c.args in some_bytes a.size a.block a.sector a.array.now a.map.now (accepted (goal.at.nonzero_div-block c).In_ok-test_sectors)

pub map_fits-requires : goal.map_fits-requires
map_fits-requires c =
    let a = c.args in
    let ok = accepted (goal.at.map_fits-requires c).In_ok-test_sectors in
    record {
      size_value = (is_numbered a.size a.block a.sector a.array.now a.map.now ok).fits;
      sectors_value = sectors_fit_lem a.size a.block a.sector a.array.now a.map.now ok;
    }

pub returns-then-not-map_fits : goal.returns-then-not-map_fits
unfolding saving_of number
returns-then-not-map_fits c =
    let a = c.args in
    let (h0, h1) = refused_map a.size a.block a.sector a.array.now a.map.now (accepted (goal.at.returns-then-not-map_fits c).In_ok-test_sectors)
    (sym c.map_fits.ensures ∙ c.if-not-map_fits.true) in
    record {
      answer = h0;
      array = h1;
    }

pub invariant_of-grid : goal.invariant_of-grid
invariant_of-grid c =
    let a = c.args in
    record { numbered = is_numbered a.size a.block a.sector a.array.now a.map.now (accepted (goal.at.invariant_of-grid c).In_ok-test_sectors) }

pub all_fit-requires : goal.all_fit-requires
all_fit-requires c =
    let a = c.args in
    let ok = accepted (goal.at.all_fit-requires c).In_ok-test_sectors in
    record {
      sectored = is_sectored a.size a.block a.sector a.array.now a.map.now ok;
      map_value = fitting (goal.at.all_fit-requires c).Else-not-map_fits;
    }

pub zero_erased-requires : goal.zero_erased-requires
zero_erased-requires c =
    let a = c.args in
    let ok = accepted (goal.at.zero_erased-requires c).In_ok-test_sectors in
    record {
      array_len = byte_each a.size a.block a.sector a.array.now a.map.now ok (fitting (goal.at.zero_erased-requires c).Else-not-map_fits);
      array_len_bound = array-few a.size a.block a.sector a.array.now a.map.now ok;
    }

pub returns-then-not-all_fit : goal.returns-then-not-all_fit
unfolding saving_of number
returns-then-not-all_fit c =
    let a = c.args in
    let (h0, h1) = contradicted a.size a.block a.sector a.array.now a.map.now (accepted (goal.at.returns-then-not-all_fit c).In_ok-test_sectors) (fitting (goal.at.returns-then-not-all_fit c).Else-not-map_fits)
    (sym c.all_fit.ensures ∙ c.if-not-all_fit.true)
    c.zero_erased.ensures in
    record {
      answer = h0;
      array = h1;
    }

pub save_all-number-requires : goal.save_all-number-requires
save_all-number-requires c =
    let a = c.args in
    let ok = accepted (goal.at.save_all-number-requires c).In_ok-test_sectors in
    record {
      sectored = is_sectored a.size a.block a.sector a.array.now a.map.now ok;
      map_value = fitting (goal.at.save_all-number-requires c).Else-not-map_fits;
      array_value = sym c.all_fit.ensures ∙ c.if-not-all_fit.false;
    }

pub returns : goal.returns
unfolding saving_of
returns c =
    let a = c.args in
    let record { number = number; array = array } = c.save_all-number.ensures in
    let (h0, h1) = determined-saved a.size a.block a.sector a.array.now a.map.now (accepted (goal.at.returns c).In_ok-test_sectors) (fitting (goal.at.returns c).Else-not-map_fits)
    (sym c.all_fit.ensures ∙ c.if-not-all_fit.false) number array in
    record {
      answer = h0;
      array = h1;
    }
