-- `look::look` meets its contract: each early return is at a test that fails, and the last hands back the block.
-- Assumes nothing.
use mathlib.Core.Path.{sym, ◌∙◌}
use mathlib.Core.Bool.{true≢false}
use Prim.Native.Nat.{◌/◌, ◌<◌}
use native.Mathlib.Omega.{arith}
use borrow.Author.Rules.{rules}
use Rattle.model.specs.Grid.{disks, map_bytes}
use Rattle.model.proofs.Refusal.{sector_fits_lem}
use Rattle.model.proofs.Grid.{sector-some, sectors-some, map-length, block_within}
use Rattle.stripes.proofs.Bytes.{block-before}
use Rattle.look.proofs.Part.{Passed, look_nothing, look_block}
use Rattle.look.proofs.look.Goals.{Else-not-all_present}
use Rattle.refusal.proofs.Numbers.{refused_by, taken_by}
use Rattle.look.proofs.look.Goals as goal

-- The tests are passed where the last one is.
passed : (c : goal.Else-not-all_present) → let a = c.args in
    Passed a.size a.block a.sector a.array.now a.map.now a.disk
passed c = (
  taken_by _ c.test_sectors.ensures (sym c.is_err.ensures.value ∙ c.if-is_err.false),
  sym c.map_fits.ensures ∙ c.if-not-map_fits.false,
  (let e = c.disks.ensures in let h = c.if-disks-disk.false in omega arith),
  sym c.all_present.ensures ∙ c.if-not-all_present.false,
)

-- Both clauses of a return.
clauses : {A B : Type 0} → A × B → record { bytes : A; place : B }
clauses (bytes, place) = record { bytes = bytes; place = place }

pub returns-then-is_err : goal.returns-then-is_err
returns-then-is_err c =
    clauses (look_nothing _ _ _ _ _ _ (λ (ok, mapped, inside, present). refused_by _ c.test_sectors.ensures (sym c.is_err.ensures.value ∙ c.if-is_err.true) ok) _)

pub nonzero_div-sectors : goal.nonzero_div-sectors
nonzero_div-sectors c =
    let (array, sector) = sector_fits_lem _ _ _ _ (taken_by _ c.test_sectors.ensures (sym c.is_err.ensures.value ∙ c.if-is_err.false)) in
    let some = sector-some _ _ sector in
    search rules

pub map_fits-requires : goal.map_fits-requires
map_fits-requires c =
    let (array, sector) = sector_fits_lem _ _ _ _ (taken_by _ c.test_sectors.ensures (sym c.is_err.ensures.value ∙ c.if-is_err.false)) in
    record {
      size_value = array.size;
      sectors_value = sectors-some _ _ array.block sector;
    }

pub returns-then-not-map_fits : goal.returns-then-not-map_fits
returns-then-not-map_fits c =
    clauses (look_nothing _ _ _ _ _ _ (λ (ok, mapped, inside, present). true≢false (sym mapped ∙ sym c.map_fits.ensures ∙ c.if-not-map_fits.true)) _)

pub disks-requires : goal.disks-requires
disks-requires c =
    let (array, sector) = sector_fits_lem _ _ _ _ (taken_by _ c.test_sectors.ensures (sym c.is_err.ensures.value ∙ c.if-is_err.false)) in
    array.size

pub returns-then-disks-disk : goal.returns-then-disks-disk
returns-then-disks-disk c =
    clauses (look_nothing _ _ _ _ _ _ (λ (ok, mapped, inside, present). let e = c.disks.ensures in omega arith) _)

pub all_present-requires : goal.all_present-requires
unfolding map_bytes
all_present-requires c =
    let e = c.disks.ensures in
    let h = c.if-disks-disk.false in
    let a = c.args in
    let long = map-length _ _ (sym c.map_fits.ensures ∙ c.if-not-map_fits.false) in
    let inside : a.disk < disks a.size = omega arith in
    let end = block-before (a.block / a.sector) inside in
    omega arith

pub returns-then-not-all_present : goal.returns-then-not-all_present
returns-then-not-all_present c =
    clauses (look_nothing _ _ _ _ _ _ (λ (ok, mapped, inside, present). true≢false (sym present ∙ sym c.all_present.ensures ∙ c.if-not-all_present.true)) _)

pub slice_bounds-result-end-2 : goal.slice_bounds-result-end-2
slice_bounds-result-end-2 c =
    let (ok, mapped, inside, present) = passed (goal.at.slice_bounds-result-end-2 c).Else-not-all_present in
    let (array, sector) = sector_fits_lem _ _ _ _ ok in
    block_within _ _ _ array.long _ inside

pub overflow_mul-at : goal.overflow_mul-at
overflow_mul-at c = omega (arith, slice_bounds-result-end-2 c)

pub overflow_add-result : goal.overflow_add-result
overflow_add-result c = omega (arith, slice_bounds-result-end-2 c)

pub returns : goal.returns
returns c =
    let (h0, h1) = look_block _ _ _ _ _ _ (passed (goal.at.returns c).Else-not-all_present) _ in
    record {
      bytes = h0;
      place = h1;
    }
