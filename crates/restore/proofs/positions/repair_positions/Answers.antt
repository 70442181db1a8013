-- `restore::positions::repair_positions` meets its contract: after p turns the repairs of the first p sheets are made.
-- Assumes nothing.
use mathlib.Core.Path.{◌≡◌, sym, ◌∙◌, ap}
use mathlib.Core.List.{List}
use Prim.Native.Nat.{ℕ, ◌+◌, ◌*◌, ◌/◌, ◌≤◌}
use native.Mathlib.Omega.{arith}
use borrow.Author.Rules.{rules}
use lib.ListN.{length}
use Rattle.stripes.specs.System.{whole}
use Rattle.stripes.specs.Erased.{erasures}
use Rattle.stripes.specs.Repair.{Peels, rebuilt}
use Rattle.stripes.specs.Sectors.{sectored, at_position, stretch_at, rising}
use Rattle.stripes.proofs.Restore.{length-rebuilt}
use Rattle.stripes.proofs.SectorBytes.{stretch_inside}
use Rattle.model.specs.Grid.{layout_of}
use Rattle.model.specs.Sheet.{narrow, sheet_at}
use Rattle.model.specs.Chain.{chain_refusal, chain_entries}
use Rattle.model.specs.Follow.{sheets_entries}
use Rattle.model.proofs.Grid.{layout-disks, sector-cut, sector-some}
use Rattle.model.proofs.Chain.{chain_few}
use Rattle.model.proofs.SheetRow.{length-sheet_at}
use Rattle.entries.specs.Listed.{listed}
use Rattle.sheet.proofs.Part.{part_sheet}
use Rattle.restore.proofs.Judged.{on-disks, on_stripes}
use Rattle.restore.proofs.ByPosition.{peels_at, positions-none, positions-next}
use Rattle.restore.proofs.positions.repair_positions.Goals.{After-list-count, In-loop-p, Start}
use Rattle.restore.proofs.positions.repair_positions.Goals as goal

-- The block is cut into sectors, and the array holds a block for each disk.
cut : (s : goal.Start) → s.args.block ≡ s.args.block / s.args.sector * s.args.sector
cut s = sector-cut s.args.block s.args.sector s.requires.sectored.sector

sized : (s : goal.Start)
    → length s.args.array.now ≡ (layout_of s.args.grid.size s.args.grid.base).disks * s.args.block
sized s = s.requires.sectored.sized ∙ ap (λ (n : ℕ). n * s.args.block) (sym (layout-disks s.args.grid.size s.args.grid.base))

-- The array keeps its length.
kept : (c : goal.In-loop-p) → length c.loop-p.array ≡ length c.args.array.now
kept c = ap length c.loop-p.invariant.1 ∙ length-rebuilt _ _ _ _

-- The stretch of the position lies within the block.
inside : (c : goal.In-loop-p) → let a = c.args in
    c.loop-p.p * a.sector + a.sector ≤ a.block
inside c =
    stretch_inside (c.args.block / c.args.sector) c.args.sector c.args.block
    (sector-cut c.args.block c.args.sector c.requires.sectored.sector) c.loop-p-test.true

pub nonzero_div-sectors : goal.nonzero_div-sectors
nonzero_div-sectors c = sector-some c.args.block c.args.sector c.requires.sectored.sector

pub loop-p-init : goal.loop-p-init
loop-p-init c =
    let a = c.args in (
      search rules,
      positions-none (a.block / a.sector) a.sector a.block (cut (goal.at.loop-p-init c).Start) (layout_of a.grid.size a.grid.base) a.array.now (sized (goal.at.loop-p-init c).Start) _,
    )

pub list-count-requires : goal.list-count-requires
list-count-requires c =
    let place = c.loop-p-test.true in
    let is = part_sheet narrow c.loop-p.p c.args.sheets.now in
    record {
      sheet_len = ap length is ∙ length-sheet_at narrow (c.args.block / c.args.sector) c.args.sheets.now c.requires.sheets_len c.loop-p.p place;
      records_in_bounds = search rules;
      sheet_value = ap (chain_refusal narrow) is ∙ c.requires.by_index c.loop-p.p place;
    }

-- The list has the entries of the sheet, and they are allowed at the position.
lists : (c : goal.After-list-count) →
    let a = c.args in
    let r = c.list-count in
    listed r.new.list r.result ≡ chain_entries narrow (sheet_at narrow c.loop-p.p a.sheets.now)
lists c =
    let a = c.args in
    c.list-count.ensures.list ∙ ap (chain_entries narrow) (part_sheet narrow c.loop-p.p a.sheets.now)

allowed-there : (c : goal.After-list-count) →
    let a = c.args in
    let r = c.list-count in
    Peels (layout_of a.grid.size a.grid.base) (at_position (a.block / a.sector) c.loop-p.p (erasures a.map.now))
    (listed r.new.list r.result)
unfolding sheets_entries
allowed-there c =
    let a = c.args in
    rw (lists c)
    (peels_at (a.block / a.sector) (layout_of a.grid.size a.grid.base) (erasures a.map.now) _ c.requires.peels c.loop-p.p
    c.loop-p-test.true)

few : (c : goal.After-list-count) → c.list-count.result ≤ 32
few c =
    let is = part_sheet narrow c.loop-p.p c.args.sheets.now in
    let most = chain_few narrow _ (c.requires.by_index c.loop-p.p c.loop-p-test.true) in
    let all = c.list-count.ensures.number ∙ ap (λ (t : List ℕ). length (chain_entries narrow t)) is in
    omega arith

pub repair_all-requires : goal.repair_all-requires
repair_all-requires c =
    let a = c.args in
    let r = c.list-count in
    let e = at_position (a.block / a.sector) c.loop-p.p (erasures a.map.now) in
    let most = few (goal.at.repair_all-requires c).After-list-count in
    record {
      held = record {
        inside = inside (goal.at.repair_all-requires c).In-loop-p;
        block = c.requires.sectored.block;
        sized = kept (goal.at.repair_all-requires c).In-loop-p ∙ c.requires.sectored.sized;
      };
      count_in_bounds = search rules;
      by_index = on-disks a.grid.size a.grid.base e r.new.list r.result (allowed-there (goal.at.repair_all-requires c).After-list-count);
      by_index_2 = on_stripes a.grid.size a.grid.base e r.new.list r.result (allowed-there (goal.at.repair_all-requires c).After-list-count);
    }

pub loop-p-preserved : goal.loop-p-preserved
loop-p-preserved c =
    let a = c.args in
    let L = layout_of a.grid.size a.grid.base in (
      search rules,
      c.repair_all.ensures ∙ ap (rebuilt L (stretch_at a.block a.sector c.loop-p.p) c.loop-p.array) (lists (goal.at.loop-p-preserved c).After-list-count)
          ∙ positions-next (a.block / a.sector) a.sector a.block (cut (goal.at.loop-p-preserved c).Start) L a.array.now (sized (goal.at.loop-p-preserved c).Start) _ c.loop-p.p
          c.loop-p-test.true c.loop-p.array c.loop-p.invariant.1,
    )

pub returns : goal.returns
unfolding sheets_entries
returns c =
    let a = c.args in
    let n = a.block / a.sector in
    let all : c.loop-p.p ≡ n = omega arith in
    c.loop-p.invariant.1
    ∙ ap (λ (k : ℕ).
    rebuilt (sectored n (layout_of a.grid.size a.grid.base)) (whole a.sector) a.array.now
    (rising n (λ q. chain_entries narrow (sheet_at narrow q a.sheets.now)) k)) all
