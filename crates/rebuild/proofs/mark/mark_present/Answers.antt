-- `rebuild::mark::mark_present` meets its contract: after p turns the sectors of the repairs of the first p positions are present.
-- Assumes nothing.
use mathlib.Core.Path.{◌≡◌, sym, ◌∙◌, ap, subst}
use mathlib.Core.List.{List, map as List·map}
use Prim.Native.Nat.{ℕ, ◌<◌}
use native.Mathlib.Omega.{arith}
use borrow.Author.Rules.{rules}
use lib.ListN.{length}
use Rattle.stripes.specs.Repair.{Entry, map_after}
use Rattle.stripes.specs.Sectors.{sector_at, sector_entry, rising}
use Rattle.stripes.proofs.Split.{length-map_after}
use Rattle.model.specs.Sheet.{narrow, sheet_at}
use Rattle.model.specs.Chain.{chain_entries}
use Rattle.model.specs.Follow.{sheets_entries}
use Rattle.entries.specs.Listed.{entry_disk, listed}
use Rattle.chain.proofs.Place.{part-long, part-fits, part-few, part-lists}
use Rattle.rebuild.proofs.Marks.{within_at, positions-none, positions-next, named}
use Rattle.rebuild.proofs.mark.mark_present.Goals.{After-list-count, At-loop-p}
use Rattle.rebuild.proofs.mark.mark_present.Goals as goal

-- The map keeps its length.
kept : (c : goal.At-loop-p) → length c.loop-p.map ≡ length c.args.map.now
kept c = ap length c.loop-p.invariant.1 ∙ length-map_after c.args.map.now _

pub loop-p-init : goal.loop-p-init
loop-p-init c = (search rules, positions-none _ _ _)

pub list-count-requires : goal.list-count-requires
list-count-requires c =
    let long = c.requires.sheets_len in
    let place = c.loop-p-test.true in
    record {
      sheet_len = part-long c.args.sectors c.args.sheets.now long c.loop-p.p place;
      records_in_bounds = search rules;
      sheet_value = part-fits c.args.sectors c.args.sheets.now long c.loop-p.p place c.requires.by_index;
    }

-- The list has the repairs of the sheet.
lists : (c : goal.After-list-count) →
    listed c.list-count.new.list c.list-count.result ≡ chain_entries narrow (sheet_at narrow c.loop-p.p c.args.sheets.now)
lists c =
    part-lists c.args.sectors c.args.sheets.now c.requires.sheets_len c.loop-p.p c.loop-p-test.true c.requires.by_index
    _ _ (c.list-count.ensures.number, c.list-count.ensures.list)

-- The map has a place for each of them.
pub mark_position-requires : goal.mark_position-requires
unfolding sheets_entries
mark_position-requires c =
    let place = c.loop-p-test.true in
    let most = part-few c.args.sectors c.args.sheets.now c.requires.sheets_len c.loop-p.p place c.requires.by_index _ _ (c.list-count.ensures.number, c.list-count.ensures.list) in
    record {
      sectors_bound = c.requires.sectors_bound;
      position_lt_sectors = search rules;
      count_in_bounds = search rules;
      by_index = λ k h.
          let (inside, disk) = named c.list-count.new.list _ c.list-count.result (lists (goal.at.mark_position-requires c).After-list-count) k h in
          let there = within_at c.args.sectors (λ q. chain_entries narrow (sheet_at narrow q c.args.sheets.now))
          (length c.args.map.now) c.args.sectors c.requires.within c.loop-p.p place k inside in
          subst (λ (n : ℕ). sector_at c.args.sectors c.loop-p.p (entry_disk c.list-count.new.list k) < n) (sym (kept (goal.at.mark_position-requires c).At-loop-p))
          (subst (λ (d : ℕ). sector_at c.args.sectors c.loop-p.p d < length c.args.map.now) disk there);
    }

pub loop-p-preserved : goal.loop-p-preserved
loop-p-preserved c =
    let a = c.args in (
      search rules,
      c.mark_position.ensures
          ∙ ap (λ (w : List Entry). map_after c.loop-p.map (List·map (sector_entry a.sectors c.loop-p.p) w)) (lists (goal.at.loop-p-preserved c).After-list-count)
          ∙ positions-next a.sectors _ a.map.now c.loop-p.p c.loop-p.map c.loop-p.invariant.1,
    )

pub returns : goal.returns
unfolding sheets_entries
returns c =
    let a = c.args in
    let all : c.loop-p.p ≡ a.sectors = omega arith in
    c.loop-p.invariant.1
    ∙ ap (λ (k : ℕ). map_after a.map.now (rising a.sectors (λ q. chain_entries narrow (sheet_at narrow q a.sheets.now)) k)) all
