-- `follow::judge::all_clear` meets its contract: after p turns the repairs of the first p positions are judged.
-- Assumes nothing.
use mathlib.Core.Path.{◌≡◌, sym, ◌∙◌, ap}
use Prim.Native.Nat.{ℕ}
use native.Mathlib.Omega.{arith}
use borrow.Author.Rules.{rules}
use Rattle.stripes.specs.Fold.{every}
use Rattle.stripes.specs.Erased.{erasures}
use Rattle.stripes.specs.Repair.{clears}
use Rattle.stripes.specs.Sectors.{at_position}
use Rattle.model.specs.Grid.{layout_of}
use Rattle.chain.proofs.Place.{part-long, part-fits, part-few, part-lists}
use Rattle.follow.proofs.Judged.{clearsAt, none_judged, more_judged, all_judged, one_unclear}
use Rattle.follow.proofs.judge.all_clear.Goals.{After-clears}
use Rattle.follow.proofs.judge.all_clear.Goals as goal

pub loop-p-init : goal.loop-p-init
loop-p-init c = (search rules, none_judged _ _ _ _)

pub list-count-requires : goal.list-count-requires
list-count-requires c =
    let long = c.requires.sheets_len in
    let place = c.loop-p-test.true in
    record {
      sheet_len = part-long c.args.sectors c.args.sheets.now long c.loop-p.p place;
      records_in_bounds = search rules;
      sheet_value = part-fits c.args.sectors c.args.sheets.now long c.loop-p.p place c.requires.by_index;
    }

pub clears-requires : goal.clears-requires
clears-requires c =
    let place = c.loop-p-test.true in
    let most = part-few c.args.sectors c.args.sheets.now c.requires.sheets_len c.loop-p.p place c.requires.by_index _ _
    (c.list-count.ensures.number, c.list-count.ensures.list) in
    record {
      positioned = record {
        size = c.args.grid.numbered.fits;
        sectors = c.requires.sectors_value;
        place = search rules;
        map = c.requires.map_value;
      };
      count_in_bounds = search rules;
    }

-- What has been judged at the position.
judged : (c : goal.After-clears) →
    let a = c.args in
    c.clears.result ≡ clearsAt a.sectors (layout_of a.grid.size a.grid.base) (erasures a.map.now) a.sheets.now c.loop-p.p
judged c =
    let a = c.args in
    c.clears.ensures
    ∙ ap (clears (layout_of a.grid.size a.grid.base) (at_position a.sectors c.loop-p.p (erasures a.map.now)))
    (part-lists a.sectors a.sheets.now c.requires.sheets_len c.loop-p.p c.loop-p-test.true
    c.requires.by_index _ _ (c.list-count.ensures.number, c.list-count.ensures.list))

pub returns-then-not-clears : goal.returns-then-not-clears
returns-then-not-clears c =
    let a = c.args in
    one_unclear a.sectors (layout_of a.grid.size a.grid.base) (erasures a.map.now) a.sheets.now c.loop-p.p
    c.loop-p-test.true (sym (judged (goal.at.returns-then-not-clears c).After-clears) ∙ c.if-not-clears.true)

pub loop-p-preserved : goal.loop-p-preserved
loop-p-preserved c =
    (search rules, more_judged _ _ _ _ c.loop-p.p c.loop-p.invariant.1 (sym (judged (goal.at.loop-p-preserved c).After-clears) ∙ c.if-not-clears.false))

pub returns : goal.returns
returns c =
    let a = c.args in
    let all : c.loop-p.p ≡ a.sectors = omega arith in
    all_judged a.sectors (layout_of a.grid.size a.grid.base) (erasures a.map.now) a.sheets.now
    (ap (λ (k : ℕ). every k (clearsAt a.sectors (layout_of a.grid.size a.grid.base) (erasures a.map.now) a.sheets.now)) (sym all)
    ∙ c.loop-p.invariant.1)
