-- `smallest::search::search` meets its contract: each turn of the loop takes one disk out of the table and keeps the better of it and what was found.
-- Assumes nothing.
use mathlib.Core.Path.{◌≡◌}
use mathlib.Core.Logic.{inl, inr}
use Prim.Native.Nat.{◌<◌}
use native.Mathlib.Omega.{arith}
use borrow.Author.Rules.{rules}
use Rattle.stripes.specs.Erased.{erasures}
use Rattle.model.specs.Grid.{layout_of}
use Rattle.layout.proofs.Runs.{numbered_two, stripes_few}
use Rattle.tally.proofs.Scanned.{Turned, turned, ended}
use Rattle.tally.proofs.Counted.{Crossed, erased_crossed}
use Rattle.reach.specs.Reached.{word_stripes}
use Rattle.neighbours.proofs.Neighbours.{grid-apart}
use Rattle.smallest.proofs.Searched.{Searched, searched_none, searched_over, searched_next, searched_end}
use Rattle.smallest.proofs.search.search.Goals.{In-Some, After-stripes_of-pair, then-steps-others, else-steps-others}
use Rattle.smallest.proofs.search.search.Goals as goal

pub loop-d-init : goal.loop-d-init
loop-d-init c =
    let begun : c.into_iter-d-iterator.result ≡ c.erased-d-items.result = c.into_iter-d-iterator.ensures.into_iter_gives in
    let first : c.into_iter-d-iterator.result.from ≡ 0 = cc (begun, c.erased-d-items.ensures.start) in
    (tt, tt, cc (begun, c.erased-d-items.ensures.map), cc first, rw first (searched_none _ c.load.ensures))

-- The turn of the loop.
turn : (c : goal.In-Some) → Turned c.args.work.now c.loop-d.d-iterator.from c.in-Some.d c.next.new.self.from
turn c = turned c.loop-d.invariant.2 c.in-Some.ensures.steps.1

over : (c : goal.In-Some) →
    let a = c.args in
    Searched (layout_of a.grid.size a.grid.base) (erasures a.work.now) c.in-Some.d c.loop-d.near c.loop-d.disk c.loop-d.others
over c = let p = (turn c).passed in searched_over c.loop-d.invariant.4 p.after p.none

-- The disk with its stripes.
pair : (c : goal.After-stripes_of-pair) →
    let a = c.args in
    Crossed (layout_of a.grid.size a.grid.base) c.in-Some.d c.stripes_of-pair.result.low c.stripes_of-pair.result.high
pair c =
    erased_crossed c.requires.table_2 _ (turned c.loop-d.invariant.2 c.in-Some.ensures.steps.1).erased (numbered_two c.args.grid.numbered)
    c.stripes_of-pair.ensures

-- Its stripes have their places in the table.
places : (c : goal.After-stripes_of-pair) → (c.stripes_of-pair.result.low < word_stripes) × (c.stripes_of-pair.result.high < word_stripes)
places c =
    let few = stripes_few c.args.grid.numbered in
    (omega (arith, (pair c).low_bound), omega (arith, (pair c).high_bound))

pub toggle-requires : goal.toggle-requires
toggle-requires c =
    let (low, high) = places (goal.at.toggle-requires c).After-stripes_of-pair in
    record {
      near_len = c.loop-d.invariant.4.table.room;
      low_lt_word_stripes = low;
      high_lt_word_stripes = high;
    }

pub distance-steps-requires : goal.distance-steps-requires
distance-steps-requires c =
    let h = c.loop-d.invariant.4 in
    let long = h.table.room in
    let (low, high) = places (goal.at.distance-steps-requires c).After-stripes_of-pair in
    record {
      word_stripes_in_bounds = search rules;
      from_lt_word_stripes = low;
      to_lt_word_stripes = high;
      limit_lt_word_stripes = omega (arith, h.few, c.if-others-le-FEWEST.false);
    }

pub loop-d-preserved : goal.loop-d-preserved
loop-d-preserved c =
    let at = goal.at.loop-d-preserved c in
    let t = turn at.In-Some in
    let s = c.args.grid.numbered in (
      tt,
      tt,
      cc (c.next.ensures.steps.0, c.loop-d.invariant.2),
      cc t.goes,
      rw t.goes (
          searched_next (numbered_two s) (grid-apart s) (stripes_few s) (over at.In-Some) t.erased (pair at.After-stripes_of-pair) c.toggle.ensures
          (omega (arith, c.if-others-le-FEWEST.false)) c.distance-steps.ensures
          (elim c.if-steps-others.branch [
            | then-steps-others w ↦ inl (w.if-steps-others.true, w.disk-is, w.others-is)
            | else-steps-others w ↦ inr (w.if-steps-others.false, w.disk-is, w.others-is)
          ])
          ),
    )

pub returns-then-others-le-FEWEST : goal.returns-then-others-le-FEWEST
returns-then-others-le-FEWEST c =
    let s = c.requires in
    let done = c.loop-d.invariant.4 in
    record {
      nearest = searched_end c.args.grid.numbered _ s.work_value s.table_2.inside done (inl c.if-others-le-FEWEST.true);
      table = rw c.loop-d.invariant.3 done.table;
    }

pub returns-in-None : goal.returns-in-None
returns-in-None c =
    let s = c.requires in
    let done = c.loop-d.invariant.4 in
    let p = ended c.loop-d.invariant.2 c.in-None.ensures.steps.1 in
    record {
      nearest =
          searched_end c.args.grid.numbered _ s.work_value s.table_2.inside (searched_over done p.after p.none) (inr s.table_2.disks_fit);
      table = rw c.loop-d.invariant.3 done.table;
    }
