-- `neighbours::load` meets its contract: each turn of the loop puts one erased disk into the table.
-- Assumes nothing.
use mathlib.Core.Path.{◌≡◌}
use native.Mathlib.Omega.{arith}
use borrow.Author.Rules.{rules}
use Rattle.stripes.specs.Erased.{erasures, below}
use Rattle.model.specs.Grid.{layout_of}
use Rattle.layout.proofs.Runs.{numbered_two, stripes_few}
use Rattle.tally.proofs.Scanned.{Turned, turned, ended}
use Rattle.tally.proofs.Counted.{Crossed, erased_crossed}
use Rattle.neighbours.specs.Near.{Near}
use Rattle.neighbours.proofs.Neighbours.{grid-apart, near_none, near_over, near_next, near_all}
use Rattle.neighbours.proofs.load.Goals.{In-Some, After-stripes_of-pair}
use Rattle.neighbours.proofs.load.Goals as goal

pub loop-d-init : goal.loop-d-init
loop-d-init c =
    let begun : c.into_iter-d-iterator.result ≡ c.erased-d-items.result = c.into_iter-d-iterator.ensures.into_iter_gives in
    let first : c.into_iter-d-iterator.result.from ≡ 0 = cc (begun, c.erased-d-items.ensures.start) in
    (tt, tt, cc (begun, c.erased-d-items.ensures.map), rw first (near_none _ _ _ (search rules) c.clear.ensures))

-- The turn of the loop.
turn : (c : goal.In-Some) → Turned c.args.work.now c.loop-d.d-iterator.from c.in-Some.d c.next.new.self.from
turn c = turned c.loop-d.invariant.2 c.in-Some.ensures.steps.1

over : (c : goal.In-Some) →
    let a = c.args in
    Near (layout_of a.grid.size a.grid.base) (below c.in-Some.d (erasures a.work.now)) c.loop-d.near
over c = let p = (turn c).passed in near_over _ _ _ _ p.after p.none c.loop-d.invariant.3

-- The disk with its stripes.
pair : (c : goal.After-stripes_of-pair) →
    let a = c.args in
    Crossed (layout_of a.grid.size a.grid.base) c.in-Some.d c.stripes_of-pair.result.low c.stripes_of-pair.result.high
pair c =
    erased_crossed c.requires.table _ (turned c.loop-d.invariant.2 c.in-Some.ensures.steps.1).erased (numbered_two c.args.grid.numbered) c.stripes_of-pair.ensures

pub toggle-requires : goal.toggle-requires
toggle-requires c =
    let few = stripes_few c.args.grid.numbered in
    let x = pair (goal.at.toggle-requires c).After-stripes_of-pair in
    record {
      near_len = c.loop-d.invariant.3.room;
      low_lt_word_stripes = omega (arith, x.low_bound);
      high_lt_word_stripes = omega (arith, x.high_bound);
    }

pub loop-d-preserved : goal.loop-d-preserved
loop-d-preserved c =
    let at = goal.at.loop-d-preserved c in
    let t = turn at.In-Some in
    let n = c.args.grid.numbered in (
      tt,
      tt,
      cc (c.next.ensures.steps.0, c.loop-d.invariant.2),
      rw t.goes (
          near_next _ _ (numbered_two n) (grid-apart n) (stripes_few n) (pair at.After-stripes_of-pair) t.erased (over at.In-Some)
          c.toggle.ensures
          ),
    )

pub returns : goal.returns
returns c =
    let p = ended c.loop-d.invariant.2 c.in-None.ensures.steps.1 in
    let fits = c.requires.table.disks_fit in
    near_all _ _ _ (λ i l. c.requires.table.inside i (omega arith)) (near_over _ _ _ _ p.after p.none c.loop-d.invariant.3)
