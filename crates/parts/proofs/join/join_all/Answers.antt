-- `parts::join::join_all` meets its contract: each turn of the loop joins the stripes of one erased disk.
-- Assumes nothing.
use mathlib.Core.Path.{◌≡◌, ◌∙◌}
use native.Mathlib.Nat.{le_refl}
use native.Mathlib.Omega.{arith}
use borrow.Author.Rules.{rules}
use Rattle.stripes.specs.Erased.{erasures}
use Rattle.model.specs.Grid.{layout_of}
use Rattle.layout.proofs.Runs.{numbered_two, stripes_few}
use Rattle.tally.proofs.Scanned.{Turned, turned, ended}
use Rattle.tally.proofs.Counted.{Crossed, erased_crossed}
use Rattle.parts.specs.Parted.{Parted}
use Rattle.parts.proofs.Parted.{parted-none, parted_over, parted-next, parted_all}
use Rattle.parts.proofs.join.join_all.Goals.{In-Some, After-stripes_of-pair}
use Rattle.parts.proofs.join.join_all.Goals as goal

pub start-requires-clause-bound_bound : goal.start-requires-clause-bound_bound
start-requires-clause-bound_bound c =
    let is = c.bound-bound.ensures in
    let few = stripes_few c.args.grid.numbered in
    omega arith

pub loop-d-init : goal.loop-d-init
loop-d-init c =
    let same = c.start.auto.parts in
    let begun : c.into_iter-d-iterator.result ≡ c.erased-d-items.result = c.into_iter-d-iterator.ensures.into_iter_gives in
    let first : c.into_iter-d-iterator.result.from ≡ 0 = cc (begun, c.erased-d-items.ensures.start) in (
      tt,
      tt,
      cc (begun, c.erased-d-items.ensures.map),
      rw first (parted-none _ (omega (arith, c.requires.base_in_bounds)) c.bound-bound.ensures c.start.ensures),
      search rules,
    )

-- The turn of the loop.
turn : (c : goal.In-Some) → Turned c.args.work.now c.loop-d.d-iterator.from c.in-Some.d c.next.new.self.from
turn c = turned c.loop-d.invariant.2 c.in-Some.ensures.steps.1

over : (c : goal.In-Some) →
    let a = c.args in
    Parted (layout_of a.grid.size a.grid.base) (erasures a.work.now) c.in-Some.d c.loop-d.parts
over c = let p = (turn c).passed in parted_over _ _ p.after p.none c.loop-d.invariant.3

-- The disk with its stripes.
pair : (c : goal.After-stripes_of-pair) →
    let a = c.args in
    Crossed (layout_of a.grid.size a.grid.base) c.in-Some.d c.stripes_of-pair.result.low c.stripes_of-pair.result.high
pair c =
    erased_crossed c.requires.table _ (turned c.loop-d.invariant.2 c.in-Some.ensures.steps.1).erased (numbered_two c.args.grid.numbered) c.stripes_of-pair.ensures

pub unite-requires : goal.unite-requires
unite-requires c =
    let is = c.bound-bound.ensures in
    let fits = c.loop-d.invariant.3.stripes_fit in
    record {
      bound_in_bounds = omega arith;
      low_lt_bound = omega (arith, (pair (goal.at.unite-requires c).After-stripes_of-pair).low_bound);
      high_lt_bound = omega (arith, (pair (goal.at.unite-requires c).After-stripes_of-pair).high_bound);
    }

pub loop-d-preserved : goal.loop-d-preserved
loop-d-preserved c =
    let at = goal.at.loop-d-preserved c in
    let t = turn at.In-Some in
    let unite = c.unite in (
      tt,
      tt,
      cc (c.next.ensures.steps.0, c.loop-d.invariant.2),
      rw t.goes (parted-next t.erased (pair at.After-stripes_of-pair) (over at.In-Some) unite.auto.parts c.bound-bound.ensures unite.ensures),
      unite.auto.parts ∙ c.loop-d.invariant.4,
    )

pub returns : goal.returns
returns c =
    let p = ended c.loop-d.invariant.2 c.in-None.ensures.steps.1 in
    parted_all c.requires.table (le_refl _) (parted_over _ _ p.after p.none c.loop-d.invariant.3)
