-- `parts::link::link_all` meets its contract: each turn of the loop links one erased disk.
-- Assumes nothing.
use mathlib.Core.Path.{◌≡◌, ◌∙◌, refl}
use native.Mathlib.Nat.{le_refl}
use native.Mathlib.Omega.{arith}
use borrow.Author.Rules.{rules}
use Rattle.stripes.specs.Erased.{erasures}
use Rattle.model.specs.Grid.{layout_of}
use Rattle.layout.proofs.Runs.{stripes_few}
use Rattle.tally.proofs.Scanned.{Turned, turned, ended}
use Rattle.parts.proofs.Parted.{Linking, parted-none, walked_none, linking_none, linking_over, linking_next, linking_all}
use Rattle.parts.proofs.link.link_all.Goals.{In-Some}
use Rattle.parts.proofs.link.link_all.Goals as goal

pub start-requires-clause-bound_bound : goal.start-requires-clause-bound_bound
start-requires-clause-bound_bound c =
    let is = c.bound-bound.ensures in
    let few = stripes_few c.args.grid.numbered in
    omega arith

pub loop-d-init : goal.loop-d-init
loop-d-init c =
    let parts = c.start.auto.parts in
    let ways = c.clear.auto.ways in
    let is = c.bound-bound.ensures in
    let begun : c.into_iter-d-iterator.result ≡ c.erased-d-items.result = c.into_iter-d-iterator.ensures.into_iter_gives in
    let first : c.into_iter-d-iterator.result.from ≡ 0 = cc (begun, c.erased-d-items.ensures.start) in (
      tt,
      tt,
      cc (begun, c.erased-d-items.ensures.map),
      rw first
          (linking_none (parted-none _ (omega (arith, c.requires.base_in_bounds)) is c.start.ensures)
          (walked_none _ (omega (arith, c.requires.base_in_bounds_2)) is c.clear.ensures) refl),
      search rules,
      search rules,
    )

-- The turn of the loop.
turn : (c : goal.In-Some) → Turned c.args.work.now c.loop-d.d-iterator.from c.in-Some.d c.next.new.self.from
turn c = turned c.loop-d.invariant.2 c.in-Some.ensures.steps.1

over : (c : goal.In-Some) →
    let a = c.args in
    Linking (layout_of a.grid.size a.grid.base) (erasures a.work.now) c.in-Some.d c.loop-d.parts c.loop-d.ways c.loop-d.closed
over c = let p = (turn c).passed in linking_over _ _ p.after p.none c.loop-d.invariant.3

pub link-closed-requires : goal.link-closed-requires
link-closed-requires c =
    let at = goal.at.link-closed-requires c in
    let now = over at.In-Some in
    record {
      table = c.requires.table;
      disk_value = (turn at.In-Some).erased;
      parted = now.parted;
      walked = now.walked;
    }

pub loop-d-preserved : goal.loop-d-preserved
loop-d-preserved c =
    let at = goal.at.loop-d-preserved c in
    let t = turn at.In-Some in
    let link = c.link-closed in (
      tt,
      tt,
      cc (c.next.ensures.steps.0, c.loop-d.invariant.2),
      rw t.goes (linking_next (over at.In-Some) t.erased link.ensures.parts link.ensures.ways link.ensures.answer),
      link.auto.parts ∙ c.loop-d.invariant.4,
      link.auto.ways ∙ c.loop-d.invariant.5,
    )

pub returns : goal.returns
returns c =
    let p = ended c.loop-d.invariant.2 c.in-None.ensures.steps.1 in
    let l = linking_all c.requires.table (le_refl _) (linking_over _ _ p.after p.none c.loop-d.invariant.3) in
    record {
      parts = l.parted;
      ways = l.walked;
      answer = l.closed;
    }
