-- `cycle::partner` meets its contract: no disk of the set so far is the one that is looked for.
-- Assumes nothing.
use mathlib.Core.Path.{◌∙◌}
use native.Mathlib.Omega.{arith}
use borrow.Author.Count.{below_more}
use Rattle.model.specs.Grid.{layout_of}
use Rattle.tally.proofs.Scanned.{Turned, turned, ended}
use Rattle.cycle.proofs.Search.{NoOther, lies, none_self, none_elsewhere, other_over, partner_found, partner_missed}
use Rattle.cycle.proofs.partner.Goals.{In-Some}
use Rattle.cycle.proofs.partner.Goals as goal

-- The turn of the loop, and where the search has come to in it.
turn : (c : goal.In-Some) → Turned c.args.set.now c.loop-d.d-iterator.from c.in-Some.d c.next.new.self.from
turn c = turned c.loop-d.invariant.2 c.in-Some.ensures.steps.1

searched : (c : goal.In-Some) →
    let a = c.args in
    NoOther (layout_of a.grid.size a.grid.base) a.set.now (record { disk = a.disk; stripe = a.stripe }) c.in-Some.d
searched c = other_over _ _ _ c.loop-d.invariant.3 (turn c).passed

pub returns-then-either_is : goal.returns-then-either_is
returns-then-either_is c =
    let at = goal.at.returns-then-either_is c in
    partner_found _ _ _ c.requires.table (searched at.In-Some) (turn at.In-Some).erased c.if-d-disk.true
    (lies _ _ _ c.stripes_of.ensures c.either_is.ensures ∙ c.if-either_is.true)

pub loop-d-preserved-else-either_is : goal.loop-d-preserved-else-either_is
loop-d-preserved-else-either_is c =
    let at = goal.at.loop-d-preserved-else-either_is c in (
      tt,
      tt,
      cc (c.next.ensures.steps.0, c.loop-d.invariant.2),
      rw (turn at.In-Some).goes (below_more _ _ (searched at.In-Some) (none_elsewhere _ _ _ _ (lies _ _ _ c.stripes_of.ensures c.either_is.ensures ∙ c.if-either_is.false))),
    )

pub loop-d-preserved : goal.loop-d-preserved
loop-d-preserved c =
    let at = goal.at.loop-d-preserved c in (
      tt,
      tt,
      cc (c.next.ensures.steps.0, c.loop-d.invariant.2),
      rw (turn at.In-Some).goes (below_more _ _ (searched at.In-Some) (none_self _ _ _ _ c.if-d-disk.false)),
    )

-- A disk that is there is found before the end.
pub returns : goal.returns
returns c =
    let p = c.requires in
    let past = ended c.loop-d.invariant.2 c.in-None.ensures.steps.1 in
    absurd (partner_missed _ _ _ p.table (other_over _ _ _ c.loop-d.invariant.3 past) p.stripe_bound (omega arith))
