-- `wanted::side::load` meets its contract: the map is copied, and each turn of the loop looks one of the others up.
-- Assumes nothing.
use mathlib.Core.Path.{◌≡◌, refl, ◌∙◌}
use mathlib.Core.Logic.{inl, inr}
use native.Mathlib.Omega.{arith}
use Rattle.model.specs.Grid.{layout_of}
use Rattle.tally.proofs.Scanned.{Turned, turned, ended}
use Rattle.wanted.proofs.Sided.{Sided, sided_none, sided_over, sided_next, sided_all}
use Rattle.wanted.proofs.side.load.Goals.{In-Some, At-loop-d}
use Rattle.wanted.proofs.side.load.Goals as goal

pub loop-d-init : goal.loop-d-init
loop-d-init c =
    let begun : c.into_iter-d-iterator.result ≡ c.erased-d-items.result = c.into_iter-d-iterator.ensures.into_iter_gives in
    let start : c.into_iter-d-iterator.result.from ≡ 0 = cc (begun, c.erased-d-items.ensures.start) in
    (tt, tt, cc (begun, c.erased-d-items.ensures.map), rw start (sided_none _ _ _ _ _ c.copy.ensures), refl)

-- The turn of the loop.
turn : (c : goal.In-Some) → Turned c.args.others.now c.loop-d.d-iterator.from c.in-Some.d c.next.new.self.from
turn c = turned c.loop-d.invariant.2 c.in-Some.ensures.steps.1

over : (c : goal.In-Some) →
    let a = c.args in
    Sided (layout_of a.grid.size a.grid.base) a.map.now a.others.now a.parts.now a.name c.in-Some.d c.loop-d.work
over c = sided_over c.loop-d.invariant.3 (turn c).passed

-- The disk of a turn is taken away where it is not in the part.
pub loop-d-preserved-then-not-is_in : goal.loop-d-preserved-then-not-is_in
loop-d-preserved-then-not-is_in c =
    let at = goal.at.loop-d-preserved-then-not-is_in c in
    let t = turn at.In-Some in
    let (next, same) = sided_next (over at.In-Some) t.erased (c.requires.by_index _ t.erased) c.is_in.ensures (inl (c.if-not-is_in.true, refl)) in (
      tt,
      tt,
      cc (c.next.ensures.steps.0, c.loop-d.invariant.2),
      rw t.goes next,
      same ∙ c.loop-d.invariant.4,
    )

pub loop-d-preserved : goal.loop-d-preserved
loop-d-preserved c =
    let at = goal.at.loop-d-preserved c in
    let t = turn at.In-Some in
    let (next, same) = sided_next (over at.In-Some) t.erased (c.requires.by_index _ t.erased) c.is_in.ensures (inr (c.if-not-is_in.false, refl)) in (
      tt,
      tt,
      cc (c.next.ensures.steps.0, c.loop-d.invariant.2),
      rw t.goes next,
      same ∙ c.loop-d.invariant.4,
    )

pub returns : goal.returns
returns c = sided_all (sided_over c.loop-d.invariant.3 (ended c.loop-d.invariant.2 c.in-None.ensures.steps.1)) (omega arith)
