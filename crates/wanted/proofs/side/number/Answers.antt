-- `wanted::side::number` meets its contract: each turn of the loop looks one of the others up.
-- Assumes nothing.
use mathlib.Core.Path.{◌≡◌, refl, ◌∙◌, ap}
use mathlib.Core.Logic.{inl, inr}
use Prim.Native.Nat.{ℕ}
use native.Mathlib.Omega.{arith}
use Rattle.stripes.specs.Fold.{count}
use Rattle.model.specs.Grid.{layout_of}
use Rattle.model.proofs.Grid.{layout-disks, disks-bound, size_fits_lem}
use Rattle.tally.proofs.Scanned.{Turned, turned, ended}
use Rattle.tally.proofs.Counted.{erased-inside}
use Rattle.wanted.specs.Side.{other_in}
use Rattle.wanted.proofs.Sided.{Told, told_none, told_few, told_next, told_over, told_all}
use Rattle.wanted.proofs.side.number.Goals.{In-Some}
use Rattle.wanted.proofs.side.number.Goals as goal

pub loop-d-init : goal.loop-d-init
loop-d-init c =
    let begun : c.into_iter-d-iterator.result ≡ c.erased-d-items.result = c.into_iter-d-iterator.ensures.into_iter_gives in
    let start : c.into_iter-d-iterator.result.from ≡ 0 = cc (begun, c.erased-d-items.ensures.start) in
    (tt, tt, cc (begun, c.erased-d-items.ensures.map), rw start (told_none _ _ _ _))

-- The turn of the loop.
turn : (c : goal.In-Some) → Turned c.args.others.now c.loop-d.d-iterator.from c.in-Some.d c.next.new.self.from
turn c = turned c.loop-d.invariant.2 c.in-Some.ensures.steps.1

over : (c : goal.In-Some) →
    let a = c.args in
    Told (layout_of a.grid.size a.grid.base) a.others.now a.parts.now a.name c.in-Some.d c.loop-d.number
over c = told_over c.loop-d.invariant.3 (turn c).passed

pub overflow_add-number : goal.overflow_add-number
overflow_add-number c =
    let at = goal.at.overflow_add-number c in
    let inside = erased-inside c.requires.table _ (turn at.In-Some).erased in
    let same = layout-disks c.args.grid.size c.args.grid.base in
    let most = disks-bound c.args.grid.size (size_fits_lem c.args.grid.size c.args.grid.numbered.fits) in
    omega (arith, told_few (over at.In-Some))

pub loop-d-preserved-then-is_in : goal.loop-d-preserved-then-is_in
loop-d-preserved-then-is_in c =
    let at = goal.at.loop-d-preserved-then-is_in c in
    let t = turn at.In-Some in (
      tt,
      tt,
      cc (c.next.ensures.steps.0, c.loop-d.invariant.2),
      rw t.goes (told_next (over at.In-Some) t.erased c.is_in.ensures (inl (c.if-is_in.true, refl))),
    )

pub loop-d-preserved : goal.loop-d-preserved
loop-d-preserved c =
    let at = goal.at.loop-d-preserved c in
    let t = turn at.In-Some in (
      tt,
      tt,
      cc (c.next.ensures.steps.0, c.loop-d.invariant.2),
      rw t.goes (told_next (over at.In-Some) t.erased c.is_in.ensures (inr (c.if-is_in.false, refl))),
    )

pub returns : goal.returns
returns c =
    let a = c.args in
    let past = ended c.loop-d.invariant.2 c.in-None.ensures.steps.1 in
    told_all (told_over c.loop-d.invariant.3 past) c.requires.table (omega arith)
    ∙ ap (λ (n : ℕ). count n (other_in (layout_of a.grid.size a.grid.base) a.others.now a.parts.now a.name)) (layout-disks a.grid.size a.grid.base)
