-- `cycle::trace` meets its contract: the steps so far are listed.
-- Assumes nothing.
use mathlib.Core.Path.{◌≡◌, refl, sym, ◌∙◌, ap}
use mathlib.Core.Bool.{true}
use Prim.Native.Nat.{◌≤◌, ◌<◌}
use native.Mathlib.Omega.{arith}
use lib.ListN.{length}
use Rattle.stripes.specs.Erased.{erasures}
use Rattle.model.specs.Grid.{layout_of}
use Rattle.tally.proofs.Counted.{erased-inside}
use Rattle.cycle.proofs.Turn.{Traced, traced, pair_rises, turn_first, turn_ends, turn_some, turn_erased, turn_fits, turn_closes, turn_next, answers}
use Rattle.cycle.proofs.trace.Goals.{After-partner-disk, In-loop-k, Start}
use Rattle.cycle.proofs.trace.Goals as goal

given : (c : goal.Start) → Traced (layout_of c.args.grid.size c.args.grid.base) c.args.set.now c.args.stripes.now
given c = let p = c.requires in traced _ _ _ _ c.args.grid.numbered p.table p.paired p.set_bound

-- A turn that is taken is within the bound, and has room in the list.
begun : (c : goal.In-loop-k) →
    (c.loop-k.k < (layout_of c.args.grid.size c.args.grid.base).stripe_bound) × (32 ≤ length c.loop-k.list)
begun c =
    let e = c.bound-bound.ensures in
    let long = c.requires.capacity_in_bounds in
    let same = c.loop-k.invariant.0 in
    (omega arith, omega arith)

-- The disk that follows is one of the set.
erased : (c : goal.After-partner-disk) → Traced (layout_of c.args.grid.size c.args.grid.base) c.args.set.now c.args.stripes.now
    → erasures c.args.set.now c.partner-disk.result ≡ true
erased c g = turn_erased g c.loop-k.invariant.1 c.partner-disk.ensures

pub stripes_of-stripe-requires-clause-disk_value : goal.stripes_of-stripe-requires-clause-disk_value
stripes_of-stripe-requires-clause-disk_value c = ap (erasures c.args.set.now) c.next_erased-start.ensures ∙ (given (goal.at.stripes_of-stripe-requires-clause-disk_value c).Start).erased

pub loop-k-init : goal.loop-k-init
loop-k-init c = (refl, turn_first (given (goal.at.loop-k-init c).Start) _ c.next_erased-start.ensures c.stripes_of-stripe.ensures)

pub put-requires : goal.put-requires
put-requires c =
    let (low, room) = begun (goal.at.put-requires c).In-loop-k in
    let (h0, (h1, h2)) = turn_fits (given (goal.at.put-requires c).Start) c.loop-k.invariant.1 low room in
    record {
      k_in_bounds = h0;
      disk_bound = h1;
      stripe_bound = h2;
    }

pub partner-disk-requires-clause-stripe_bound : goal.partner-disk-requires-clause-stripe_bound
partner-disk-requires-clause-stripe_bound c = turn_some (given (goal.at.partner-disk-requires-clause-stripe_bound c).Start) c.loop-k.invariant.1

pub stripes_of-requires-clause-disk_value : goal.stripes_of-requires-clause-disk_value
stripes_of-requires-clause-disk_value c =
    erased (goal.at.stripes_of-requires-clause-disk_value c).After-partner-disk (given (goal.at.stripes_of-requires-clause-disk_value c).Start)

pub other_of-stripe-requires : goal.other_of-stripe-requires
other_of-stripe-requires c =
    let g = given (goal.at.other_of-stripe-requires c).Start in
    pair_rises g.two (erased-inside g.table _ (erased (goal.at.other_of-stripe-requires c).After-partner-disk g)) c.stripes_of.ensures

pub loop-k-preserved : goal.loop-k-preserved
loop-k-preserved c =
    let (low, room) = begun (goal.at.loop-k-preserved c).In-loop-k in (
      c.put.auto.list ∙ c.loop-k.invariant.0,
      turn_next (given (goal.at.loop-k-preserved c).Start) c.loop-k.invariant.1 low room c.put.ensures c.partner-disk.ensures
          (λ e. c.if-disk-start.false (e ∙ sym c.next_erased-start.ensures)) _ c.stripes_of.ensures c.other_of-stripe.ensures,
    )

pub returns : goal.returns
returns c =
    let e = c.bound-bound.ensures in
    let end : c.bound-bound.result ≡ c.loop-k.k = omega arith in
    let (h0, h1) = answers _ _ (turn_ends (given (goal.at.returns c).Start) c.loop-k.invariant.1 (omega arith)) in
    record {
      number = end ∙ h0;
      list = rw end h1;
    }

pub returns-then-disk-start : goal.returns-then-disk-start
returns-then-disk-start c =
    let (low, room) = begun (goal.at.returns-then-disk-start c).In-loop-k in
    let (h0, h1) = answers _ _
    (turn_closes (given (goal.at.returns-then-disk-start c).Start) c.loop-k.invariant.1 low room c.put.ensures c.partner-disk.ensures
    (c.if-disk-start.true ∙ c.next_erased-start.ensures)) in
    record {
      number = h0;
      list = h1;
    }
