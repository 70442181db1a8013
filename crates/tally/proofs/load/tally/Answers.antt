-- `tally::load::tally` meets its contract: each turn of the loop enters and counts one erased disk.
-- Assumes nothing.
use mathlib.Core.Path.{◌≡◌, ◌∙◌, ap}
use Prim.Native.Nat.{ℕ, ◌+◌, ◌*◌, ◌<◌}
use native.Mathlib.Omega.{arith}
use borrow.Author.Rules.{rules}
use lib.ListN.{length}
use Rattle.stripes.specs.Fold.{count}
use Rattle.stripes.specs.Erased.{erasures}
use Rattle.stripes.proofs.Erased.{is_inside}
use Rattle.model.specs.Grid.{layout_of}
use Rattle.model.proofs.Grid.{layout-disks}
use Rattle.layout.proofs.Runs.{numbered_two, held-few, stripes_few}
use Rattle.tally.proofs.Scanned.{Turned, turned, ended}
use Rattle.tally.proofs.Counted.{Crossed, crossed}
use Rattle.tally.proofs.Loaded.{Loaded, loaded_none, loaded_over, loaded_few, low-room, high-room, loaded_next, loaded_all}
use Rattle.tally.proofs.load.tally.Goals.{In-Some, In-None, After-stripes_of-pair}
use Rattle.tally.proofs.load.tally.Goals as goal

pub loop-d-init : goal.loop-d-init
loop-d-init c =
    let few = stripes_few c.args.grid.numbered in
    let begun : c.into_iter-d-iterator.result ≡ c.erased-d-items.result = c.into_iter-d-iterator.ensures.into_iter_gives in
    let start : c.into_iter-d-iterator.result.from ≡ 0 = cc (begun, c.erased-d-items.ensures.start) in
    (tt, tt, cc (begun, c.erased-d-items.ensures.map), search rules, search rules, rw (start, c.wipe.ensures) (loaded_none _ _ _ _ (search rules)))

-- The turn of the loop.
turn : (c : goal.In-Some) → Turned c.args.work.now c.loop-d.d-iterator.from c.in-Some.d c.next.new.self.from
turn c = turned c.loop-d.invariant.2 c.in-Some.ensures.steps.1

over : (c : goal.In-Some) →
    Loaded (layout_of c.args.grid.size c.args.grid.base) c.args.work.now c.in-Some.d c.loop-d.stripes
    c.loop-d.counts c.loop-d.number
over c = loaded_over c.loop-d.invariant.5 (turn c).passed

pub stripes_of-pair-requires : goal.stripes_of-pair-requires
stripes_of-pair-requires c =
    record { disk_bound = is_inside _ (erasures c.args.work.now) c.requires.by_index _ (turn (goal.at.stripes_of-pair-requires c).In-Some).erased }

-- Its stripes, and its place in the table.
pair : (c : goal.After-stripes_of-pair) →
    let a = c.args in
    Crossed (layout_of a.grid.size a.grid.base) c.in-Some.d c.stripes_of-pair.result.low c.stripes_of-pair.result.high
pair c =
    let same = layout-disks c.args.grid.size c.args.grid.base in
    let inside = is_inside _ (erasures c.args.work.now) c.requires.by_index _ (turned c.loop-d.invariant.2 c.in-Some.ensures.steps.1).erased in
    crossed (numbered_two c.args.grid.numbered) (omega arith) c.stripes_of-pair.ensures

place : (c : goal.In-Some) → 2 * c.in-Some.d + 1 < length c.loop-d.stripes
place c = omega (arith, (turn c).inside, c.loop-d.invariant.3, c.requires.work_in_bounds)

pub enter-requires : goal.enter-requires
enter-requires c =
    let few = stripes_few c.args.grid.numbered in
    let x = pair (goal.at.enter-requires c).After-stripes_of-pair in
    record {
      disk_in_bounds = place (goal.at.enter-requires c).In-Some;
      low_bound = omega (arith, x.low_bound);
      high_bound = omega (arith, x.high_bound);
    }

pub raise-requires : goal.raise-requires
raise-requires c =
    let at = goal.at.raise-requires c in
    let (h0, h1) = low-room (over at.In-Some) (turn at.In-Some).erased (pair at.After-stripes_of-pair) (held-few c.args.grid.numbered) in
    record {
      stripe_in_bounds = h0;
      stripe_bound = h1;
    }

pub raise-requires-in-loop-d : goal.raise-requires-in-loop-d
raise-requires-in-loop-d c =
    let at = goal.at.raise-requires-in-loop-d c in
    let (h0, h1) = high-room (over at.In-Some) (turn at.In-Some).erased (pair at.After-stripes_of-pair) (held-few c.args.grid.numbered) c.raise.ensures in
    record {
      stripe_in_bounds = h0;
      stripe_bound = h1;
    }

pub overflow_add-number : goal.overflow_add-number
overflow_add-number c =
    let same = layout-disks c.args.grid.size c.args.grid.base in
    omega (arith, loaded_few c.loop-d.invariant.5, c.requires.size_in_bounds)

pub loop-d-preserved : goal.loop-d-preserved
loop-d-preserved c =
    let at = goal.at.loop-d-preserved c in
    let t = turn at.In-Some in
    let enter = c.enter in
    let raise = c.raise in
    let all = loaded_next (over at.In-Some) t.erased (pair at.After-stripes_of-pair) (held-few c.args.grid.numbered) raise.ensures (place at.In-Some) enter.ensures
    c.raise-in-loop-d.ensures in (
      tt,
      tt,
      cc (c.next.ensures.steps.0, c.loop-d.invariant.2),
      enter.auto.stripes ∙ c.loop-d.invariant.3,
      c.raise-in-loop-d.auto.counts ∙ raise.auto.counts ∙ c.loop-d.invariant.4,
      rw t.goes all,
    )

pub returns : goal.returns
returns c =
    let same = layout-disks c.args.grid.size c.args.grid.base in
    let p = ended c.loop-d.invariant.2 c.in-None.ensures.steps.1 in
    let all = loaded_all (loaded_over c.loop-d.invariant.5 p) (omega arith) (search rules) (λ i h. c.requires.by_index i (omega arith)) (omega arith) in
    record {
      number = all.0 ∙ ap (λ (n : ℕ). count n (erasures c.args.work.now)) same;
      tallied = all.1;
    }
