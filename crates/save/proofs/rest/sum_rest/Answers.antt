-- `save::rest::sum_rest` meets its contract: each turn of the loop judges one erased disk, and sums it if it is determined.
-- Assumes nothing.
use mathlib.Core.Path.{◌≡◌, refl, ◌∙◌}
use mathlib.Core.Bool.{true, false}
use mathlib.Core.Logic.{◌⊎◌, inl, inr}
use Prim.Native.Nat.{ℕ, ◌+◌, ◌<◌}
use native.Mathlib.Omega.{arith}
use borrow.Author.Rules.{rules}
use Rattle.model.specs.Grid.{layout_of}
use Rattle.model.proofs.Grid.{layout-disks, disks-bound, size_fits_lem}
use Rattle.layout.proofs.Runs.{stripes_few}
use Rattle.tally.proofs.Scanned.{Turned, turned, ended}
use Rattle.tally.proofs.Counted.{erased-inside}
use Rattle.sums.specs.Held.{Held}
use Rattle.save.proofs.Summed.{Rest, sized_as, rest-none, rest_over, rest-few, rest_all, rest-next}
use Rattle.save.proofs.rest.sum_rest.Goals.{In-Some, After-sum_disk}
use Rattle.save.proofs.rest.sum_rest.Goals as goal

pub link_all-closed-requires : goal.link_all-closed-requires
link_all-closed-requires c =
    let few = stripes_few c.args.grid.numbered in
    record {
      table = c.requires.table;
      base_in_bounds = omega arith;
      base_in_bounds_2 = omega arith;
    }

pub loop-d-init : goal.loop-d-init
loop-d-init c =
    let begun : c.into_iter-d-iterator.result ≡ c.erased-d-items.result = c.into_iter-d-iterator.ensures.into_iter_gives in
    let start : c.into_iter-d-iterator.result.from ≡ 0 = cc (begun, c.erased-d-items.ensures.start) in
    (tt, tt, cc (begun, c.erased-d-items.ensures.map), refl, rw start (rest-none c.requires.held.inside (sized_as c.args.grid.size c.args.grid.base c.requires.held)))

-- The turn of the loop.
turn : (c : goal.In-Some) → Turned c.args.work.now c.loop-d.d-iterator.from c.in-Some.d c.next.new.self.from
turn c = turned c.loop-d.invariant.2 c.in-Some.ensures.steps.1

over : (c : goal.In-Some) →
    let a = c.args in
    Rest (layout_of a.grid.size a.grid.base) a.stretch a.work.now a.array.now c.in-Some.d c.loop-d.array c.loop-d.number
over c =
    rest_over c.requires.held.inside (sized_as c.args.grid.size c.args.grid.base c.requires.held) c.loop-d.invariant.4 c.requires.table (turn c).passed

pub sum_disk-requires : goal.sum_disk-requires
sum_disk-requires c =
    let held : Held c.args.grid.size c.args.stretch c.loop-d.array =
    record { inside = c.requires.held.inside; block = c.requires.held.block; sized = c.loop-d.invariant.3 ∙ c.requires.held.sized } in
    let all = c.link_all-closed.ensures in
    record {
      held = held;
      table = c.requires.table;
      disk_value = (turn (goal.at.sum_disk-requires c).In-Some).erased;
      parted = all.parts;
      walked = all.ways;
      closed_value = all.answer;
    }

-- The number of its disk is small.
small : (c : goal.In-Some) → c.in-Some.d < 256
small c =
    let inside = erased-inside c.requires.table _ (turn c).erased in
    let same = layout-disks c.args.grid.size c.args.grid.base in
    let most = disks-bound c.args.grid.size (size_fits_lem c.args.grid.size c.args.grid.numbered.fits) in
    omega arith

pub overflow_add-number : goal.overflow_add-number
overflow_add-number c =
    let at = (goal.at.overflow_add-number c).In-Some in
    omega (arith, rest-few c.requires.held.inside (sized_as c.args.grid.size c.args.grid.base c.requires.held) (over at), small at)

-- What is summed after it, where the number becomes `next`.
summed : (c : goal.After-sum_disk) → {next : ℕ}
    → ((c.sum_disk.result ≡ true) × (next ≡ c.loop-d.number + 1)) ⊎ ((c.sum_disk.result ≡ false) × (next ≡ c.loop-d.number))
    → let a = c.args in
    Rest (layout_of a.grid.size a.grid.base) a.stretch a.work.now a.array.now c.next.new.self.from c.sum_disk.new.array next
summed c came =
    let at = (goal.at.After-sum_disk c).In-Some in
    rw (turn at).goes
    (rest-next c.requires.held.inside (sized_as c.args.grid.size c.args.grid.base c.requires.held) (over at) c.sum_disk.ensures.answer
    c.sum_disk.ensures.array came)

pub loop-d-preserved-then-sum_disk : goal.loop-d-preserved-then-sum_disk
loop-d-preserved-then-sum_disk c = (
  tt,
  tt,
  cc (c.next.ensures.steps.0, c.loop-d.invariant.2),
  search rules,
  summed (goal.at.loop-d-preserved-then-sum_disk c).After-sum_disk (inl (c.if-sum_disk.true, refl)),
)

pub loop-d-preserved : goal.loop-d-preserved
loop-d-preserved c = (
  tt,
  tt,
  cc (c.next.ensures.steps.0, c.loop-d.invariant.2),
  search rules,
  summed (goal.at.loop-d-preserved c).After-sum_disk (inr (c.if-sum_disk.false, refl)),
)

pub returns : goal.returns
returns c =
    let held = sized_as c.args.grid.size c.args.grid.base c.requires.held in
    let passed = ended c.loop-d.invariant.2 c.in-None.ensures.steps.1 in
    let (h0, h1) = rest_all c.requires.held.inside held (rest_over c.requires.held.inside held c.loop-d.invariant.4 c.requires.table passed) c.requires.table (omega arith) in
    record {
      number = h0;
      array = h1;
    }
