-- `replay::allowed` meets its contract: each test that fails refuses the repair, and at last a count decides.
-- Assumes nothing.
use mathlib.Core.Path.{◌≡◌, sym}
use mathlib.Core.Bool.{true}
use native.Mathlib.Omega.{arith}
use Rattle.stripes.specs.Erased.{erasures}
use Rattle.stripes.proofs.Erased.{is_erased, is_present, past_end}
use Rattle.stripes.proofs.Alone.{allowed-present}
use Rattle.model.specs.Grid.{layout_of}
use Rattle.tally.proofs.Counted.{Crossed, erased_crossed, low_held, high_held}
use Rattle.replay.proofs.Replayed.{by_low, by_high, by_neither}
use Rattle.layout.proofs.Runs.{numbered_two}
use Rattle.replay.proofs.allowed.Goals.{After-stripes_of-pair, Else-work-disk-ne1}
use Rattle.replay.proofs.allowed.Goals as goal

pub returns-then-work-disk : goal.returns-then-work-disk
returns-then-work-disk c = sym (allowed-present _ _ _ (past_end _ _ c.if-work-disk.true) _)

pub returns-then-work-disk-ne1 : goal.returns-then-work-disk-ne1
returns-then-work-disk-ne1 c = let h = c.if-work-disk-ne1.true in sym (allowed-present _ _ _ (is_present _ _ (λ e. omega arith)) _)

-- The disk is erased, and these are its stripes.
erased : (c : goal.Else-work-disk-ne1) → let a = c.args in erasures a.work.now a.disk ≡ true
erased c = let h = c.if-work-disk-ne1.false in is_erased _ _ (omega arith)

pub stripes_of-pair-requires-clause-disk_value : goal.stripes_of-pair-requires-clause-disk_value
stripes_of-pair-requires-clause-disk_value c = erased (goal.at.stripes_of-pair-requires-clause-disk_value c).Else-work-disk-ne1

pair : (c : goal.After-stripes_of-pair) →
    let a = c.args in
    Crossed (layout_of a.grid.size a.grid.base) a.disk c.stripes_of-pair.result.low c.stripes_of-pair.result.high
pair c =
    erased_crossed c.requires.tallied.table _ (is_erased _ _ (let h = c.if-work-disk-ne1.false in omega arith)) (numbered_two c.args.grid.numbered) c.stripes_of-pair.ensures

pub bounds-counts-low : goal.bounds-counts-low
bounds-counts-low c = (low_held (pair (goal.at.bounds-counts-low c).After-stripes_of-pair) c.requires.tallied.counted).0

pub returns-then-stripe-low : goal.returns-then-stripe-low
returns-then-stripe-low c = by_low (pair (goal.at.returns-then-stripe-low c).After-stripes_of-pair) c.requires.tallied.counted (erased (goal.at.returns-then-stripe-low c).Else-work-disk-ne1) c.if-stripe-low.true

pub bounds-counts-high : goal.bounds-counts-high
bounds-counts-high c = (high_held (pair (goal.at.bounds-counts-high c).After-stripes_of-pair) c.requires.tallied.counted).0

pub returns-then-stripe-high : goal.returns-then-stripe-high
returns-then-stripe-high c = by_high (pair (goal.at.returns-then-stripe-high c).After-stripes_of-pair) c.requires.tallied.counted (erased (goal.at.returns-then-stripe-high c).Else-work-disk-ne1) c.if-stripe-high.true

pub returns : goal.returns
returns c =
    by_neither (pair (goal.at.returns c).After-stripes_of-pair) c.requires.tallied.counted (erased (goal.at.returns c).Else-work-disk-ne1) c.if-stripe-low.false c.if-stripe-high.false
