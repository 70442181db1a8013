-- `parts::side::mark` meets its contract: the loop judges one stripe after the other.
-- Assumes nothing.
use mathlib.Core.Path.{◌∙◌}
use native.Mathlib.Omega.{arith}
use Rattle.stripes.specs.Fold.{◌⊕◌}
use Rattle.model.specs.Grid.{layout_of}
use Rattle.layout.proofs.Runs.{numbered_two}
use Rattle.tally.proofs.Counted.{Crossed, erased_crossed}
use Rattle.parts.proofs.Filled.{filled_next, filled_all}
use Rattle.parts.proofs.Parted.{crossed_places}
use Rattle.parts.proofs.Read.{read_side}
use Rattle.parts.proofs.side.mark.Goals.{After-stripes_of-pair}
use Rattle.parts.proofs.side.mark.Goals as goal

-- The disk with its stripes.
pair : (c : goal.After-stripes_of-pair) →
    let a = c.args in
    Crossed (layout_of a.grid.size a.grid.base) a.disk c.stripes_of-pair.result.low c.stripes_of-pair.result.high
pair c =
    erased_crossed c.requires.table _ c.requires.disk_value (numbered_two c.args.grid.numbered) c.stripes_of-pair.ensures

pub bounds-parts-low : goal.bounds-parts-low
bounds-parts-low c = (crossed_places (pair (goal.at.bounds-parts-low c).After-stripes_of-pair) c.requires.parted.stripes_fit).0

pub bounds-ways-low : goal.bounds-ways-low
bounds-ways-low c = (crossed_places (pair (goal.at.bounds-ways-low c).After-stripes_of-pair) c.requires.walked.stripes_fit).0

pub bounds-ways-high : goal.bounds-ways-high
bounds-ways-high c = (crossed_places (pair (goal.at.bounds-ways-high c).After-stripes_of-pair) c.requires.walked.stripes_fit).1

pub loop-s-preserved : goal.loop-s-preserved
unfolding ◌⊕◌
loop-s-preserved c =
    let is = c.bound-s-end.ensures in
    let fits = c.requires.base_in_bounds in
    let long = c.loop-s.invariant.long in
    filled_next c.loop-s.invariant _ (omega (arith, c.loop-s-test.true)) c.beside.ensures

pub returns : goal.returns
unfolding ◌⊕◌
returns c =
    let e = c.requires in
    let is = c.bound-s-end.ensures in
    let all = filled_all c.loop-s.invariant {n = (layout_of c.args.grid.size c.args.grid.base).stripe_bound} (omega arith) in
    λ s l. all s l ∙ read_side e.disk_value (pair (goal.at.returns c).After-stripes_of-pair) e.walked e.parted e.disk_value_2 s l
