-- `parts::lost::is_undetermined` meets its contract: the two stripes of the disk have their places in the table.
-- Assumes nothing.
use mathlib.Core.Path.{◌∙◌}
use Rattle.stripes.specs.Fold.{◌⊕◌}
use Rattle.model.specs.Grid.{layout_of}
use Rattle.layout.proofs.Runs.{numbered_two}
use Rattle.tally.proofs.Counted.{Crossed, erased_crossed}
use Rattle.parts.proofs.Parted.{crossed_places}
use Rattle.parts.proofs.Read.{read_undetermined}
use Rattle.parts.proofs.lost.is_undetermined.Goals.{After-stripes_of-pair}
use Rattle.parts.proofs.lost.is_undetermined.Goals as goal

-- The disk with its stripes.
pair : (c : goal.After-stripes_of-pair) →
    let a = c.args in
    Crossed (layout_of a.grid.size a.grid.base) a.disk c.stripes_of-pair.result.low c.stripes_of-pair.result.high
pair c =
    erased_crossed c.requires.table _ c.requires.disk_value (numbered_two c.args.grid.numbered) c.stripes_of-pair.ensures

pub bounds-ways-low : goal.bounds-ways-low
bounds-ways-low c = (crossed_places (pair (goal.at.bounds-ways-low c).After-stripes_of-pair) c.requires.walked.stripes_fit).0

pub bounds-ways-high : goal.bounds-ways-high
bounds-ways-high c = (crossed_places (pair (goal.at.bounds-ways-high c).After-stripes_of-pair) c.requires.walked.stripes_fit).1

pub returns : goal.returns
unfolding ◌⊕◌
returns c =
    c.holds.ensures ∙ read_undetermined c.requires.disk_value (pair (goal.at.returns c).After-stripes_of-pair) c.requires.walked c.requires.closed_value
