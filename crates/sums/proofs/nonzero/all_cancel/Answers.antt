-- `sums::nonzero::all_cancel` meets its contract: no stripe is found exactly if every sum is zero.
-- Assumes nothing.
use Rattle.model.specs.Grid.{layout_of}
use Rattle.sums.proofs.Stripes.{none-consistent}
use Rattle.sums.proofs.nonzero.all_cancel.Goals as goal

pub returns : goal.returns
returns c =
    let s = c.args in
    rw c.bound.ensures
    (none-consistent (layout_of s.grid.size s.grid.base) s.stretch s.array.now c.lowest_nonzero.result c.lowest_nonzero.ensures)
