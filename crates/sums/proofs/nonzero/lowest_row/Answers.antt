-- `sums::nonzero::lowest_row` meets its contract.
-- Assumes nothing.
use mathlib.Core.Path.{◌∙◌}
use native.Mathlib.Omega.{arith}
use Rattle.sums.proofs.Stripes.{rows_reach, row-bytes-small, row-lowest}
use Rattle.sums.proofs.nonzero.lowest_row.Goals as goal

pub overflow_mul-row_bytes : goal.overflow_mul-row_bytes
overflow_mul-row_bytes c =
    let small = (row-bytes-small c.args.grid.size c.args.grid.numbered.fits c.args.stretch.block c.requires.held.block).0 in
    rw c.across-across.ensures (omega arith)

pub lowest_nonzero-requires : goal.lowest_nonzero-requires
lowest_nonzero-requires c =
    let reach = rows_reach c.args.grid.size c.args.stretch c.args.array.now c.requires.held in
    rw (c.across-across.ensures, c.down-down.ensures) (record { by_index = reach.0; by_index_2 = reach.1 })

pub returns : goal.returns
returns c =
    c.lowest_nonzero.ensures
    ∙ rw (c.across-across.ensures, c.down-down.ensures)
    (row-lowest c.args.grid.size c.args.grid.base c.args.grid.numbered.above c.args.stretch c.args.array.now)
