-- `sums::nonzero::lowest_column` meets its contract.
-- Assumes nothing.
use mathlib.Core.Path.{◌∙◌, sym}
use native.Mathlib.Omega.{arith}
use Rattle.sums.proofs.Stripes.{columns_reach, rest_reach, row-bytes-small, column-lowest, columns-none}
use Rattle.sums.proofs.nonzero.lowest_column.Goals as goal

pub overflow_mul-row_bytes : goal.overflow_mul-row_bytes
overflow_mul-row_bytes c =
    let small = (row-bytes-small c.args.grid.size c.args.grid.numbered.fits c.args.stretch.block c.requires.held.block).0 in
    rw c.across-across.ensures (omega arith)

pub overflow_mul-rest : goal.overflow_mul-rest
overflow_mul-rest c =
    let small = (row-bytes-small c.args.grid.size c.args.grid.numbered.fits c.args.stretch.block c.requires.held.block).1 in
    rw c.columns.ensures (omega arith)

pub cancels-requires : goal.cancels-requires
cancels-requires c =
    let reach = rest_reach c.args.grid.size c.args.stretch c.args.array.now c.requires.held in
    rw (c.across-across.ensures, c.down-down.ensures, c.columns.ensures)
    (record { within = reach.0; len_in_bounds = reach.1 })

pub returns-then-cancels : goal.returns-then-cancels
returns-then-cancels c =
    let inside = c.requires.held.inside in
    let whole = c.if-stretch.true in
    rw c.across-across.ensures
    (columns-none c.args.grid.size c.args.grid.base c.args.grid.numbered.above c.args.stretch c.args.array.now c.requires.array_value
    (omega arith) whole
    (rw (c.across-across.ensures, c.down-down.ensures, c.columns.ensures) at (sym c.cancels.ensures ∙ c.if-cancels.true)))

pub lowest_nonzero-requires : goal.lowest_nonzero-requires
lowest_nonzero-requires c =
    let reach = columns_reach c.args.grid.size c.args.stretch c.args.array.now c.requires.held in
    rw (c.across-across.ensures, c.down-down.ensures) (record { by_index = reach.0; by_index_2 = reach.1 })

pub returns : goal.returns
returns c =
    c.lowest_nonzero.ensures
    ∙ rw (c.across-across.ensures, c.down-down.ensures)
    (column-lowest c.args.grid.size c.args.grid.base c.args.grid.numbered.above c.args.stretch c.args.array.now)
