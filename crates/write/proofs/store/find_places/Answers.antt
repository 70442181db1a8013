-- `write::store::find_places` meets its contract: the disks are those of the data disk's row and column, and the last.
-- Assumes nothing.
use native.Mathlib.Nat.{le_of_lt, le_of_eq}
use native.Mathlib.Omega.{arith}
use Rattle.model.proofs.Grid.{across_positive, disk-below, data_row, data_column, data_below}
use Rattle.write.proofs.Turns.{start-bound}
use Rattle.write.proofs.store.find_places.Goals.{After-across-across, After-disk_at, After-disk_at-2}
use Rattle.write.proofs.store.find_places.Goals as goal

pub overflow_mul-result : goal.overflow_mul-result
overflow_mul-result c = omega (arith, start-bound _ _ c.requires.size_value c.requires.block_value _ (data_below _ _ c.requires.disk_value))

pub nonzero_div-disk : goal.nonzero_div-disk
nonzero_div-disk c = omega (arith, across_positive c.args.size)

pub disk_at-requires : goal.disk_at-requires
disk_at-requires c =
    record {
      size_value = c.requires.size_value;
      row_bound = rw c.across-across.ensures (le_of_lt (data_row _ _ c.requires.disk_value));
      column_bound = le_of_eq c.columns-last_column.ensures;
    }

pub overflow_mul-result-2 : goal.overflow_mul-result-2
overflow_mul-result-2 c =
    let r = disk_at-requires (goal.at.overflow_mul-result-2 c).After-across-across in
    omega (arith, start-bound _ _ c.requires.size_value c.requires.block_value c.disk_at.result (rw c.disk_at.ensures (disk-below _ _ _ r.row_bound r.column_bound)))

pub nonzero_rem-disk : goal.nonzero_rem-disk
nonzero_rem-disk c = omega (arith, across_positive c.args.size)

pub disk_at-requires-2 : goal.disk_at-requires-2
disk_at-requires-2 c =
    record {
      size_value = c.requires.size_value;
      row_bound = le_of_eq c.rows-last_row.ensures;
      column_bound = rw c.across-across.ensures (le_of_lt (data_column _ _ c.requires.disk_value));
    }

pub overflow_mul-result-3 : goal.overflow_mul-result-3
overflow_mul-result-3 c =
    let r = disk_at-requires-2 (goal.at.overflow_mul-result-3 c).After-disk_at in
    omega (arith, start-bound _ _ c.requires.size_value c.requires.block_value c.disk_at-2.result (rw c.disk_at-2.ensures (disk-below _ _ _ r.row_bound r.column_bound)))

pub disk_at-requires-3 : goal.disk_at-requires-3
disk_at-requires-3 c =
    let r = disk_at-requires-2 (goal.at.disk_at-requires-3 c).After-disk_at in
    record {
      size_value = r.size_value;
      row_bound = r.row_bound;
      column_bound = le_of_eq c.columns-last_column.ensures;
    }

pub overflow_mul-result-4 : goal.overflow_mul-result-4
overflow_mul-result-4 c =
    let r = disk_at-requires-3 (goal.at.overflow_mul-result-4 c).After-disk_at-2 in
    omega (arith, start-bound _ _ c.requires.size_value c.requires.block_value c.disk_at-3.result (rw c.disk_at-3.ensures (disk-below _ _ _ r.row_bound r.column_bound)))

pub returns : goal.returns
returns c = cc
