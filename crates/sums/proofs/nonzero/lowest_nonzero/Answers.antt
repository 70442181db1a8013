-- `sums::nonzero::lowest_nonzero` meets its contract: the lowest row, or else the lowest column.
-- Assumes nothing.
use Prim.Native.Nat.{◌+◌}
use native.Mathlib.Omega.{arith}
use Rattle.model.specs.Grid.{across, down}
use Rattle.stripes.proofs.Fold.{lowest_is}
use Rattle.sums.specs.Held.{nonzero}
use Rattle.sums.proofs.Stripes.{row-answer, column-answer}
use Rattle.sums.proofs.nonzero.lowest_nonzero.Goals as goal

pub returns-then-row-down : goal.returns-then-row-down
returns-then-row-down c =
    row-answer c.args.grid.size c.args.grid.base c.args.grid.numbered.above c.args.stretch c.args.array.now _ c.lowest_row-row.ensures
    (let h = c.if-row-down.true in let e = c.down.ensures in omega arith)

pub lowest_column-requires : goal.lowest_column-requires
lowest_column-requires c =
    let size = c.args.grid.size in
    let none = (lowest_is (down size) (nonzero size c.args.grid.base c.args.stretch c.args.array.now)).within in
    let row = c.lowest_row-row.ensures in
    let all = c.if-row-down.false in
    let height = c.down.ensures in
    record {
      held = c.requires.held;
      array_value = omega arith;
    }

pub overflow_add-result : goal.overflow_add-result
overflow_add-result c =
    let size = c.args.grid.size in
    let most = (lowest_is (across size) (λ k. nonzero size c.args.grid.base c.args.stretch c.args.array.now (c.args.grid.base + k))).within in
    let column = c.lowest_column.ensures in
    let small = c.args.grid.numbered.small in
    omega arith

pub returns : goal.returns
returns c =
    column-answer c.args.grid.size c.args.grid.base c.args.grid.numbered.above c.args.stretch c.args.array.now _
    c.lowest_row-row.ensures
    (let h = c.if-row-down.false in let e = c.down.ensures in omega arith) _ c.lowest_column.ensures
