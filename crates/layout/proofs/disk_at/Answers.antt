-- `layout::disk_at` meets its contract.
-- Assumes nothing.
use mathlib.Core.Path.{ap}
use Prim.Native.Nat.{ℕ, ◌+◌, ◌*◌, ◌<◌}
use native.Mathlib.Omega.{arith}
use Rattle.model.specs.Grid.{disk_at}
use Rattle.model.proofs.Grid.{size_fits_lem, disks-bound, disk-below}
use Rattle.layout.proofs.disk_at.Goals.{After-across}
use Rattle.layout.proofs.disk_at.Goals as goal

-- The disk is one of the grid, which has 256 at most.
small : (c : goal.After-across) → c.args.row * c.across.result + c.args.column < 256
unfolding disk_at
small c =
    let a = c.args in
    let p = c.requires in
    let h = disks-bound a.size (size_fits_lem a.size p.size_value) in
    let l = disk-below a.size a.row a.column p.row_bound p.column_bound in
    let e = ap (λ (w : ℕ). a.row * w) c.across.ensures in
    omega arith

pub across-requires : goal.across-requires
across-requires c = c.requires.size_value

pub overflow_mul-result : goal.overflow_mul-result
overflow_mul-result c = let s = small (goal.at.overflow_mul-result c).After-across in omega arith

pub overflow_add-result : goal.overflow_add-result
overflow_add-result c = let s = small (goal.at.overflow_add-result c).After-across in omega arith

pub returns : goal.returns
unfolding disk_at
returns c = ap (λ (w : ℕ). c.args.row * w + c.args.column) c.across.ensures
