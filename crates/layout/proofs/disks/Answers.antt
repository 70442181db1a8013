-- `layout::disks` meets its contract.
-- Assumes nothing.
use mathlib.Core.Path.{ap₂}
use Prim.Native.Nat.{ℕ, ◌*◌}
use native.Mathlib.Omega.{arith}
use Rattle.model.specs.Grid.{disks}
use Rattle.model.proofs.Grid.{size_fits_lem, disks-bound}
use Rattle.layout.proofs.disks.Goals as goal

pub overflow_mul-result : goal.overflow_mul-result
unfolding disks
overflow_mul-result c =
    let h = disks-bound c.args.size (size_fits_lem c.args.size c.requires) in
    let e = ap₂ (λ (x y : ℕ). x * y) c.down.ensures c.across.ensures in
    omega arith

pub returns : goal.returns
unfolding disks
returns c = ap₂ (λ (x y : ℕ). x * y) c.down.ensures c.across.ensures
