-- `layout::array_bytes` meets its contract.
-- Assumes nothing.
use mathlib.Core.Path.{ap}
use Prim.Native.Nat.{ℕ, ◌*◌}
use native.Mathlib.Omega.{arith}
use Rattle.model.specs.Grid.{array_bytes}
use Rattle.model.proofs.Grid.{size_fits_lem, block_fits_lem, bytes-bound}
use Rattle.layout.proofs.array_bytes.Goals as goal

pub overflow_mul-result : goal.overflow_mul-result
unfolding array_bytes
overflow_mul-result c =
    let h = bytes-bound c.args.size (size_fits_lem c.args.size c.requires.size_value) c.args.block (block_fits_lem c.args.block c.requires.block_value) in
    let e = ap (λ (n : ℕ). n * c.args.block) c.disks.ensures in
    omega arith

pub returns : goal.returns
unfolding array_bytes
returns c = ap (λ (n : ℕ). n * c.args.block) c.disks.ensures
