-- `refusal::map_fits` meets its contract: a byte for each disk and sector.
-- Assumes nothing.
use mathlib.Core.Path.{◌∙◌, ap}
use Prim.Native.Nat.{ℕ, ◌*◌}
use native.Mathlib.Omega.{arith}
use Rattle.model.specs.Grid.{map_bytes, map_fits}
use Rattle.model.proofs.Grid.{map-bound}
use Rattle.refusal.proofs.map_fits.Goals as goal

pub overflow_mul-disks : goal.overflow_mul-disks
unfolding map_bytes
overflow_mul-disks c =
    let most = map-bound c.args.size c.args.sectors c.requires.size_value c.requires.sectors_value in
    let same = ap (λ (k : ℕ). k * c.args.sectors) c.disks.ensures in
    omega arith

pub returns : goal.returns
unfolding map_bytes
returns c =
    c.bytes_fit.ensures ∙ ap (λ (k : ℕ). map_fits (k * c.args.sectors) c.args.map.now) c.disks.ensures
