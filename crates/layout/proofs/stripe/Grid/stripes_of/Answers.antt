-- `layout::stripe::Grid::stripes_of` meets its contract: the row and the column of the disk.
-- Assumes nothing.
use mathlib.Core.Path.{ap, sym}
use mathlib.Core.List.{[], ◌∷◌}
use Prim.Native.Nat.{ℕ, ◌+◌, ◌/◌, ◌%◌, ◌<◌}
use native.Mathlib.Nat.{mod-lt}
use native.Mathlib.Omega.{arith}
use Rattle.model.specs.Grid.{grid, across, layout_of}
use Rattle.model.proofs.Grid.{across_positive}
use Rattle.layout.proofs.stripe.Grid.stripes_of.Goals as goal

pub across-across-requires : goal.across-across-requires
across-across-requires c = c.args.self.numbered.fits

pub nonzero_div-result : goal.nonzero_div-result
nonzero_div-result c = let h = across_positive c.args.self.size in let e = c.across-across.ensures in omega arith

pub nonzero_rem-result : goal.nonzero_rem-result
nonzero_rem-result c = let h = across_positive c.args.self.size in let e = c.across-across.ensures in omega arith

pub overflow_add-result : goal.overflow_add-result
overflow_add-result c =
    let low = c.args.self.numbered.small in
    let e = c.across-across.ensures in
    let h = across_positive c.args.self.size in
    let some : 0 < c.across-across.result = omega arith in
    let b = mod-lt c.args.disk some in
    omega arith

pub returns : goal.returns
unfolding layout_of grid across
returns c =
    let s = c.args in
    sym (ap (λ (w : ℕ). (s.disk / w) ∷ (s.self.base + s.disk % w) ∷ []) c.across-across.ensures)
