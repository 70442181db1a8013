-- `layout::stripe::Grid::bound` meets its contract: the definition opened.
-- Assumes nothing.
use mathlib.Core.Path.{ap}
use Prim.Native.Nat.{ℕ, ◌+◌}
use native.Mathlib.Omega.{arith}
use Rattle.model.specs.Grid.{grid, across, layout_of}
use Rattle.layout.proofs.stripe.Grid.bound.Goals as goal

pub across-requires : goal.across-requires
across-requires c = c.args.self.numbered.fits

pub overflow_add-result : goal.overflow_add-result
overflow_add-result c = let low = c.args.self.numbered.small in let e = c.across.ensures in omega arith

pub returns : goal.returns
unfolding layout_of grid across
returns c = ap (λ (w : ℕ). c.args.self.base + w) c.across.ensures
