-- `layout::down` meets its contract: the definition opened.
-- Assumes nothing.
use mathlib.Core.Path.{refl}
use native.Mathlib.Omega.{arith}
use Rattle.model.specs.Grid.{rows, down}
use Rattle.model.proofs.Grid.{size_fits_lem}
use Rattle.layout.proofs.down.Goals as goal

pub overflow_add-result : goal.overflow_add-result
unfolding rows
overflow_add-result c = let h = (size_fits_lem c.args.size c.requires).rows_high in omega arith

pub returns : goal.returns
unfolding down rows
returns c = refl
