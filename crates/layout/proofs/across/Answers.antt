-- `layout::across` meets its contract: the definition opened.
-- Assumes nothing.
use mathlib.Core.Path.{refl}
use native.Mathlib.Omega.{arith}
use Rattle.model.specs.Grid.{columns, across}
use Rattle.model.proofs.Grid.{size_fits_lem}
use Rattle.layout.proofs.across.Goals as goal

pub overflow_add-result : goal.overflow_add-result
unfolding columns
overflow_add-result c = let h = (size_fits_lem c.args.size c.requires).columns_high in omega arith

pub returns : goal.returns
unfolding across columns
returns c = refl
