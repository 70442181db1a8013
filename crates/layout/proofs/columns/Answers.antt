-- `layout::columns` meets its contract: the definition opened.
-- Assumes nothing.
use mathlib.Core.Path.{refl}
use Rattle.model.specs.Grid.{columns}
use Rattle.layout.proofs.columns.Goals as goal

pub returns : goal.returns
unfolding columns
returns c = refl
