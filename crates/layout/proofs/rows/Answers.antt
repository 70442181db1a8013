-- `layout::rows` meets its contract: the definition opened.
-- Assumes nothing.
use mathlib.Core.Path.{refl}
use Rattle.model.specs.Grid.{rows}
use Rattle.layout.proofs.rows.Goals as goal

pub returns : goal.returns
unfolding rows
returns c = refl
