-- `restore::repair::repair_all` meets its contract: after k turns the first k repairs are made.
-- Assumes nothing.
use mathlib.Core.Path.{◌≡◌}
use Rattle.stripes.specs.Repair.{rebuilt}
use Rattle.model.specs.Grid.{layout_of}
use Rattle.entries.specs.Listed.{listed}
use Rattle.restore.proofs.repair.repair_all.Given as goal

abbrev pub invariant-loop-k : goal.invariant-loop-k
invariant-loop-k l = l.array ≡ rebuilt (layout_of l.grid.size l.grid.base) l.stretch l.initial.array (listed l.list l.k)
