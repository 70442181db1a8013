-- `parts::table::extend` meets its contract: the loop changes one way after the other.
-- Assumes nothing.
use lib.Dec.{eqb}
use lib.ListN.{get_or}
use Rattle.stripes.specs.Fold.{◌⊕◌, gate}
use Rattle.parts.proofs.Filled.{Filled}
use Rattle.parts.proofs.table.extend.Given as goal

abbrev pub invariant-loop-s : goal.invariant-loop-s
invariant-loop-s l = Filled (λ i. get_or l.initial.ways i 0 ⊕ gate (eqb (get_or l.parts i 0) l.old) l.links) l.initial.ways l.s l.ways
