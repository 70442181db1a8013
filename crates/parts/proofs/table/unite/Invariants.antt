-- `parts::table::unite` meets its contract: the loop gives one stripe after the other its new name.
-- Assumes nothing.
use lib.ListN.{get_or}
use Rattle.stripes.specs.Joined.{united}
use Rattle.parts.proofs.Filled.{Filled}
use Rattle.parts.proofs.table.unite.Given as goal

abbrev pub invariant-loop-s : goal.invariant-loop-s
invariant-loop-s l = Filled (united l.low l.high (λ i. get_or l.initial.parts i 0)) l.initial.parts l.s l.parts
