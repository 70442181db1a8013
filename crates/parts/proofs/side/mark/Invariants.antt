-- `parts::side::mark` meets its contract: the loop judges one stripe after the other.
-- Assumes nothing.
use mathlib.Core.Bool.{not, ◌&&◌}
use lib.Bits.{bit_or}
use lib.Dec.{eqb}
use lib.ListN.{get_or}
use Rattle.stripes.specs.Fold.{◌⊕◌, bit}
use Rattle.parts.proofs.Filled.{Filled}
use Rattle.parts.proofs.side.mark.Given as goal

abbrev pub invariant-loop-s : goal.invariant-loop-s
invariant-loop-s l = Filled (λ i. bit (eqb (get_or l.parts i 0) l.name && not (eqb (bit_or (get_or l.ways i 0 ⊕ l.way) l.link) (get_or l.ways i 0 ⊕ l.way)))) l.initial.side l.s l.side
