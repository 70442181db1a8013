-- `tally::scan::pass_zeros` meets its contract: the loop passes over one chunk of zeros after the other.
-- Assumes nothing.
use Prim.Native.Nat.{◌-◌}
use lib.ListN.{length}
use Rattle.tally.specs.Tally.{Passed}
use Rattle.tally.proofs.scan.pass_zeros.Given as goal

abbrev pub invariant-loop-d : goal.invariant-loop-d
invariant-loop-d l = Passed l.map l.from l.d

abbrev pub decreases-loop-d : goal.decreases-loop-d
decreases-loop-d l = length l.map - l.d
