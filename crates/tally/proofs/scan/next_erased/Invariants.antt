-- `tally::scan::next_erased` meets its contract: past the zeros, the loop looks for the next byte that is 1.
-- Assumes nothing.
use Rattle.tally.specs.Tally.{Passed}
use Rattle.tally.proofs.scan.next_erased.Given as goal

abbrev pub invariant-loop-d : goal.invariant-loop-d
invariant-loop-d l = Passed l.map l.from l.d
