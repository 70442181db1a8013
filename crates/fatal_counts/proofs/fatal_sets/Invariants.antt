-- `fatal_counts::fatal_sets` counts no more losses than it has tried.
use Rattle.std.proofs.Common.{◌≤◌}
use Rattle.fatal_counts.proofs.fatal_sets.Given as goal

abbrev pub invariant-loop-k : goal.invariant-loop-k
invariant-loop-k l = l.found ≤ l.k
