-- `tally::load::copy` meets its contract: the loop copies one byte after the other, and the rest is wiped.
-- Assumes nothing.
use mathlib.Core.Path.{◌≡◌}
use lib.ListN.{length, get_or}
use Rattle.tally.proofs.Scanned.{Copied}
use Rattle.tally.proofs.load.copy.Given as goal

abbrev pub invariant-loop-d : goal.invariant-loop-d
invariant-loop-d l = (length l.work ≡ length l.initial.work) × Copied (λ j. get_or l.map j 0) l.work l.d
