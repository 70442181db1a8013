-- `tally::load::gather` meets its contract: the loop copies one byte of the position after the other.
-- Assumes nothing.
use mathlib.Core.Path.{◌≡◌}
use lib.ListN.{length, get_or}
use Rattle.stripes.specs.Sectors.{sector_at}
use Rattle.tally.proofs.Scanned.{Copied}
use Rattle.tally.proofs.load.gather.Given as goal

abbrev pub invariant-loop-d : goal.invariant-loop-d
invariant-loop-d l = (length l.work ≡ length l.initial.work) × Copied (λ j. get_or l.map (sector_at l.sectors l.position j) 0) l.work l.d
