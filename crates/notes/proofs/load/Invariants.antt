-- `notes::load` meets its contract: each turn marks one disk more in a map of zeros.
-- Assumes nothing.
use mathlib.Core.Path.{◌≡◌}
use lib.ListN.{length}
use Rattle.notes.proofs.Noted.{Marked, Binary}
use Rattle.notes.proofs.load.Given as goal

abbrev pub invariant-loop-k : goal.invariant-loop-k
invariant-loop-k l = (length l.work ≡ length l.initial.work) × Binary l.work × Marked (length l.initial.work) l.sheet l.work l.k
