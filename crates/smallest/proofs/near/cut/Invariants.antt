-- `smallest::near::cut` meets its contract: the loop stores what is left of one word after the other.
-- Assumes nothing.
use mathlib.Core.Path.{◌≡◌}
use lib.ListN.{length}
use Rattle.zeros.specs.Stored.{stored}
use Rattle.smallest.proofs.Cutting.{sides}
use Rattle.smallest.proofs.near.cut.Given as goal

abbrev pub invariant-loop-s : goal.invariant-loop-s
invariant-loop-s l = (l.near ≡ stored l.initial.near 0 l.s (sides l.initial.near l.inside)) × (length l.near ≡ length l.initial.near)
