-- `restore::zero::zero_erased` meets its contract: after i turns the erased sectors below number i are zero.
-- Assumes nothing.
use mathlib.Core.Path.{◌≡◌}
use Rattle.stripes.specs.System.{whole}
use Rattle.stripes.specs.Erased.{erasures, below}
use Rattle.stripes.specs.Repair.{zeroed}
use Rattle.restore.proofs.zero.zero_erased.Given as goal

abbrev pub invariant-loop-i : goal.invariant-loop-i
invariant-loop-i l = l.array ≡ zeroed (whole l.sector) l.initial.array (below l.i (erasures l.map))
