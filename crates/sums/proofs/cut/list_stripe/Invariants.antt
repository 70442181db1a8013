-- `sums::cut::list_stripe` meets its contract: those of the disks so far that are to be listed stand behind what was there.
-- Assumes nothing.
use mathlib.Core.Path.{◌≡◌}
use Prim.Native.Nat.{◌+◌, ◌*◌}
use lib.ListN.{length}
use Rattle.stripes.specs.Erased.{erasures}
use Rattle.model.specs.Grid.{layout_of}
use Rattle.sums.specs.Cut.{in_part, in_cut}
use Rattle.sums.proofs.Cuts.{Behind}
use Rattle.sums.proofs.cut.list_stripe.Given as goal

abbrev pub invariant-loop-k : goal.invariant-loop-k
invariant-loop-k l = (length l.list ≡ length l.initial.list)
    × Behind (layout_of l.grid.size l.grid.base) (erasures l.map) l.initial.list l.have (in_cut (layout_of l.grid.size l.grid.base) (erasures l.map) (in_part l.parts l.name))
    (λ j. l.run.first + j * l.run.step) l.k l.list l.n
