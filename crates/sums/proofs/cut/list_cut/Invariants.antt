-- `sums::cut::list_cut` meets its contract: the survivors that the stripes so far bring are listed.
-- Assumes nothing.
use mathlib.Core.Path.{◌≡◌}
use lib.ListN.{length}
use Rattle.stripes.specs.Fold.{xsum, total}
use Rattle.stripes.specs.Erased.{erasures}
use Rattle.model.specs.Grid.{layout_of}
use Rattle.sums.specs.Cut.{in_part, cut_on, cut_over_on, Listed}
use Rattle.sums.proofs.cut.list_cut.Given as goal

abbrev pub invariant-loop-s : goal.invariant-loop-s
invariant-loop-s l = (length l.list ≡ length l.initial.list)
    × Listed (layout_of l.grid.size l.grid.base) (erasures l.map) l.list l.n (total l.s (cut_on (layout_of l.grid.size l.grid.base) (erasures l.map) (in_part l.parts l.name)))
    (λ f. xsum l.s (cut_over_on (layout_of l.grid.size l.grid.base) (erasures l.map) (in_part l.parts l.name) f))
