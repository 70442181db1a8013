-- `solve::solve` meets its contract: the memory that it makes is large enough.
-- Assumes nothing.
use mathlib.Core.Path.{sym, refl}
use lib.Seq.{length-take-le}
use Rattle.layout.proofs.Numbers.{map-few}
use Rattle.solve.proofs.Memory.{room-made}
use Rattle.solve.proofs.solve.Goals as goal

pub slice_bounds-work-end : goal.slice_bounds-work-end
slice_bounds-work-end c = map-few _ _ c.args.grid.numbered _ c.requires.map_value

pub slice_bounds-solve_in-end : goal.slice_bounds-solve_in-end
slice_bounds-solve_in-end c = sym (length-take-le _ _ (map-few _ _ c.args.grid.numbered _ c.requires.map_value))

pub solve_in-requires : goal.solve_in-requires
solve_in-requires c =
    let p = c.requires in
    record {
      map_value = p.map_value;
      room =
          room-made _ _ c.args.grid.numbered _ p.map_value (sym (length-take-le _ _ (map-few _ _ c.args.grid.numbered _ p.map_value))) refl refl
          p.capacity_in_bounds;
    }
