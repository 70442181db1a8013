-- `wanted::reaching::find` meets its contract: the memory that it makes is large enough.
-- Assumes nothing.
use mathlib.Core.Path.{refl, sym, ◌∙◌}
use lib.Seq.{length-take-le}
use Rattle.layout.proofs.Numbers.{map-few}
use Rattle.layout.proofs.Runs.{stripes_few}
use Rattle.solve.proofs.Memory.{room-made}
use Rattle.wanted.proofs.reaching.find.Goals as goal

pub slice_bounds-others-end : goal.slice_bounds-others-end
slice_bounds-others-end c = map-few _ _ c.args.grid.numbered _ c.requires.map_value

pub slice_bounds-find_in-end : goal.slice_bounds-find_in-end
slice_bounds-find_in-end c = sym (length-take-le _ _ (map-few _ _ c.args.grid.numbered _ c.requires.map_value))

pub slice_bounds-work-end : goal.slice_bounds-work-end
slice_bounds-work-end c = map-few _ _ c.args.grid.numbered _ c.requires.map_value

pub slice_bounds-find_in-end-3 : goal.slice_bounds-find_in-end-3
slice_bounds-find_in-end-3 c = sym (length-take-le _ _ (map-few _ _ c.args.grid.numbered _ c.requires.map_value))

pub find_in-requires : goal.find_in-requires
find_in-requires c =
    let p = c.requires in
    record {
      map_value = p.map_value;
      disk_value = p.disk_value;
      base_in_bounds = stripes_few c.args.grid.numbered;
      room = room-made _ _ c.args.grid.numbered _ p.map_value (sym (length-take-le _ _ (map-few _ _ c.args.grid.numbered _ p.map_value))) refl refl p.capacity_in_bounds;
      others_len = length-take-le _ _ (map-few _ _ c.args.grid.numbered _ p.map_value) ∙ sym (length-take-le _ _ (map-few _ _ c.args.grid.numbered _ p.map_value));
    }
