-- `solve::peeled::peel` meets its contract: the erased disks are loaded, then peeled.
-- Assumes nothing.
use mathlib.Core.Path.{◌≡◌}
use native.Mathlib.Omega.{arith}
use lib.ListN.{length}
use Rattle.stripes.specs.Erased.{erasures}
use Rattle.stripes.specs.Repair.{repairs, residual}
use Rattle.model.specs.Grid.{layout_of}
use Rattle.model.proofs.Grid.{layout-disks}
use Rattle.entries.specs.Listed.{listed}
use Rattle.tally.specs.Tally.{Tallied}
use Rattle.order.proofs.Held.{none-held}
use Rattle.solve.proofs.Memory.{map-disks, loaded_inside, made_some, peeled}
use Rattle.solve.proofs.peeled.peel.Goals.{After-peel-made}
use Rattle.solve.proofs.peeled.peel.Goals as goal

pub copy-requires : goal.copy-requires
copy-requires c =
    let long = map-disks _ c.args.grid.base _ c.requires.map_value in
    let room = c.requires.room.disks_fit in
    omega arith

pub tally-erased-requires : goal.tally-erased-requires
tally-erased-requires c =
    let room = c.requires.room in
    let same = c.copy.auto.work in
    let few = layout-disks c.args.grid.size c.args.grid.base in
    let a = room.disks_fit in
    let b = room.table_fits in
    record {
      size_in_bounds = omega arith;
      by_index = loaded_inside _ c.args.grid.base _ c.requires.map_value _ c.copy.ensures;
      work_in_bounds = omega arith;
      stripe_limit_in_bounds = room.stripes_fit;
    }

-- No disk's number is the map's length, so none is held back.
unheld : (c : goal.After-peel-made) →
    let a = c.args in
    let L = layout_of a.grid.size a.grid.base in
    let e = erasures c.copy.new.work in
    (c.peel-made.result ≡ length (repairs L e))
    × ((erasures c.peel-made.new.work ≡ residual L e)
    × ((listed c.peel-made.new.list c.peel-made.result ≡ repairs L e)
    × Tallied L c.peel-made.new.work c.tally-erased.new.stripes c.peel-made.new.counts))
unheld c =
    let long = map-disks _ c.args.grid.base _ c.requires.map_value in
    let h = c.peel-made.ensures in
    none-held (omega arith) _ _ (h.number, (h.left, (h.list, h.tallied)))

pub overflow_sub-result : goal.overflow_sub-result
overflow_sub-result c = made_some _ _ _ c.tally-erased.ensures.number (unheld (goal.at.overflow_sub-result c).After-peel-made).0

pub returns : goal.returns
returns c =
    let (number, (rest, (entries, tallied))) = unheld (goal.at.returns c).After-peel-made in
    peeled _ _ _ c.tally-erased.ensures.number number c.copy.ensures entries rest tallied.table
