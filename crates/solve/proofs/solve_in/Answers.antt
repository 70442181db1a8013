-- `solve::solve_in` meets its contract: what plan's order leaves decides.
-- Assumes nothing.
use native.Mathlib.Omega.{arith}
use Rattle.model.proofs.Grid.{layout-two}
use Rattle.layout.proofs.Numbers.{map-few}
use Rattle.solve.proofs.Memory.{map-disks}
use Rattle.solve.proofs.Solving.{solves_repairs, left-lossy, solves_cycle}
use Rattle.solve.proofs.solve_in.Goals as goal

pub returns-then-found-eq0 : goal.returns-then-found-eq0
returns-then-found-eq0 c = solves_repairs c.peel-found.ensures c.if-found-eq0.true

pub show-requires : goal.show-requires
show-requires c =
    let few = map-few _ _ c.args.grid.numbered _ c.requires.map_value in
    let long = map-disks _ c.args.grid.base _ c.requires.map_value in
    let room = c.requires.room.disks_fit in
    let kept = c.peel-found.auto in
    let fits = c.requires.room.list_fits in
    record {
      table = c.peel-found.ensures.table;
      work_value = left-lossy c.peel-found.ensures c.if-found-eq0.false;
      work_len_bound = omega arith;
      capacity_in_bounds = omega arith;
    }

pub returns : goal.returns
returns c =
    solves_cycle c.peel-found.ensures c.if-found-eq0.false (layout-two c.args.grid.size c.args.grid.base c.args.grid.numbered.above)
    c.undetermined_count-lost.ensures _ c.show.ensures.number c.show.ensures.list
