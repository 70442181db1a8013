-- `wanted::reaching::try_both` meets its contract: the table is that of the others again before the second stripe is tried.
-- Assumes nothing.
use native.Mathlib.Omega.{arith}
use Rattle.model.proofs.Grid.{layout-disks, map-length}
use Rattle.wanted.proofs.Loaded.{others_outside}
use Rattle.wanted.proofs.reaching.try_both.Goals as goal

pub tally-requires : goal.tally-requires
tally-requires c =
    let o = c.requires.others in
    let room = c.requires.room in
    let a = o.table.disks_fit in
    let b = room.table_fits in
    let d = room.stripes_fit in
    let same = c.requires.others_len in
    let few = layout-disks c.args.grid.size c.args.grid.base in
    let long = map-length _ _ c.requires.map_value in
    let stripes = c.try_stripe.auto.stripes in
    let counts = c.try_stripe.auto.counts in
    record {
      size_in_bounds = omega arith;
      by_index = λ i h. others_outside c.args.map.now _ c.args.disk o.erased i (omega arith);
      work_in_bounds = omega arith;
      stripe_limit_in_bounds = omega arith;
    }
