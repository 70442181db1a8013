-- `wanted::reaching::load_others` meets its contract: the map without the disk is tallied, and its disks joined.
-- Assumes nothing.
use native.Mathlib.Omega.{arith}
use lib.ListN.{length-set}
use Rattle.model.proofs.Grid.{map-length}
use Rattle.wanted.proofs.Loaded.{others_loaded, others_outside, parted-same}
use Rattle.wanted.proofs.reaching.load_others.Goals as goal

pub tally-requires : goal.tally-requires
tally-requires c =
    let loaded = others_loaded c.args.map.now _ c.args.disk c.copy.ensures in
    let long = map-length _ _ c.requires.map_value in
    let room = c.requires.map_in_bounds in
    let table = c.requires.others_in_bounds in
    let same = c.copy.auto.work in
    record {
      size_in_bounds = rw (length-set _ _ _) (omega arith);
      by_index = λ d h. others_outside c.args.map.now _ c.args.disk loaded d (omega arith);
      work_in_bounds = rw (length-set _ _ _) (omega arith);
      stripe_limit_in_bounds = c.requires.stripe_limit_in_bounds;
    }

pub returns : goal.returns
returns c =
    let loaded = others_loaded c.args.map.now _ c.args.disk c.copy.ensures in
    record { erased = loaded; table = c.tally.ensures.tallied.table; parted = parted-same loaded c.join_all.ensures }
