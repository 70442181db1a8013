-- `survivors::position_fits` meets its contract: the position is loaded, and its survivors are judged.
-- Assumes nothing.
use mathlib.Core.Path.{◌≡◌, sym, ◌∙◌}
use native.Mathlib.Omega.{arith}
use lib.ListN.{length}
use lib.Seq.{length-take-le}
use Rattle.tally.proofs.Column.{disks-few}
use Rattle.survivors.proofs.ByPosition.{loaded_inside}
use Rattle.survivors.proofs.position_fits.Goals as goal

pub slice_bounds-memory-end : goal.slice_bounds-memory-end
slice_bounds-memory-end c =
    let few = disks-few c.requires.positioned in
    let all = c.disks-disks.ensures in
    omega arith

pub slice_bounds-work-end : goal.slice_bounds-work-end
slice_bounds-work-end c =
    let few = disks-few c.requires.positioned in
    let all = c.disks-disks.ensures in
    sym (length-take-le _ _ (omega arith))

pub load_position-requires : goal.load_position-requires
load_position-requires c =
    let few = disks-few c.requires.positioned in
    let all = c.disks-disks.ensures in
    record {
      positioned = c.requires.positioned;
      room = length-take-le _ _ (omega arith) ∙ all;
    }

pub tally-requires : goal.tally-requires
tally-requires c =
    let p = c.requires in
    let few = disks-few p.positioned in
    let all = c.disks-disks.ensures in
    let long : length c.load_position.new.work ≡ c.disks-disks.result = c.load_position.auto.work ∙ length-take-le _ _ (omega arith) in
    record {
      size_in_bounds = omega arith;
      by_index = loaded_inside p.positioned _ c.load_position.ensures;
      work_in_bounds = omega arith;
      stripe_limit_in_bounds = omega arith;
    }

pub returns : goal.returns
returns c =
    rw (← c.load_position.ensures) c.survivors_fit.ensures
