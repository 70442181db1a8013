-- `replay::clears` meets its contract: the memory that it makes is large enough.
-- Assumes nothing.
use mathlib.Core.Path.{sym, ◌∙◌}
use native.Mathlib.Omega.{arith}
use lib.Seq.{length-take-le}
use Rattle.tally.proofs.Column.{disks-few}
use Rattle.replay.proofs.clears.Goals.{After-disks-disks}
use Rattle.replay.proofs.clears.Goals as goal

pub slice_bounds-work-end : goal.slice_bounds-work-end
slice_bounds-work-end c =
    let few = disks-few c.requires.positioned in
    let all = c.disks-disks.ensures in
    omega arith

pub slice_bounds-clears_in-end : goal.slice_bounds-clears_in-end
slice_bounds-clears_in-end c = sym (length-take-le _ _ (slice_bounds-work-end (goal.at.slice_bounds-clears_in-end c).After-disks-disks))

pub clears_in-requires : goal.clears_in-requires
clears_in-requires c =
    let p = c.requires in
    let few = slice_bounds-work-end (goal.at.clears_in-requires c).After-disks-disks in
    let long = length-take-le _ _ few in
    record {
      located = record { positioned = p.positioned; room = long ∙ c.disks-disks.ensures };
      count_in_bounds = p.count_in_bounds;
      work_in_bounds = omega arith;
      stripe_limit_in_bounds = omega arith;
    }
