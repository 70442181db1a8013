-- `save::save_position` meets its contract: the memory that it makes is large enough.
-- Assumes nothing.
use mathlib.Core.Path.{refl, sym, ◌∙◌}
use native.Mathlib.Omega.{arith}
use borrow.Author.Rules.{rules}
use lib.Seq.{length-take-le}
use Rattle.tally.proofs.Column.{disks-few}
use Rattle.save.proofs.ByPosition.{position_room}
use Rattle.save.proofs.save_position.Goals as goal

pub slice_bounds-work-end : goal.slice_bounds-work-end
slice_bounds-work-end c =
    let few = disks-few c.requires.positioned in
    let all = c.disks-disks.ensures in
    omega arith

pub slice_bounds-save_in-end : goal.slice_bounds-save_in-end
slice_bounds-save_in-end c =
    let few = disks-few c.requires.positioned in
    let all = c.disks-disks.ensures in
    sym (length-take-le _ _ (omega arith))

pub save_in-requires : goal.save_in-requires
save_in-requires c =
    let record { held = held; positioned = positioned; array_value = fit } = c.requires in
    let few = disks-few positioned in
    let all = c.disks-disks.ensures in
    record {
      held = held;
      located = record { positioned = positioned; room = length-take-le _ _ (omega arith) ∙ all };
      room = position_room positioned c.args.grid.base (length-take-le _ _ (omega arith) ∙ all) refl refl (search rules);
      array_value = fit;
    }
