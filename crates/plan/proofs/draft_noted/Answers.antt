-- `plan::draft_noted` meets its contract: the column is a map with the erased disks of the position.
-- Assumes nothing.
use mathlib.Core.Path.{sym, ◌∙◌}
use native.Mathlib.Omega.{arith}
use lib.Seq.{length-take-le}
use Rattle.tally.proofs.Column.{disks-few}
use Rattle.plan.proofs.draft_noted.Goals.{After-disks-disks}
use Rattle.plan.proofs.draft_noted.Goals as goal

pub slice_bounds-column-end : goal.slice_bounds-column-end
slice_bounds-column-end c =
    let few = disks-few c.requires.positioned in
    let all = c.disks-disks.ensures in
    omega arith

pub slice_bounds-own-end : goal.slice_bounds-own-end
slice_bounds-own-end c = sym (length-take-le _ _ (slice_bounds-column-end (goal.at.slice_bounds-own-end c).After-disks-disks))

pub load_column-requires : goal.load_column-requires
load_column-requires c =
    let p = c.requires in
    let few = slice_bounds-column-end (goal.at.load_column-requires c).After-disks-disks in
    record {
      located = record { positioned = p.positioned; room = length-take-le _ _ few ∙ c.disks-disks.ensures };
      sheet_len = p.sheet_len;
      notes = p.notes;
    }
