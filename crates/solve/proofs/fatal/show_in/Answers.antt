-- `solve::fatal::show_in` meets its contract: the disks of the smallest cycle are traced.
-- Assumes nothing.
use mathlib.Core.Path.{◌∙◌, ap}
use native.Mathlib.Omega.{arith}
use lib.ListN.{length}
use Rattle.model.proofs.Grid.{layout-disks}
use Rattle.layout.proofs.Runs.{numbered_two}
use Rattle.solve.proofs.Shown.{shown_paired, shown_lowest, shown_table, shown_cycle_lem}
use Rattle.solve.proofs.fatal.show_in.Goals as goal

pub trace-requires : goal.trace-requires
trace-requires c =
    let w = c.args.work.now in
    let set = c.find.new.set in
    let two = numbered_two c.args.grid.numbered in
    let lossy = c.requires.work_value in
    let is = c.find.ensures in
    let few = layout-disks c.args.grid.size c.args.grid.base in
    let low = shown_lowest _ two w set lossy is in
    let same = c.requires.set_len in
    let kept = c.find.auto.set in
    record {
      table = shown_table _ two w set lossy is c.requires.table (omega arith);
      paired = shown_paired _ two w set lossy is;
      set_bound = omega arith;
      capacity_in_bounds = c.requires.capacity_in_bounds;
    }

pub returns : goal.returns
returns c =
    let cycle =
    shown_cycle_lem _ (numbered_two c.args.grid.numbered) c.args.work.now c.find.new.set c.requires.work_value c.find.ensures in
    record {
      number = c.trace.ensures.number ∙ ap length cycle;
      list = c.trace.ensures.list ∙ cycle;
    }
