-- `save::rest::sum_disk` meets its contract: an undetermined disk stays, and a determined one gets its sum.
-- Assumes nothing.
use mathlib.Core.Path.{◌∙◌, ap, sym}
use mathlib.Core.Bool.{not}
use native.Mathlib.Omega.{arith}
use Rattle.stripes.specs.Erased.{erasures}
use Rattle.stripes.proofs.Saved.{determined-not}
use Rattle.model.specs.Grid.{layout_of}
use Rattle.model.proofs.Grid.{layout-disks, layout-two, disks-bound, size_fits_lem}
use Rattle.layout.proofs.Runs.{stripes_few}
use Rattle.tally.proofs.Counted.{erased-inside}
use Rattle.save.proofs.Summed.{sized_as, saved-not, saved_by}
use Rattle.save.proofs.rest.sum_disk.Goals as goal

pub is_undetermined-requires : goal.is_undetermined-requires
is_undetermined-requires c =
    let p = c.requires in
    record {
      table = p.table;
      disk_value = p.disk_value;
      walked = p.walked;
      closed_value = p.closed_value;
    }

pub returns-then-is_undetermined : goal.returns-then-is_undetermined
returns-then-is_undetermined c =
    let a = c.args in
    let L = layout_of a.grid.size a.grid.base in
    let e = erasures a.work.now in
    record {
      answer = sym (determined-not L e a.disk c.requires.disk_value ∙ ap not (sym c.is_undetermined.ensures ∙ c.if-is_undetermined.true));
      array = saved-not (layout-two a.grid.size a.grid.base c.args.grid.numbered.above) a.stretch c.requires.held.inside e a.array.now
          (sized_as a.grid.size a.grid.base c.requires.held) a.disk;
    }

pub mark-requires : goal.mark-requires
mark-requires c =
    let p = c.requires in
    let off = sym c.is_undetermined.ensures ∙ c.if-is_undetermined.false in
    let few = stripes_few c.args.grid.numbered in
    record {
      table = p.table;
      disk_value = p.disk_value;
      disk_value_2 = off;
      parted = p.parted;
      walked = p.walked;
      base_in_bounds = omega arith;
    }

pub fill-requires : goal.fill-requires
fill-requires c =
    let table = c.requires.table.disks_fit in
    let same = layout-disks c.args.grid.size c.args.grid.base in
    let below = erased-inside c.requires.table c.args.disk c.requires.disk_value in
    let few = stripes_few c.args.grid.numbered in
    let most = disks-bound c.args.grid.size (size_fits_lem c.args.grid.size c.args.grid.numbered.fits) in
    let long = c.mark.auto.side in
    record {
      held = c.requires.held;
      size_in_bounds = omega arith;
      base_in_bounds = omega arith;
      size_in_bounds_2 = omega arith;
      disk_bound = omega arith;
      disk_value = c.requires.disk_value;
    }

pub returns : goal.returns
returns c =
    let a = c.args in
    let L = layout_of a.grid.size a.grid.base in
    let e = erasures a.work.now in
    let off = sym c.is_undetermined.ensures ∙ c.if-is_undetermined.false in
    record {
      answer = sym (determined-not L e a.disk c.requires.disk_value ∙ ap not off);
      array = saved_by (layout-two a.grid.size a.grid.base c.args.grid.numbered.above) a.stretch c.requires.held.inside e a.array.now
          (sized_as a.grid.size a.grid.base c.requires.held) a.disk c.mark.new.side c.mark.ensures c.fill.ensures;
    }
