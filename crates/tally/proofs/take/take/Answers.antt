-- `tally::take::take` meets its contract: the disk is counted on both its stripes.
-- Assumes nothing.
use native.Mathlib.Omega.{arith}
use Rattle.stripes.specs.Erased.{erasures}
use Rattle.model.specs.Grid.{layout_of}
use Rattle.tally.proofs.Counted.{Crossed, erased_crossed, can_lower, can_lower_next, tallied_less}
use Rattle.layout.proofs.Runs.{numbered_two}
use Rattle.tally.proofs.take.take.Goals.{After-stripes_of-pair}
use Rattle.tally.proofs.take.take.Goals as goal

pub stripes_of-pair-requires : goal.stripes_of-pair-requires
stripes_of-pair-requires c =
    let p = c.requires in
    record {
      table = p.tallied_2.table;
      disk_value = p.disk_value;
    }

-- The disk with its stripes.
pair : (c : goal.After-stripes_of-pair) →
    let a = c.args in
    Crossed (layout_of a.grid.size a.grid.base) a.disk c.stripes_of-pair.result.low c.stripes_of-pair.result.high
pair c =
    erased_crossed c.requires.tallied_2.table _ c.requires.disk_value (numbered_two c.args.grid.numbered) c.stripes_of-pair.ensures

pub bounds-work-disk : goal.bounds-work-disk
bounds-work-disk c = omega (arith, (pair (goal.at.bounds-work-disk c).After-stripes_of-pair).disk, c.requires.tallied_2.table.disks_fit)

pub lower-requires : goal.lower-requires
lower-requires c =
    let (h0, h1) = can_lower (pair (goal.at.lower-requires c).After-stripes_of-pair) (erasures c.args.work.now) c.requires.disk_value c.requires.tallied_2.counted in
    record {
      stripe_in_bounds = h0;
      bound = h1;
    }

pub lower-requires-2 : goal.lower-requires-2
lower-requires-2 c =
    let (h0, h1) = can_lower_next (pair (goal.at.lower-requires-2 c).After-stripes_of-pair) (erasures c.args.work.now) c.requires.disk_value c.requires.tallied_2.counted
    c.lower.ensures in
    record {
      stripe_in_bounds = h0;
      bound = h1;
    }

pub returns : goal.returns
returns c =
    let t = tallied_less (pair (goal.at.returns c).After-stripes_of-pair) c.requires.tallied_2 c.requires.disk_value c.lower.ensures c.lower-2.ensures in
    record {
      erased = t.0;
      tallied = t.1;
    }
