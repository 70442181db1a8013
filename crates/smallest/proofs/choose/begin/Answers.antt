-- `smallest::choose::begin` meets its contract: the bytes up to the lowest disk are wiped, and what is left is loaded, where the table has not got
-- it already, and measured.
-- Assumes nothing.
use mathlib.Core.Path.{◌≡◌}
use native.Mathlib.Omega.{arith}
use Rattle.stripes.specs.Erased.{erasures, above}
use Rattle.model.specs.Grid.{layout_of}
use Rattle.layout.proofs.Runs.{numbered_two, stripes_few}
use Rattle.tally.specs.Tally.{Table}
use Rattle.tally.proofs.Counted.{crossed}
use Rattle.neighbours.specs.Near.{Near}
use Rattle.smallest.proofs.Choosing.{wiped_table, wiped_near}
use Rattle.smallest.proofs.choose.begin.Goals.{After-wipe, Joined-found, then-found, else-found}
use Rattle.smallest.proofs.choose.begin.Goals as goal

-- The disks above the lowest one are left, and the table has their stripes.
left : (w : goal.After-wipe) →
    let a = w.args in
    (erasures w.wipe.new.a ≡ above a.found.disk (erasures a.work.now))
    × Table (layout_of a.grid.size a.grid.base) w.wipe.new.a a.stripes.now
left w = wiped_table w.requires.table w.args.found.disk w.wipe.ensures

pub load-requires-clause-table : goal.load-requires-clause-table
load-requires-clause-table c = (left (goal.at.load-requires-clause-table c).After-wipe).1

-- The table of neighbours is that of these disks, either way.
neighbours : (j : goal.Joined-found) →
    let a = j.args in
    Near (layout_of a.grid.size a.grid.base) (erasures j.wipe.new.a) j.if-found.near
neighbours j =
    let d = j.args.found.disk in
    elim j.if-found.branch [
      | then-found w ↦ rw w.near-is w.load.ensures
      | else-found w ↦ rw w.near-is (wiped_near (erasures j.args.work.now) d j.args.found.from w.if-found.false j.requires.near (wiped_table j.requires.table d j.wipe.ensures).0)
    ]

pub measure-requires : goal.measure-requires
measure-requires c =
    let x = crossed (numbered_two c.args.grid.numbered) c.requires.nearest.disk c.stripes_of-ends.ensures in
    let few = stripes_few c.args.grid.numbered in
    record {
      near_len = (neighbours (goal.at.measure-requires c).Joined-found).room;
      low_lt_word_stripes = omega (arith, x.low_bound);
      high_lt_word_stripes = omega (arith, x.high_bound);
      others_lt_word_stripes = c.requires.nearest.few;
      levels_len = c.requires.levels_len;
    }

pub returns-clause-left : goal.returns-clause-left
returns-clause-left c = (left (goal.at.returns-clause-left c).After-wipe).0

pub returns-clause-measured : goal.returns-clause-measured
returns-clause-measured c = record { table = (left (goal.at.returns-clause-measured c).After-wipe).1; neighbours = neighbours (goal.at.returns-clause-measured c).Joined-found; levelled = c.measure.ensures }
