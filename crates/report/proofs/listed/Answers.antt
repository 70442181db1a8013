-- `report::listed` meets its contract: a heading, and a line for each entry.
-- Assumes nothing.
use native.Mathlib.Omega.{arith}
use Rattle.text.proofs.Joined.{word-length}
use Rattle.report.proofs.Entries.{listed-written}
use Rattle.report.proofs.listed.Goals as goal

pub lines-requires : goal.lines-requires
lines-requires c =
    let few = c.requires.printable.few in
    record {
      printable = c.requires.printable;
      count_in_bounds = omega (arith, word-length c.args.word.now c.args.count);
    }

pub returns : goal.returns
returns c = listed-written _ _ _ c.heading-first.ensures c.lines.ensures
