-- `report::lines` meets its contract: the entries so far are listed, and there is room for the others.
-- Assumes nothing.
use Prim.Native.Nat.{◌+◌, ◌*◌, ◌-◌, ◌≤◌}
use lib.ListN.{length}
use Rattle.model.specs.Listing.{entry_lines}
use Rattle.entries.specs.Listed.{listed}
use Rattle.text.specs.Written.{Written}
use Rattle.report.specs.Report.{Printable}
use Rattle.report.proofs.lines.Given as goal

abbrev pub invariant-loop-k : goal.invariant-loop-k
invariant-loop-k l =
    Printable l.list l.count
    × (l.next + 8 * (l.count - l.k) ≤ length l.out)
    × Written l.initial.out l.at (entry_lines (listed l.list l.k)) l.out l.next
