-- `report::lines` meets its contract: the entries so far are listed, and there is room for the others.
-- Assumes nothing.
use mathlib.Core.Path.{ap₂}
use native.Mathlib.Omega.{arith}
use Rattle.model.specs.Listing.{entry_lines}
use Rattle.entries.specs.Listed.{listed}
use Rattle.text.specs.Lines.{pair_line}
use Rattle.text.proofs.Joined.{nothing_written, written_as, same-room, pair_length}
use Rattle.report.proofs.Entries.{line_written}
use Rattle.report.proofs.lines.Goals as goal

pub loop-k-init : goal.loop-k-init
unfolding entry_lines listed
loop-k-init c = (c.requires.printable, omega arith, nothing_written _ _ (omega arith))

pub loop-k-preserved : goal.loop-k-preserved
loop-k-preserved c =
    let l = c.loop-k in
    let disk = c.disk_of-disk in
    let stripe = c.stripe_of-stripe in
    let line = c.pair-next.ensures in
    let short = pair_length disk.result stripe.result in
    let room = same-room line in
    (l.invariant.0, omega arith, line_written _ _ l.invariant.2 (written_as (ap₂ pair_line disk.ensures stripe.ensures) line))
