-- `seal::parity::fill_last_row` meets its contract: what fill makes of the last row.
-- Assumes nothing.
use mathlib.Core.Path.{◌∙◌}
use native.Mathlib.Omega.{arith}
use lib.ListN.{length}
use Rattle.model.proofs.Refusal.{ArrayFits}
use Rattle.model.proofs.Seal.{seal_fits}
use Rattle.sums.proofs.Stripes.{row-bytes-small}
use Rattle.seal.specs.Parity.{last_row_filled}
use Rattle.seal.proofs.Rows.{last_spaced}
use Rattle.seal.proofs.parity.fill_last_row.Goals.{Start}
use Rattle.seal.proofs.parity.fill_last_row.Goals as goal

sized : (s : goal.Start) → ArrayFits s.args.size s.args.block (length s.args.array.now)
sized s = seal_fits _ _ _ s.requires

pub down-down-requires : goal.down-down-requires
down-down-requires c = (sized (goal.at.down-down-requires c).Start).size

pub across-requires : goal.across-requires
across-requires c = (sized (goal.at.across-requires c).Start).size

pub overflow_mul-row_bytes : goal.overflow_mul-row_bytes
overflow_mul-row_bytes c =
    let fits = sized (goal.at.overflow_mul-row_bytes c).Start in
    let small = (row-bytes-small _ fits.size _ fits.block).0 in
    rw c.across.ensures (omega arith)

pub fill-requires : goal.fill-requires
fill-requires c =
    rw (c.across.ensures, c.down-down.ensures, c.rows-last.ensures)
    (last_spaced _ _ _ (sized (goal.at.fill-requires c).Start))

pub returns : goal.returns
unfolding last_row_filled
returns c =
    c.fill.ensures ∙ rw (c.across.ensures, c.down-down.ensures, c.rows-last.ensures)
