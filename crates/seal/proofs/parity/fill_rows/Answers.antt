-- `seal::parity::fill_rows` meets its contract: after each turn one row parity more is filled.
-- Assumes nothing.
use mathlib.Core.Path.{◌≡◌, refl, ◌∙◌, ap}
use Prim.Native.Nat.{◌*◌}
use native.Mathlib.Omega.{arith}
use lib.ListN.{length}
use Rattle.model.proofs.Refusal.{ArrayFits}
use Rattle.model.proofs.Seal.{seal_fits}
use Rattle.xor.specs.Strided.{Spaced}
use Rattle.sums.proofs.Stripes.{row-bytes-small}
use Rattle.seal.specs.Parity.{row_filled, rows_filled}
use Rattle.seal.proofs.Rows.{row_spaced, rows-length, rows_next}
use Rattle.seal.proofs.parity.fill_rows.Goals.{In-loop-row, Start}
use Rattle.seal.proofs.parity.fill_rows.Goals as goal

sized : (s : goal.Start) → ArrayFits s.args.size s.args.block (length s.args.array.now)
sized s = seal_fits _ _ _ s.requires

-- The array keeps its length.
kept : (c : goal.In-loop-row) → length c.loop-row.array ≡ length c.args.array.now
kept c = ap length c.loop-row.invariant ∙ rows-length _ _ _ c.loop-row.row

pub across-across-requires : goal.across-across-requires
across-across-requires c = (sized (goal.at.across-across-requires c).Start).size

pub overflow_mul-row_bytes : goal.overflow_mul-row_bytes
overflow_mul-row_bytes c =
    let fits = sized (goal.at.overflow_mul-row_bytes c).Start in
    let small = (row-bytes-small _ fits.size _ fits.block).0 in
    rw c.across-across.ensures (omega arith)

pub loop-row-init : goal.loop-row-init
unfolding rows_filled
loop-row-init c = refl

-- The blocks of the row lie within the array.
spaced : (c : goal.In-loop-row) → Spaced c.loop-row.array (c.loop-row.row * (c.across-across.result * c.args.block)) c.args.block c.across-across.result c.columns-last.result c.args.block
spaced c =
    let e = c.rows-row-end.ensures in
    rw (c.columns-last.ensures, c.across-across.ensures)
    (row_spaced _ _ _ (rw (kept c) (seal_fits _ _ _ c.requires)) c.loop-row.row (omega arith))

pub overflow_mul-row : goal.overflow_mul-row
overflow_mul-row c = let s = spaced (goal.at.overflow_mul-row c).In-loop-row in omega (arith, s.within _ s.one, kept (goal.at.overflow_mul-row c).In-loop-row)

pub fill-requires : goal.fill-requires
fill-requires c = spaced (goal.at.fill-requires c).In-loop-row

pub loop-row-preserved : goal.loop-row-preserved
unfolding row_filled
loop-row-preserved c =
    let e = c.rows-row-end.ensures in
    c.fill.ensures
    ∙ rw (c.columns-last.ensures, c.across-across.ensures, c.loop-row.invariant) (rows_next _ _ _ c.loop-row.row)

pub returns : goal.returns
returns c =
    let e = c.rows-row-end.ensures in
    c.loop-row.invariant ∙ ap (rows_filled _ _ _) (omega arith)
