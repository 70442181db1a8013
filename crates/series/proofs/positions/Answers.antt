-- `series::positions` meets its contract: one where block or sector is refused, else those of the block.
-- Assumes nothing.
use mathlib.Core.Path.{◌≡◌, sym, ◌∙◌, ap}
use mathlib.Core.Bool.{Bool, false, ◌&&◌, and-false}
use native.Mathlib.Omega.{arith}
use Rattle.model.specs.Grid.{block_fits, sector_fits}
use Rattle.model.proofs.Grid.{sector-some}
use Rattle.series.proofs.Ends.{positions_taken, positions-one}
use Rattle.series.proofs.positions.Goals as goal

pub returns-then-not-block_fits : goal.returns-then-not-block_fits
returns-then-not-block_fits c =
    let a = c.args in
    let refused : block_fits a.block ≡ false = sym c.block_fits.ensures ∙ c.if-not-block_fits.true in
    sym (positions-one a.block a.sector (ap (λ (b : Bool). b && sector_fits a.block a.sector) refused))

pub returns-then-not-sector_fits : goal.returns-then-not-sector_fits
returns-then-not-sector_fits c =
    let a = c.args in
    let refused : sector_fits a.block a.sector ≡ false = sym c.sector_fits.ensures ∙ c.if-not-sector_fits.true in
    sym
    (positions-one a.block a.sector
    (ap (λ (b : Bool). block_fits a.block && b) refused ∙ and-false (block_fits a.block)))

pub nonzero_div-result : goal.nonzero_div-result
nonzero_div-result c =
    let a = c.args in
    let some = sector-some a.block a.sector (sym c.sector_fits.ensures ∙ c.if-not-sector_fits.false) in
    omega arith

pub returns : goal.returns
returns c =
    let a = c.args in
    sym
    (positions_taken a.block a.sector (sym c.block_fits.ensures ∙ c.if-not-block_fits.false)
    (sym c.sector_fits.ensures ∙ c.if-not-sector_fits.false))
