-- `lengths::disks` meets its contract.
-- Assumes nothing.
use mathlib.Core.Path.{◌≡◌, ◌∙◌, sym}
use mathlib.Core.Bool.{true}
use Rattle.model.specs.Grid.{size_fits, disks_or_zero}
use Rattle.lengths.proofs.disks.Goals.{Then-size_fits}
use Rattle.lengths.proofs.disks.Goals as goal

sized : (c : goal.Then-size_fits) → size_fits c.args.size ≡ true
sized c = sym c.size_fits.ensures ∙ c.if-size_fits.true

pub disks-requires : goal.disks-requires
disks-requires c = sized (goal.at.disks-requires c).Then-size_fits

pub returns-then-size_fits : goal.returns-then-size_fits
unfolding disks_or_zero
returns-then-size_fits c = rw (sized (goal.at.returns-then-size_fits c).Then-size_fits) c.disks.ensures

pub returns : goal.returns
unfolding disks_or_zero
returns c = rw (sym c.size_fits.ensures ∙ c.if-size_fits.false)
