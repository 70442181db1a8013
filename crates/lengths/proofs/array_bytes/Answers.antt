-- `lengths::array_bytes` meets its contract.
-- Assumes nothing.
use mathlib.Core.Path.{◌≡◌, ◌∙◌, sym}
use mathlib.Core.Bool.{true}
use Rattle.model.specs.Grid.{size_fits, block_fits, array_bytes_or_zero}
use Rattle.lengths.proofs.array_bytes.Goals.{Else-not-block_fits, Else-not-size_fits}
use Rattle.lengths.proofs.array_bytes.Goals as goal

sized : (c : goal.Else-not-size_fits) → size_fits c.args.size ≡ true
sized c = sym c.size_fits.ensures ∙ c.if-not-size_fits.false

blocked : (c : goal.Else-not-block_fits) → block_fits c.args.block ≡ true
blocked c = sym c.block_fits.ensures ∙ c.if-not-block_fits.false

pub returns-then-not-size_fits : goal.returns-then-not-size_fits
unfolding array_bytes_or_zero
returns-then-not-size_fits c = rw (sym c.size_fits.ensures ∙ c.if-not-size_fits.true)

pub returns-then-not-block_fits : goal.returns-then-not-block_fits
unfolding array_bytes_or_zero
returns-then-not-block_fits c = rw (sized (goal.at.returns-then-not-block_fits c).Else-not-size_fits, sym c.block_fits.ensures ∙ c.if-not-block_fits.true)

pub array_bytes-requires-clause-size_value : goal.array_bytes-requires-clause-size_value
array_bytes-requires-clause-size_value c = sized (goal.at.array_bytes-requires-clause-size_value c).Else-not-size_fits

pub array_bytes-requires-clause-block_value : goal.array_bytes-requires-clause-block_value
array_bytes-requires-clause-block_value c = blocked (goal.at.array_bytes-requires-clause-block_value c).Else-not-block_fits

pub returns : goal.returns
unfolding array_bytes_or_zero
returns c = rw (sized (goal.at.returns c).Else-not-size_fits, blocked (goal.at.returns c).Else-not-block_fits) c.array_bytes.ensures
