-- `seal::parity::fill_rows` meets its contract: after each turn one row parity more is filled.
-- Assumes nothing.
use mathlib.Core.Path.{◌≡◌}
use Rattle.seal.specs.Parity.{rows_filled}
use Rattle.seal.proofs.parity.fill_rows.Given as goal

abbrev pub invariant-loop-row : goal.invariant-loop-row
invariant-loop-row l = l.array ≡ rows_filled l.fn.size l.block l.initial.array l.row
