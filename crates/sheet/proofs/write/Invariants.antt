-- `sheet::write` meets its contract: each turn writes one record more.
-- Assumes nothing.
use Rattle.std.proofs.Common.{◌≡◌}
use Rattle.model.specs.Sheet.{sheet_of, narrow}
use Rattle.entries.specs.Listed.{listed}
use Rattle.sheet.proofs.write.Given as goal

abbrev pub invariant-loop-k : goal.invariant-loop-k
invariant-loop-k l = l.sheet ≡ sheet_of narrow l.kind (listed l.list l.k)
