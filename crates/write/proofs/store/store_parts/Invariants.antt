-- `write::store::store_parts` meets its contract: after each turn one part more of the four blocks is done.
-- Assumes nothing.
use mathlib.Core.Path.{◌≡◌}
use Rattle.write.specs.Store.{parts}
use Rattle.write.proofs.store.store_parts.Given as goal

abbrev pub invariant-loop-i : goal.invariant-loop-i
invariant-loop-i g l = l.array ≡ parts l.at l.data l.from g.row.W l.initial.array l.i
