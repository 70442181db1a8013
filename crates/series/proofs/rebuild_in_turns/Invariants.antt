-- `series::rebuild_in_turns` meets its contract: each turn goes on from what those before it left.
-- Assumes nothing.
use mathlib.Core.List.{List}
use Rattle.model.specs.Turn.{Turn}
use Rattle.series.specs.Total.{total_of_turns}
use Rattle.series.proofs.Progress.{Progress}
use Rattle.series.proofs.rebuild_in_turns.Given as goal

abbrev pub invariant-loop-done : goal.invariant-loop-done
invariant-loop-done l = (ts : List Turn) × Progress l.size l.block l.sector l.limit l.bytes l.initial.array l.initial.map l.initial.sheets ts (total_of_turns l.done) l.array l.map l.sheets

abbrev pub decreases-loop-done : goal.decreases-loop-done
decreases-loop-done l = l.done.left
