-- `notes::note_all` meets its contract: each turn notes the next erased sector of the map.
-- Assumes nothing.
use mathlib.Core.Path.{◌≡◌}
use Prim.Native.Nat.{◌*◌}
use lib.ListN.{length}
use Rattle.notes.proofs.Noted.{NotedTo}
use Rattle.notes.proofs.note_all.Given as goal

abbrev pub invariant-loop-i : goal.invariant-loop-i
invariant-loop-i l =
    (goal.iterator-loop-i).can_next l.i-iterator × (goal.iterator-loop-i).is_finite l.i-iterator × (l.i-iterator.map.now ≡ l.map)
    × (length l.sheets ≡ 98 * l.sectors) × NotedTo l.sectors l.map l.sheets l.i-iterator.from
