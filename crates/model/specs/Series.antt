-- Turns of rebuild one after another, with the sheets for each in one buffer.
-- Assumes nothing.
use Rattle.std.specs.Prelude.{◌≡◌, cond, ◌&&◌, List, [], map, ℕ, ◌*◌, ◌/◌, length, drop}
use Rattle.model.specs.Grid.{block_fits, sector_fits}
use Rattle.model.specs.Sheet.{narrow, sheets_bytes, parts_in}
use Rattle.model.specs.Turn.{Turn, last_of}
use Rattle.model.specs.Rebuild.{rebuild_turns}
use Rattle.model.specs.declared.Size.{Size}
use Rattle.model.specs.Outcome.{Refused}

-- The positions that a turn has sheets for. Where block or sector is refused, a turn gets one sheet and is refused.
unfoldable pub positions : (B w : ℕ) → ℕ
positions B w = cond (block_fits B && sector_fits B w) (B / w) 1

-- The bytes of the sheets of one turn.
abbrev pub turn_bytes : (B w : ℕ) → ℕ
turn_bytes B w = sheets_bytes narrow (positions B w)

-- Before the first turn. Without sheets no turn is made, nothing else is looked at, and the answer is 5, that of sheets of the wrong
-- length.
abbrev pub start : (a m : List ℕ) → Turn
start a m = record { answer = Refused 5; array = a; map = m; sheets = [] }

-- The turns with the sheets that stand one after another in a buffer, as many as it holds, and how they end.
abbrev pub turns_in : Size → (B w k : ℕ) → (sheets a m : List ℕ) → List Turn
turns_in z B w k s a m = rebuild_turns z B w k (parts_in (turn_bytes B w) (length s / turn_bytes B w) s) a m

abbrev pub end_of : Size → (B w k : ℕ) → (sheets a m : List ℕ) → Turn
end_of z B w k s a m = last_of (start a m) (turns_in z B w k s a m)

-- The sheets of the turns stand one after another at the front of the buffer, and what is behind them stays.
pub record Written (bytes : ℕ) (before after : List ℕ) (ts : List Turn) : Type 0 where
  pub sheets : parts_in bytes (length ts) after ≡ map (λ (t : Turn). t.sheets) ts
  pub rest : drop (bytes * length ts) after ≡ drop (bytes * length ts) before
