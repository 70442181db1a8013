-- Rebuild: what it answers and what the array, the map and the sheets hold afterwards, for every input.
-- Assumes nothing.
use Rattle.std.specs.Prelude.{cond, List, [], ◌∷◌, ◌++◌, ℕ, ◌/◌, eqb, ltb, length}
use Rattle.stripes.specs.System.{whole}
use Rattle.stripes.specs.Sectors.{sectored}
use Rattle.model.specs.Refusal.{Test, ◌unless◌, refusal, sector_tests}
use Rattle.model.specs.Sheet.{narrow}
use Rattle.model.specs.Plan.{sheet_tests, sheet_layout}
use Rattle.model.specs.Turn.{Turn, turn_of, turns_by}
use Rattle.model.specs.declared.Size.{Size}
use Rattle.model.specs.Outcome.{Refused}

-- The tests of the size and of the lent buffers with which rebuild and follow begin: blocks of B bytes with sectors of w.
unfoldable pub buffer_tests : Size → (B w arrayLen : ℕ) → List ℕ → (len : ℕ) → List Test
buffer_tests z B w arrayLen m len = sector_tests z B arrayLen w ++ sheet_tests z (B / w) m len

unfoldable pub buffer_refusal : Size → (B w : ℕ) → (a m sheets : List ℕ) → ℕ
buffer_refusal z B w a m sheets = refusal (buffer_tests z B w (length a) m (length sheets))

-- Rebuild tests, besides, that the limit k allows a repair.
unfoldable pub rebuild_tests : Size → (B w arrayLen : ℕ) → List ℕ → (len k : ℕ) → List Test
rebuild_tests z B w arrayLen m len k = buffer_tests z B w arrayLen m len ++ (12 unless ltb 0 k ∷ [])

unfoldable pub rebuild_refusal : Size → (B w : ℕ) → (a m sheets : List ℕ) → (k : ℕ) → ℕ
rebuild_refusal z B w a m sheets k = refusal (rebuild_tests z B w (length a) m (length sheets) k)

-- How rebuild ends with a limit of k: refused by its tests, with everything as it was, else as a turn does.
unfoldable pub rebuild_turn : Size → (B w : ℕ) → (a m sheets : List ℕ) → (k : ℕ) → Turn
rebuild_turn z B w a m sheets k =
    cond (eqb (rebuild_refusal z B w a m sheets k) 0) (turn_of (B / w) (sheet_layout z) narrow (whole w) k a m)
    (record { answer = Refused (rebuild_refusal z B w a m sheets k); array = a; map = m; sheets = sheets })

-- Rebuild called turn after turn, with the same limit and sheets for each turn.
abbrev pub rebuild_turns : Size → (B w k : ℕ) → (buffers : List (List ℕ)) → (a m : List ℕ) → List Turn
rebuild_turns z B w k = turns_by (sectored (B / w) (sheet_layout z)) (λ a m s. rebuild_turn z B w a m s k)
