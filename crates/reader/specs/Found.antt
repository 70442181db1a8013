-- What a reader finds under a number.
-- Assumes nothing.
use Rattle.std.specs.Prelude.{cond, ◌&&◌, List, ℕ, eqb, leb, length}
use Rattle.model.specs.Sheet.{narrow, sheet_bytes}
use Rattle.model.specs.Chain.{entry_at, next_number}
use Rattle.reader.specs.declared.Found.{Found}
use Rattle.reader.specs.declared.Found.TheVariants.{Record, End, Outside}

unfoldable pub found_at : List ℕ → ℕ → Found
found_at s k =
    cond (eqb k 0) End
    (cond (leb k narrow.records && eqb (length s) (sheet_bytes narrow))
    (Record (entry_at narrow s k).disk (entry_at narrow s k).stripe (next_number narrow s k)) Outside)
