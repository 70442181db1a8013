-- The two halves of a seal, in terms of bytes.
-- Assumes nothing.
use Rattle.std.specs.Prelude.{List, ℕ, zero, suc, ◌*◌}
use Rattle.model.specs.Grid.{rows, columns, across, down}
use Rattle.model.specs.declared.Size.{Size}
use Rattle.xor.specs.Strided.{filled}

-- The last block of row r is the sum of the others.
unfoldable pub row_filled : Size → ℕ → List ℕ → ℕ → List ℕ
row_filled z B a r = filled B a (r * (across z * B)) B (across z) (columns z)

-- So in the first k rows.
unfoldable pub rows_filled : Size → ℕ → List ℕ → ℕ → List ℕ
rows_filled z B a zero = a
rows_filled z B a (suc k) = row_filled z B (rows_filled z B a k) k

-- The last row is the sum of the others.
unfoldable pub last_row_filled : Size → ℕ → List ℕ → List ℕ
last_row_filled z B a = filled (across z * B) a 0 (across z * B) (down z) (rows z)
