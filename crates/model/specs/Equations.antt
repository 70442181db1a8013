-- The parity equations of the public description (source 001): P and Q are the parities of the horizontal and the vertical
-- RAID level 4 stripes, so the sum of their row's and their column's data, and S = P₁ ⊕ P₂ ⊕ .. = Q₁ ⊕ Q₂ ⊕ .., as it prints.
-- Assumes nothing.
use Rattle.std.specs.Prelude.{◌≡◌, List, ℕ, ◌<◌}
use Rattle.stripes.specs.Fold.{xsum}
use Rattle.stripes.specs.System.{byte}
use Rattle.model.specs.Grid.{rows, columns, disk_at}
use Rattle.stripes.specs.declared.Stretch.{Stretch}
use Rattle.model.specs.declared.Size.{Size}

-- The byte at place p of the disk in row r and column c.
unfoldable pub cell : Size → Stretch → List ℕ → ℕ → ℕ → ℕ → ℕ
cell z x a p r c = byte x a (disk_at z r c) p

-- The sum of a row without its last disk, and of a column without its last disk: of their data.
unfoldable pub row_data : Size → Stretch → List ℕ → ℕ → ℕ → ℕ
row_data z x a p r = xsum (columns z) (λ c. cell z x a p r c)

unfoldable pub column_data : Size → Stretch → List ℕ → ℕ → ℕ → ℕ
column_data z x a p c = xsum (rows z) (λ r. cell z x a p r c)

-- The equations at every place of the stretch.
pub record Equations (z : Size) (x : Stretch) (a : List ℕ) : Type 0 where
  pub row_parity : (p : ℕ) → p < x.width → (r : ℕ) → r < rows z → cell z x a p r (columns z) ≡ row_data z x a p r
  pub column_parity : (p : ℕ) → p < x.width → (c : ℕ) → c < columns z → cell z x a p (rows z) c ≡ column_data z x a p c
  pub superparity_of_rows : (p : ℕ) → p < x.width → cell z x a p (rows z) (columns z) ≡ xsum (rows z) (λ r. cell z x a p r (columns z))
  pub superparity_of_columns : (p : ℕ) → p < x.width → cell z x a p (rows z) (columns z) ≡ xsum (columns z) (λ c. cell z x a p (rows z) c)
