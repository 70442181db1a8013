-- How a call refuses: its tests in the paper's order, each with the number that is returned where it is the first to fail.
-- Assumes nothing.
use Rattle.std.specs.Prelude.{Bool, cond, List, [], ◌∷◌, ◌++◌, ℕ, zero, suc, min, eqb}
use Rattle.model.specs.Grid.{size_fits, block_fits, array_bytes, sector_fits}
use Rattle.model.specs.declared.Size.{Size}

-- `k unless t`: refusal k is given where the test t fails.
infix 72 ◌unless◌
pub data Test : Type 0 where
  ◌unless◌ : ℕ → Bool → Test

-- The number of the first test that fails, or 0 where all hold.
unfoldable pub refusal : List Test → ℕ
refusal [] = 0
refusal (k unless t ∷ ts) = cond t (refusal ts) k

-- Of two numbers of refusals the lower, which is that of the earlier test where the numbers of the tests rise, as 10, 13 and 14 do; 0 is none.
unfoldable pub earlier : (j k : ℕ) → ℕ
earlier zero k = k
earlier (suc j) zero = suc j
earlier (suc j) (suc k) = min (suc j) (suc k)

-- The tests with which every call on an array begins: the size, the block's length, the array's length.
unfoldable pub array_tests : Size → (B len : ℕ) → List Test
array_tests z B len = 1 unless size_fits z ∷ 2 unless block_fits B ∷ 3 unless eqb len (array_bytes z B) ∷ []

-- Where blocks have sectors, their length is tested too.
unfoldable pub sector_tests : Size → (B len w : ℕ) → List Test
sector_tests z B len w = array_tests z B len ++ (16 unless sector_fits B w ∷ [])
