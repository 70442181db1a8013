-- A list with a stretch stored anew.
-- Assumes nothing.
use Rattle.std.specs.Prelude.{cond, ◌&&◌, List, ℕ, ◌+◌, ◌-◌, leb, ltb, length, get_or}
use Rattle.stripes.specs.Fold.{tabulate}

-- The list with f 0 .. f (n - 1) at the places from `at` on.
unfoldable pub stored : List ℕ → (at n : ℕ) → (ℕ → ℕ) → List ℕ
stored l at n f = tabulate (length l) (λ i. cond (leb at i && ltb i (at + n)) (f (i - at)) (get_or l i 0))
