-- What is done with the values that a function u gives for the places from `first` on.
-- Assumes nothing.
use Rattle.std.specs.Prelude.{Bool, List, ℕ, ◌+◌, eqb}
use Rattle.stripes.specs.Fold.{every}
use Rattle.zeros.specs.Stored.{stored}

-- The first n of them are zero.
abbrev pub zero_from : (u : ℕ → ℕ) → (first n : ℕ) → Bool
zero_from u first n = every n (λ i. eqb (u (first + i)) 0)

-- The list with the first n of them stored from `at` on.
abbrev pub stored_from : List ℕ → (at : ℕ) → (u : ℕ → ℕ) → (first n : ℕ) → List ℕ
stored_from a at u first n = stored a at n (λ i. u (first + i))
