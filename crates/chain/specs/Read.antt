-- What reading a sheet comes to.
-- Assumes nothing.
use Rattle.std.specs.Prelude.{Bool, cond, ◌||◌, List, ℕ, eqb, ltb, length, get_or, Result, Ok, Err}
use Rattle.model.specs.Sheet.{narrow}
use Rattle.model.specs.Chain.{record_number, chain_entries}
use Rattle.model.specs.declared.answer.Refusal.{Refusal}
use Rattle.model.specs.Answers.{number}

-- Record k is marked.
unfoldable pub marked : List ℕ → ℕ → Bool
marked m k = eqb (get_or m k 0) 1

-- Byte i of a sheet is one of the first two, or in a record that is marked, or zero.
unfoldable pub in_order : (m s : List ℕ) → ℕ → Bool
in_order m s i = (ltb i 2 || marked m (record_number narrow i)) || eqb (get_or s i 0) 0

-- What a sheet lists: the number of repairs, or a refusal by its number.
pub data Chain : Type 0 where
  Records : ℕ → Chain
  Refused : ℕ → Chain

-- An answer in these words.
unfoldable pub chain_of : Result ℕ Refusal → Chain
chain_of (Ok c) = Records c
chain_of (Err r) = Refused (number r)

-- The answer for a sheet whose tests give the refusal k, or 0.
unfoldable pub chain_read : ℕ → List ℕ → Chain
chain_read k s = cond (eqb k 0) (Records (length (chain_entries narrow s))) (Refused k)
