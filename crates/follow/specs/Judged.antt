-- What reading the sheets of some positions comes to.
-- Assumes nothing.
use Rattle.std.specs.Prelude.{cond, List, ℕ, eqb, length}
use Rattle.model.specs.Refusal.{refusal}
use Rattle.model.specs.Sheet.{narrow}
use Rattle.model.specs.Follow.{sheets_tests, sheets_entries}
use Rattle.chain.specs.Read.{Chain}
use Rattle.chain.specs.Read.{Records, Refused}

-- The answer for n sheets: how many repairs they list, or the refusal.
unfoldable pub chains_read : (n : ℕ) → List ℕ → Chain
chains_read n s =
    cond (eqb (refusal (sheets_tests narrow n s)) 0) (Records (length (sheets_entries narrow n s))) (Refused (refusal (sheets_tests narrow n s)))
