-- `zeros::all_zero16` meets its contract: the bytes so far are all zero exactly if nothing was gathered.
-- Assumes nothing.
use Rattle.std.proofs.Common.{◌≡◌, ◌+◌, ℕ, List, Bool, eqb, get_or}
use Rattle.stripes.specs.Fold.{every}
use Rattle.zeros.proofs.all_zero16.Given as goal

-- Byte number i from `at` on is zero.
abbrev pub zero_at : List ℕ → (at i : ℕ) → Bool
zero_at a at i = eqb (get_or a (at + i) 0) 0

abbrev pub invariant-loop-b : goal.invariant-loop-b
invariant-loop-b l = eqb l.any 0 ≡ every l.b-index (zero_at l.a l.at)
