-- `refusal::bytes_fit` meets its contract: the bytes so far are 0 or 1 exactly if what was gathered is.
-- Assumes nothing.
use mathlib.Core.Path.{◌≡◌}
use mathlib.Core.Bool.{Bool}
use mathlib.Core.List.{List}
use Prim.Native.Nat.{ℕ}
use lib.Dec.{leb}
use lib.ListN.{get_or}
use Rattle.stripes.specs.Fold.{every}
use Rattle.refusal.proofs.bytes_fit.Given as goal

-- A byte of the map is 0 or 1.
abbrev pub small : List ℕ → ℕ → Bool
small m d = leb (get_or m d 0) 1

abbrev pub invariant-loop-byte : goal.invariant-loop-byte
invariant-loop-byte l = leb l.any 1 ≡ every l.byte-index (small l.map)
