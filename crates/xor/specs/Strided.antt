-- Sums of bytes that stand evenly spaced in a list: what the leaf loops compute.
-- Assumes nothing.
use Rattle.std.specs.Prelude.{Bool, not, List, ℕ, ◌+◌, ◌*◌, ◌≤◌, ◌<◌, eqb, length, get_or}
use Rattle.stripes.specs.Fold.{◌⊕◌, xsum, gate}
use Rattle.zeros.specs.Stored.{stored}
use Rattle.xor.specs.Parts.{zero_from, stored_from}

-- The stretches of w bytes, `count` of them that stand `step` apart from `first` on, lie within the list.
abbrev pub Within : List ℕ → (first step count w : ℕ) → Type 0
Within a first step count w = (k : ℕ) → k < count → first + k * step + w ≤ length a

-- These stretches lie within the list and apart from each other, and `skip` is the number of one of them.
pub record Spaced (a : List ℕ) (first step count skip w : ℕ) : Type 0 where
  pub within : Within a first step count w
  pub apart : w ≤ step
  pub one : skip < count

-- The exclusive or of `count` bytes that stand `step` apart from `first` on, number `skip` left out.
unfoldable pub strided : List ℕ → (first step count skip : ℕ) → ℕ
strided a first step count skip = xsum count (λ k. gate (not (eqb k skip)) (get_or a (first + k * step) 0))

-- The list with f 0 .. f (n - 1) added to the bytes from `at` on.
unfoldable pub added : List ℕ → (at n : ℕ) → (ℕ → ℕ) → List ℕ
added l at n f = stored l at n (λ i. get_or l (at + i) 0 ⊕ f i)

-- The list with stretch number `skip`, n bytes of it, the sum of the others.
unfoldable pub filled : ℕ → List ℕ → (first step count skip : ℕ) → List ℕ
filled n a first step count skip = stored_from a (first + skip * step) (λ j. strided a j step count skip) first n

-- The sum of the stretches but number `skip` is zero at each of n places.
unfoldable pub cancelled : ℕ → List ℕ → (first step count skip : ℕ) → Bool
cancelled n a first step count skip = zero_from (λ j. strided a j step count skip) first n
