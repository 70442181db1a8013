-- Sums of bytes that stand at the numbers that a list gives: number k of them at first + list[k] * step.
-- Assumes nothing.
use Rattle.std.specs.Prelude.{◌≡◌, Bool, List, ℕ, ◌+◌, ◌*◌, ◌≤◌, ◌<◌, length, get_or}
use Rattle.stripes.specs.Fold.{xsum}
use Rattle.xor.specs.Parts.{zero_from, stored_from}

-- There are `count` numbers in the list, and the stretches of w bytes at them lie within a.
pub record Chosen (a : List ℕ) (first step : ℕ) (list : List ℕ) (count w : ℕ) : Type 0 where
  pub listed : count ≤ length list
  pub within : (k : ℕ) → k < count → first + get_or list k 0 * step + w ≤ length a

-- The stretch at the number `target` lies within a too, and apart from them.
pub record Beside (a : List ℕ) (first step : ℕ) (list : List ℕ) (count target w : ℕ) : Type 0 where
  pub chosen : Chosen a first step list count w
  pub room : first + target * step + w ≤ length a
  pub apart : w ≤ step
  pub other : (k : ℕ) → k < count → get_or list k 0 ≡ target → ⊥

-- The exclusive or of the bytes at the first `count` numbers.
unfoldable pub picked : List ℕ → (first step : ℕ) → (list : List ℕ) → (count : ℕ) → ℕ
picked a first step list count = xsum count (λ k. get_or a (first + get_or list k 0 * step) 0)

-- The list with the stretch at the number `target`, n bytes of it, the sum of the stretches picked.
unfoldable pub picked_filled : ℕ → List ℕ → (first step : ℕ) → (list : List ℕ) → (count target : ℕ) → List ℕ
picked_filled n a first step list count target = stored_from a (first + target * step) (λ j. picked a j step list count) first n

-- The sum of the stretches picked is zero at each of n places.
unfoldable pub picked_cancelled : ℕ → List ℕ → (first step : ℕ) → (list : List ℕ) → (count : ℕ) → Bool
picked_cancelled n a first step list count = zero_from (λ j. picked a j step list count) first n
