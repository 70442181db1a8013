-- Stretches of bytes that are summed, wherever they stand in a list.
-- Assumes nothing.
use Rattle.std.specs.Prelude.{◌≡◌, ◌⊎◌, Bool, true, not, List, ℕ, ◌+◌, ◌*◌, ◌≤◌, ◌<◌, eqb, length, get_or}
use Rattle.stripes.specs.Fold.{xsum, gate}

-- How many there are, how far behind the first place each starts, and which are taken.
pub record Spots : Type 0 where
  pub count : ℕ
  pub start : ℕ → ℕ
  pub taken : ℕ → Bool

-- Evenly spaced ones but number `skip`, and those at the numbers of a list.
abbrev pub spaced_spots : (step count skip : ℕ) → Spots
spaced_spots step count skip = record { count = count; start = λ k. k * step; taken = λ k. not (eqb k skip) }

abbrev pub picked_spots : (step : ℕ) → List ℕ → Spots
picked_spots step list = record { count = length list; start = λ k. get_or list k 0 * step; taken = λ k. true }

-- The exclusive or of a byte of each that is taken: the one as far behind place j as the stretch starts behind the first place.
unfoldable pub total_at : Spots → List ℕ → (j : ℕ) → ℕ
total_at r a j = xsum r.count (λ k. gate (r.taken k) (get_or a (j + r.start k) 0))

-- The stretches of w bytes lie within the list, where `first` is the first place.
pub record Inside (r : Spots) (a : List ℕ) (first w : ℕ) : Type 0 where
  pub each : (k : ℕ) → k < r.count → first + r.start k + w ≤ length a

-- So does a stretch that begins `gap` behind the first place, and none that is taken overlaps it.
pub record Clear (r : Spots) (a : List ℕ) (first gap w : ℕ) : Type 0 where
  pub inside : Inside r a first w
  pub room : first + gap + w ≤ length a
  pub apart : (k : ℕ) → k < r.count → r.taken k ≡ true → (r.start k + w ≤ gap) ⊎ (gap + w ≤ r.start k)
