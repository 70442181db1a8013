-- The text for a size and a map, and the lists that it is printed from.
-- Assumes nothing.
use Rattle.std.specs.Prelude.{List, ◌∷◌, ℕ, ◌≤◌, ◌<◌, length}
use Rattle.model.specs.Grid.{rows, columns}
use Rattle.model.specs.Listing.{listing}
use Rattle.model.specs.declared.Size.{Size}
use Rattle.entries.specs.Listed.{entry_disk, entry_stripe}

-- What is printed for an input that has the size's two bytes and then the map.
unfoldable pub reported : Size → List ℕ → List ℕ
reported z m = listing (rows z ∷ columns z ∷ m)

-- The first `count` entries of a list can be printed: they are at most 32, and no number has more than three digits.
pub record Printable (l : List ℕ) (count : ℕ) : Type 0 where
  pub held : count ≤ length l
  pub few : count ≤ 32
  pub disk : (k : ℕ) → k < count → entry_disk l k < 1000
  pub stripe : (k : ℕ) → k < count → entry_stripe l k < 1000
