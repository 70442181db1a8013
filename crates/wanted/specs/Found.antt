-- The list for a wanted disk, as the planner finds it, and on the way to it.
-- Assumes nothing.
use Rattle.std.specs.Prelude.{◌≡◌, Bool, true, false, List, ℕ, length, Option, Some, None}
use Rattle.stripes.specs.System.{Layout}
use Rattle.stripes.specs.Erased.{erasures, without}
use Rattle.stripes.specs.Repair.{residual}
use Rattle.stripes.specs.Wanted.{serves, side_repairs, ending_with, wanted_repairs}
use Rattle.entries.specs.Listed.{listed}
use Rattle.tally.specs.Tally.{Table}
use Rattle.parts.specs.Parted.{Parted}

-- The erased disks of a map but d are in a map of their own, with their stripes in the table and their parts in another.
pub record Others (L : Layout) (map : List ℕ) (d : ℕ) (others stripes parts : List ℕ) : Type 0 where
  pub erased : erasures others ≡ without (erasures map) d
  pub table : Table L others stripes
  pub parted : Parted L (without (erasures map) d) L.disks parts

-- The list by stripe s, where the stripe serves: its repairs are listed, and how many they are.
pub record Serving (L : Layout) (e : ℕ → Bool) (d s count : ℕ) (list : List ℕ) : Type 0 where
  pub fine : serves L e d s ≡ true
  pub number : count ≡ length (ending_with (side_repairs L e d s) d s)
  pub entries : listed list count ≡ ending_with (side_repairs L e d s) d s

-- What trying stripe s answers: the number of repairs in that list, or none where the stripe does not serve.
abbrev pub Tried : Layout → (e : ℕ → Bool) → (d s : ℕ) → Option ℕ → (list : List ℕ) → Type 0
Tried L e d s (Some count) list = Serving L e d s count list
Tried L e d s None list = serves L e d s ≡ false

-- The list for disk d, where one reaches it: its repairs are listed, and how many they are.
pub record Reaching (L : Layout) (e : ℕ → Bool) (d count : ℕ) (list : List ℕ) : Type 0 where
  pub fine : residual L e d ≡ false
  pub number : count ≡ length (wanted_repairs L e d)
  pub entries : listed list count ≡ wanted_repairs L e d

-- What is found for disk d: the number of repairs in that list, or none where no list reaches the disk.
abbrev pub Found : Layout → (e : ℕ → Bool) → (d : ℕ) → Option ℕ → (list : List ℕ) → Type 0
Found L e d (Some count) list = Reaching L e d count list
Found L e d None list = residual L e d ≡ true
