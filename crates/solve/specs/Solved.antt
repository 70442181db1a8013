-- What a loss comes to: repairs in plan's order, or a cycle.
-- Assumes nothing.
use Rattle.std.specs.Prelude.{◌≡◌, Bool, true, false, List, ℕ, length}
use Rattle.stripes.specs.System.{Layout}
use Rattle.stripes.specs.Repair.{repairs, fatal}
use Rattle.stripes.specs.Smallest.{shown_cycle}
use Rattle.stripes.specs.Undetermined.{lost}
use Rattle.entries.specs.Listed.{listed}
use Rattle.solve.specs.declared.Solved.{Solved}
use Rattle.solve.specs.declared.Solved.TheVariants.{Repairs, Cycle}

-- The loss is not fatal: its repairs are listed, and how many they are.
pub record Repairable (L : Layout) (e : ℕ → Bool) (count : ℕ) (list : List ℕ) : Type 0 where
  pub fine : fatal L e ≡ false
  pub number : count ≡ length (repairs L e)
  pub entries : listed list count ≡ repairs L e

-- The loss is fatal: a cycle is listed, and how many disks it has, and how many are undetermined.
pub record Lossy (L : Layout) (e : ℕ → Bool) (disks unknown : ℕ) (list : List ℕ) : Type 0 where
  pub lossy : fatal L e ≡ true
  pub number : disks ≡ length (shown_cycle L e)
  pub undetermined : unknown ≡ lost L e
  pub entries : listed list disks ≡ shown_cycle L e

-- An answer says which, and it is so.
abbrev pub Solves : Layout → (ℕ → Bool) → Solved → List ℕ → Type 0
Solves L e (Repairs count) list = Repairable L e count list
Solves L e (Cycle disks unknown) list = Lossy L e disks unknown list
