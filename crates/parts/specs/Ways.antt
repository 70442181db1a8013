-- Links, and the ways that they make: how all undetermined disks are found in one pass over the erased ones.
-- A disk that joins two parts is a link. It ends the name of one of them, and that name is its number. A set of links is a number
-- that has a binary digit for each.
-- Assumes nothing.
use Rattle.std.specs.Prelude.{Bool, cond, not, ◌&&◌, List, ℕ, zero, suc, ◌^◌, ◌≤◌, eqb, length}
use Rattle.std.specs.Int.Bits.{bit_or}
use Rattle.stripes.specs.Fold.{◌⊕◌, gate, bit}
use Rattle.stripes.specs.System.{Layout, lower, higher}
use Rattle.stripes.specs.Erased.{without}
use Rattle.stripes.specs.Joined.{part_by, joined}
use Rattle.parts.specs.Parted.{Values}

-- The disks of e before d join its two stripes.
abbrev pub joined_before : Layout → (e : ℕ → Bool) → (d : ℕ) → Bool
joined_before L e d = eqb (part_by L e d (lower L d)) (part_by L e d (higher L d))

-- The links between the two stripes of d: those on the way of just one of the two.
abbrev pub between : Layout → (way : ℕ → ℕ) → (d : ℕ) → ℕ
between L way d = way (lower L d) ⊕ way (higher L d)

-- A link joins the parts of stripes a and b. From each stripe of b's part the way to the name of a's leads through b, over the link, and
-- on from a.
unfoldable pub longer : (a b : ℕ) → (named way : ℕ → ℕ) → ℕ → ℕ
longer a b named way s = way s ⊕ gate (eqb (named s) (named b)) (way a ⊕ way b ⊕ 2 ^ named b)

-- The way of each stripe after the first k disks: the links between it and the stripe that names its part.
unfoldable pub way_by : Layout → (e : ℕ → Bool) → (k : ℕ) → ℕ → ℕ
way_by L e zero = λ s. 0
way_by L e (suc k) =
    cond (e k && not (joined_before L e k)) (longer (lower L k) (higher L k) (part_by L e k) (way_by L e k)) (way_by L e k)

-- A disk that is no link closes a cycle with the links between its stripes. These are the links on such cycles.
unfoldable pub closed_by : Layout → (e : ℕ → Bool) → (k : ℕ) → ℕ
closed_by L e zero = 0
closed_by L e (suc k) = bit_or (closed_by L e k) (gate (e k && joined_before L e k) (between L (way_by L e k) k))

-- The table of ways after the first k disks: it has a place for every stripe.
pub record Walked (L : Layout) (e : ℕ → Bool) (k : ℕ) (ways : List ℕ) : Type 0 where
  pub stripes_fit : L.stripe_bound ≤ length ways
  pub walked : Values (way_by L e k) L.stripe_bound ways

-- The table of the stripes that the disks of e but d join with its lower one: they have 1, and the others 0.
abbrev pub SideOf : Layout → (e : ℕ → Bool) → (d : ℕ) → (side : List ℕ) → Type 0
SideOf L e d side = Values (λ s. bit (joined L (without e d) s (lower L d))) L.stripe_bound side
