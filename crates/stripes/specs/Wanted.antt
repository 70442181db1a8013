-- One erased disk that is wanted first (paper 02, P5): the shortest list of allowed repairs that ends with it.
-- Assumes nothing.
use Rattle.std.specs.Prelude.{◌≡◌, Bool, true, cond, not, ◌&&◌, ◌||◌, List, ◌∷◌, ◌++◌, [], ℕ, ◌≤◌, ◌<◌, leb, length, take}
use Rattle.stripes.specs.System.{Layout, lower, higher}
use Rattle.stripes.specs.Erased.{without}
use Rattle.stripes.specs.Repair.{Entry, disk_of, allowed, Peels, peel, after}
use Rattle.stripes.specs.Joined.{joined}

-- ---- How it is found

-- Disk i is on the side of disk d at stripe s: it is another erased disk, and erased disks other than d join it with the stripe. Its own
-- two stripes are then in one part, so that either could stand for it here.
unfoldable pub on_side : Layout → (e : ℕ → Bool) → (d s i : ℕ) → Bool
on_side L e d s i = without e d i && joined L (without e d) (lower L i) s

-- The repairs of that side by lowest number, with d still erased, and whether stripe s then serves: disk d can be repaired by it.
unfoldable pub side_repairs : Layout → (e : ℕ → Bool) → (d s : ℕ) → List Entry
side_repairs L e d s = peel L (on_side L e d s) L.disks e

unfoldable pub serves : Layout → (e : ℕ → Bool) → (d s : ℕ) → Bool
serves L e d s = allowed L (after e (side_repairs L e d s)) d s

-- Of the two stripes of d the lower one is taken if it serves, unless the higher one serves with fewer repairs. Where neither serves, what
-- follows says nothing: no list reaches the disk.
unfoldable pub takes_lower : Layout → (e : ℕ → Bool) → (d : ℕ) → Bool
takes_lower L e d =
    serves L e d (lower L d)
    && (not (serves L e d (higher L d)) || leb (length (side_repairs L e d (lower L d))) (length (side_repairs L e d (higher L d))))

unfoldable pub wanted_stripe : Layout → (e : ℕ → Bool) → (d : ℕ) → ℕ
wanted_stripe L e d = cond (takes_lower L e d) (lower L d) (higher L d)

-- The list: the side at that stripe, and then the disk by it.
abbrev pub ending_with : List Entry → (d s : ℕ) → List Entry
ending_with v d s = v ++ (record { disk = d; stripe = s } ∷ [])

unfoldable pub wanted_repairs : Layout → (e : ℕ → Bool) → (d : ℕ) → List Entry
wanted_repairs L e d = ending_with (side_repairs L e d (wanted_stripe L e d)) d (wanted_stripe L e d)

-- ---- What it is, in paper 02's words

-- A list of allowed repairs reaches disk d: it ends with it.
abbrev pub Reached : Layout → (e : ℕ → Bool) → (d : ℕ) → Type 0
Reached L e d = (v : List Entry) × (s : ℕ) × Peels L e (ending_with v d s)

pub record Wanted (L : Layout) (e : ℕ → Bool) (d : ℕ) (w : List Entry) : Type 0 where
  pub before : List Entry
  pub stripe : ℕ
  -- It ends with the disk, and each repair is allowed at its step.
  pub ends : w ≡ ending_with before d stripe
  pub allowed_all : Peels L e w
  -- No shorter list exists, whatever it contains, and none of the same length ends by a lower stripe (paper 02: its row wins a tie).
  pub shortest : (v : List Entry) (s : ℕ) → Peels L e (ending_with v d s) → length before ≤ length v
  pub lower_wins : (v : List Entry) (s : ℕ) → Peels L e (ending_with v d s) → length v ≡ length before → stripe ≤ s
  -- Steps before it go by lowest number: where a disk that comes later in the list can be repaired, the one repaired is no higher. By which
  -- stripe needs no rule: where every disk lies on two stripes, just one is allowed at each of these steps.
  pub lowest_first : (i k : ℕ) → i < k → k < length before → (s : ℕ)
      → allowed L (after e (take i before)) (disk_of before k) s ≡ true → disk_of before i ≤ disk_of before k
