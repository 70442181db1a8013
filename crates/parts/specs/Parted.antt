-- Tables with a place for each stripe, and the table of parts: for each stripe, the name of its part.
-- Assumes nothing.
use Rattle.std.specs.Prelude.{◌≡◌, Bool, List, ℕ, ◌≤◌, ◌<◌, length, get_or}
use Rattle.stripes.specs.System.{Layout}
use Rattle.stripes.specs.Joined.{part_by}

-- The table has the value f s for each stripe s below n.
abbrev pub Values : (f : ℕ → ℕ) → (n : ℕ) → (table : List ℕ) → Type 0
Values f n table = (s : ℕ) → s < n → get_or table s 0 ≡ f s

-- The table has a place for every stripe, and the names are those of the parts after the first k disks: disks of c join their stripes.
pub record Parted (L : Layout) (c : ℕ → Bool) (k : ℕ) (parts : List ℕ) : Type 0 where
  pub stripes_fit : L.stripe_bound ≤ length parts
  pub named : Values (part_by L c k) L.stripe_bound parts
