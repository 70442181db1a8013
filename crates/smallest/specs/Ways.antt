-- Shortest ways between two stripes over disks of a set, and the disks that are left where one of them is chosen.
-- Assumes nothing.
use Rattle.std.specs.Prelude.{◌≡◌, Bool, cond, not, ◌&&◌, ◌||◌, ◌⊎◌, List, ℕ, ◌+◌, ◌^◌, ◌<◌, eqb, leb, length, get_or}
use Rattle.std.specs.Int.Bits.{bit_or}
use Rattle.stripes.specs.System.{Layout, lower, higher}
use Rattle.stripes.specs.Joined.{crosses}
use Rattle.reach.specs.Reached.{has, reached, steps_to, next_in, word_stripes}
use Rattle.tally.specs.Tally.{Table}
use Rattle.neighbours.specs.Near.{Near}
use Rattle.smallest.specs.Leads.{disks_to, cut_table, on_crossing}

-- Where k disks of c lead from stripe s to stripe t and no fewer do: the number of disks that come before disk d on such a way, or k where d is
-- on none. A disk is on one if the disks to one of its stripes, the disk itself and those from its other stripe on are k.
unfoldable pub way_level : Layout → (c : ℕ → Bool) → (s t k d : ℕ) → ℕ
way_level L c s t k d =
    cond (leb (disks_to L c s k (lower L d) + 1 + disks_to L c t k (higher L d)) k) (disks_to L c s k (lower L d))
    (cond (leb (disks_to L c s k (higher L d) + 1 + disks_to L c t k (lower L d)) k) (disks_to L c s k (higher L d)) k)

-- The stripes that at most j disks of c lead to.
unfoldable pub within : Layout → (c : ℕ → Bool) → (s k j : ℕ) → ℕ → Bool
within L c s k j x = leb (disks_to L c s k x) j

-- Disk d is chosen there: of the disks that lead on from these stripes it alone is kept.
unfoldable pub kept : Layout → (c : ℕ → Bool) → (s k j d : ℕ) → ℕ → Bool
kept L c s k j d i = c i && (eqb i d || not (crosses L (within L c s k j) i))

-- ---- The same from a table of levels, which has a byte for each stripe twice: how many steps lead there from the one stripe, and from the other

-- The table of the steps from s and from t, over the neighbours in a table, m + 1 where m are not enough.
pub record Levelled (near : List ℕ) (s t m : ℕ) (levels : List ℕ) : Type 0 where
  pub room : length levels ≡ word_stripes + word_stripes
  pub here : (x : ℕ) → x < word_stripes → get_or levels x 0 ≡ steps_to (next_in near) word_stripes s m x
  pub there : (x : ℕ) → x < word_stripes → get_or levels (word_stripes + x) 0 ≡ steps_to (next_in near) word_stripes t m x

-- The level of a disk on two stripes, or k where the table of neighbours has none there.
unfoldable pub level_in : (near levels : List ℕ) → (low high k : ℕ) → ℕ
level_in near levels low high k =
    cond (next_in near low high)
    (cond (leb (get_or levels low 0 + 1 + get_or levels (word_stripes + high) 0) k) (get_or levels low 0)
    (cond (leb (get_or levels high 0 + 1 + get_or levels (word_stripes + low) 0) k) (get_or levels high 0) k))
    k

-- The table of neighbours where the disk on two stripes is chosen: it is cut at the stripes that at most j steps lead to from s, or it stays as it
-- is, since that disk alone leads on from them.
pub record Narrowed (near : List ℕ) (s j low high : ℕ) (after : List ℕ) : Type 0 where
  pub inside : ℕ
  pub reaches : (y : ℕ) → has inside y ≡ reached (next_in near) word_stripes s j y
  pub cut : (after ≡ cut_table near inside low high)
      ⊎ ((after ≡ near) × ((y : ℕ) → has (bit_or (2 ^ low) (2 ^ high)) y ≡ on_crossing near inside y))

-- The working map with its tables: the stripes of its disks, the neighbours by the disks of c, and the levels from s and from t.
pub record Measured (L : Layout) (c : ℕ → Bool) (work stripes near levels : List ℕ) (s t k : ℕ) : Type 0 where
  pub table : Table L work stripes
  pub neighbours : Near L c near
  pub levelled : Levelled near s t k levels
