-- The planner's working map: the disks still erased, the table of their stripes, and the counts.
-- Assumes nothing.
use Rattle.std.specs.Prelude.{◌≡◌, Bool, true, false, ◌&&◌, List, [], ◌∷◌, ℕ, ◌+◌, ◌*◌, ◌≤◌, ◌<◌, leb, length, get_or, Option, MatchOption}
use Rattle.stripes.specs.Fold.{count, lowest}
use Rattle.stripes.specs.System.{Layout, on}
use Rattle.stripes.specs.Erased.{erasures}

-- The lowest erased disk from `from` on, or the length where there is none.
unfoldable pub next_erased : List ℕ → ℕ → ℕ
next_erased m from = lowest (length m) (λ d. leb from d && erasures m d)

-- No disk from `from` on and below d is erased, and d is no longer than the map.
pub record Passed (m : List ℕ) (from d : ℕ) : Type 0 where
  pub after : from ≤ d
  pub within : d ≤ length m
  pub none : (i : ℕ) → from ≤ i → i < d → erasures m i ≡ false

-- What a step of a scan gives that stands before disk `from`: the next erased disk d, behind which it stands then, or nothing where no disk
-- from `from` on is erased.
abbrev pub Steps : (m : List ℕ) (from : ℕ) → Option ℕ → (behind : ℕ) → Type 0
Steps m from found behind =
    MatchOption found (Passed m from (length m))
    (λ d. Passed m from d × (d < length m) × (erasures m d ≡ true) × (behind ≡ d + 1))

-- `work` has a 1 for each disk that is still erased, and `stripes` has the two stripes of each of them, those of disk d from
-- 2 * d on.
pub record Table (L : Layout) (work stripes : List ℕ) : Type 0 where
  pub disks_fit : L.disks ≤ length work
  pub table_fits : 2 * length work ≤ length stripes
  pub inside : (d : ℕ) → L.disks ≤ d → erasures work d ≡ false
  pub listed : (d : ℕ) → d < L.disks → erasures work d ≡ true
      → L.through d ≡ get_or stripes (2 * d) 0 ∷ get_or stripes (2 * d + 1) 0 ∷ []

-- `counts` has for each stripe how many disks of e lie on it.
pub record Counted (L : Layout) (e : ℕ → Bool) (counts : List ℕ) : Type 0 where
  pub stripes_fit : L.stripe_bound ≤ length counts
  pub held : (s : ℕ) → s < length counts → get_or counts s 0 ≡ count L.disks (λ d. e d && on L d s)

-- The erased disks are in the table, and counted.
pub record Tallied (L : Layout) (work stripes counts : List ℕ) : Type 0 where
  pub table : Table L work stripes
  pub counted : Counted L (erasures work) counts
