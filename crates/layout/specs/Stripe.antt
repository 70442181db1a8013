-- Where the disks of a stripe stand, as numbers.
-- Assumes nothing.
use Rattle.std.specs.Prelude.{◌≡◌, Bool, true, cond, ℕ, ◌+◌, ◌*◌, ◌-◌, ◌/◌, ◌%◌, ◌≤◌, ◌<◌, ltb}
use Rattle.stripes.specs.Fold.{count}
use Rattle.stripes.specs.System.{on}
use Rattle.model.specs.Grid.{rows, across, down, disks, layout_of, size_fits}
use Rattle.model.specs.declared.Size.{Size}
use Rattle.layout.specs.declared.stripe.Run.{Run}

-- The planner has room for the stripes below this number.
abbrev pub stripe_limit : ℕ
stripe_limit = 64

-- A size that the library takes, and a base that its stripes can be numbered with: above the rows, and so that the planner has
-- room for every stripe.
pub record Numbered (z : Size) (base : ℕ) : Type 0 where
  pub fits : size_fits z ≡ true
  pub above : rows z < base
  pub small : base + across z ≤ stripe_limit

-- Some disk lies on stripe s.
unfoldable pub has_disks : Size → (base s : ℕ) → Bool
has_disks z base s = ltb 0 (count (disks z) (λ d. on (layout_of z base) d s))

-- Disk number k of a run.
abbrev pub run_disk : Run → ℕ → ℕ
run_disk run k = run.first + k * run.step

-- The disks of row r stand one apart, the disks of column c (stripe base + c) one row apart.
unfoldable pub disks_on : Size → (base s : ℕ) → Run
disks_on z base s =
    cond (ltb s base) (record { first = s * across z; step = 1; count = across z })
    (record { first = s - base; step = across z; count = down z })

-- Which of them disk d is.
unfoldable pub place_on : Size → (base d s : ℕ) → ℕ
place_on z base d s = cond (ltb s base) (d % across z) (d / across z)
