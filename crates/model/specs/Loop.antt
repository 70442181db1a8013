-- The loops of paper 01, in its own words.
-- Assumes nothing.
use Rattle.std.specs.Prelude.{◌≡◌, Bool, true, List, ℕ, ◌+◌, ◌/◌, ◌%◌, ◌≤◌, ◌<◌, eqb, length}
use Rattle.stripes.specs.Fold.{count}
use Rattle.stripes.specs.Repair.{Entry, disk_of, stripe_of}
use Rattle.stripes.specs.Cycle.{following}
use Rattle.model.specs.Grid.{across, disks}
use Rattle.model.specs.declared.Size.{Size}

-- Disk d stands in row d / across z and in column d % across z. Column c is stripe base + c.
pub record Loop (z : Size) (base : ℕ) (e : ℕ → Bool) (w : List Entry) : Type 0 where
  -- A list of different erased disks, at least four.
  pub disk : (i : ℕ) → i < length w → disk_of w i < disks z
  pub erased : (i : ℕ) → i < length w → e (disk_of w i) ≡ true
  pub different : (i j : ℕ) → i < length w → j < length w → disk_of w i ≡ disk_of w j → i ≡ j
  pub long : 4 ≤ length w
  -- First and second share a row, second and third a column, and so on in turn; their number is even, so last and first share
  -- a column. The stripe of each is the one that it shares with the next, that of the last the one shared with the first.
  pub even : length w % 2 ≡ 0
  pub row : (i : ℕ) → i < length w → i % 2 ≡ 0
      → (stripe_of w i ≡ disk_of w i / across z) × (disk_of w (following w i) / across z ≡ disk_of w i / across z)
  pub column : (i : ℕ) → i < length w → i % 2 ≡ 1
      → (stripe_of w i ≡ base + disk_of w i % across z) × (disk_of w (following w i) % across z ≡ disk_of w i % across z)
  -- Each row and each column touched holds exactly two of them.
  pub two_in_row : (i : ℕ) → i < length w → count (length w) (λ j. eqb (disk_of w i / across z) (disk_of w j / across z)) ≡ 2
  pub two_in_column : (i : ℕ) → i < length w → count (length w) (λ j. eqb (disk_of w i % across z) (disk_of w j % across z)) ≡ 2
  -- It begins with its lowest-numbered disk.
  pub lowest_first : (i : ℕ) → i < length w → disk_of w 0 ≤ disk_of w i
