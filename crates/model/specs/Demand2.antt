-- Demand 2, what seal, check and write promise of the parities, as statements about them where their tests refuse nothing. They take no
-- sector length; what they do to blocks of n sectors of w bytes is said for every n and w that make up the block.
-- Assumes nothing.
use Rattle.std.specs.Prelude.{◌≡◌, true, ◌↔◌, List, ℕ, ◌+◌, ◌*◌, ◌<◌, length, get_or}
use Rattle.stripes.specs.System.{whole, byte, stripe_sum}
use Rattle.stripes.specs.Sectors.{stretch_at}
use Rattle.model.specs.Grid.{layout_of, column_base, disks, is_data}
use Rattle.model.specs.Equations.{Equations}
use Rattle.model.specs.Array.{seal_status, seal_array, replaced}
use Rattle.model.specs.declared.Size.{Size}

-- Two arrays have the same bytes at position p of sectors of w bytes, on every disk.
abbrev pub SameAt : Size → (B w p : ℕ) → (a b : List ℕ) → Type 0
SameAt z B w p a b = (d : ℕ) → d < disks z → (q : ℕ) → q < w → byte (stretch_at B w p) a d q ≡ byte (stretch_at B w p) b d q

-- Sealing gives exactly the parities of the public description: its equations hold, and the data keep their bytes.
pub record SealDemand (z : Size) (B : ℕ) (before after : List ℕ) : Type 0 where
  pub long : length after ≡ length before
  pub equations : Equations z (whole B) after
  pub kept : (d : ℕ) → is_data z d ≡ true → (p : ℕ) → p < B → byte (whole B) after d p ≡ byte (whole B) before d p
  -- Each sector position is an array by itself: the equations hold there, and where they held before, every byte stays.
  pub positions : (n w : ℕ) → B ≡ n * w → (p : ℕ) → p < n → Equations z (stretch_at B w p) after
      × (Equations z (stretch_at B w p) before → SameAt z B w p before after)

-- Checking answers 0 exactly if all parity equations hold, and so exactly if they hold at each position.
pub record CheckDemand (z : Size) (B : ℕ) (a : List ℕ) (status : ℕ) : Type 0 where
  pub equations : (status ≡ 0) ↔ Equations z (whole B) a
  pub positions : (n w : ℕ) → B ≡ n * w → (status ≡ 0) ↔ ((p : ℕ) → p < n → Equations z (stretch_at B w p) a)

-- Writing a data disk of a sealed array gives what sealing the changed data would give, and every stripe's sum stays what it was,
-- sealed array or not.
pub record WriteDemand (z : Size) (B : ℕ) (before : List ℕ) (d : ℕ) (new after : List ℕ) : Type 0 where
  pub sealed : Equations z (whole B) before
      → (seal_status z B (replaced z B before d new) ≡ 0) × (after ≡ seal_array z B (replaced z B before d new))
  pub sums : (s : ℕ) → s < (layout_of z (column_base z)).stripe_bound → (p : ℕ) → p < B
      → stripe_sum (layout_of z (column_base z)) (whole B) after s p ≡ stripe_sum (layout_of z (column_base z)) (whole B) before s p
  -- Where the new block has at one position what the disk had, no disk changes there.
  pub positions : (n w : ℕ) → B ≡ n * w → (p : ℕ) → p < n
      → ((q : ℕ) → q < w → get_or new (p * w + q) 0 ≡ byte (stretch_at B w p) before d q) → SameAt z B w p before after
