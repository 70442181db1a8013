-- Blocks cut into sectors (paper 02, P6): every sector is a disk by itself, and the sectors at each position of the block are a stripe
-- system of their own.
-- Assumes nothing.
use Rattle.std.specs.Prelude.{◌≡◌, Bool, cond, List, [], ◌∷◌, ◌++◌, map, ℕ, zero, suc, ◌+◌, ◌*◌, ◌/◌, ◌%◌, ◌<◌, ◌≤◌, eqb, length}
use Rattle.stripes.specs.Fold.{lowest}
use Rattle.stripes.specs.System.{Layout}
use Rattle.stripes.specs.Repair.{Entry, disk_of, stripe_of, repairs, fatal, InOrder}
use Rattle.stripes.specs.declared.Stretch.{Stretch}

-- Where a block has n sectors, the number of the sector of disk k at position p: all sectors of disk 0 come first. The stripes of the
-- sectors at a position are numbered likewise.
unfoldable pub sector_at : (n p k : ℕ) → ℕ
sector_at n p k = k * n + p

-- The stripe system of the sectors: each lies on the stripes of its disk, at its own position. So sectors at different positions share no
-- stripe.
unfoldable pub sectored : (n : ℕ) → Layout → Layout
sectored n L =
    record {
      disks = L.disks * n;
      stripe_bound = L.stripe_bound * n;
      through = λ i. map (sector_at n (i % n)) (L.through (i / n));
    }

-- The disks whose sector at position p is erased.
unfoldable pub at_position : (n p : ℕ) → (e : ℕ → Bool) → ℕ → Bool
at_position n p e d = e (sector_at n p d)

-- The bytes of that position in blocks of B bytes, with sectors of w.
abbrev pub stretch_at : (B w p : ℕ) → Stretch
stretch_at B w p = record { block = B; offset = p * w; width = w }

-- A repair, or a step of a cycle, of disks at position p as one of sectors.
unfoldable pub sector_entry : (n p : ℕ) → Entry → Entry
sector_entry n p r = record { disk = sector_at n p r.disk; stripe = sector_at n p r.stripe }

-- The lists of the first k positions, one after another, as one list of sectors: positions are taken in rising order.
unfoldable pub rising : (n : ℕ) → (lists : ℕ → List Entry) → (k : ℕ) → List Entry
rising n lists zero = []
rising n lists (suc k) = rising n lists k ++ map (sector_entry n k) (lists k)

-- The repairs of erased sectors in plan's order: at each position those of plan's order there.
unfoldable pub sector_repairs : (n : ℕ) → Layout → (e : ℕ → Bool) → List Entry
sector_repairs n L e = rising n (λ p. repairs L (at_position n p e)) n

-- The entries of a list of sectors that are at position p, as entries of disks.
unfoldable pub of_position : (n p : ℕ) → List Entry → List Entry
of_position n p [] = []
of_position n p (r ∷ rs) =
    cond (eqb (r.disk % n) p) (record { disk = r.disk / n; stripe = r.stripe / n } ∷ of_position n p rs) (of_position n p rs)

-- The lowest position at which the loss is fatal, or n where there is none.
unfoldable pub fatal_position : (n : ℕ) → Layout → (e : ℕ → Bool) → ℕ
fatal_position n L e = lowest n (λ p. fatal L (at_position n p e))

-- A list of repairs of sectors in plan's order that leaves nothing erased.
pub record InRisingOrder (n : ℕ) (L : Layout) (e : ℕ → Bool) (w : List Entry) : Type 0 where
  -- At each position its repairs are in plan's order and leave nothing erased there,
  pub at_each : (p : ℕ) → p < n → InOrder L (at_position n p e) (of_position n p w)
  -- each goes by a stripe at its sector's position,
  pub own_stripe : (i : ℕ) → i < length w → stripe_of w i % n ≡ disk_of w i % n
  -- and positions are taken in rising order.
  pub in_turn : (i j : ℕ) → i < j → j < length w → disk_of w i % n ≤ disk_of w j % n
