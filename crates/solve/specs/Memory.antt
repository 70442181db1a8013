-- The planner's working memory, and what is there after plan's order.
-- Assumes nothing.
use Rattle.std.specs.Prelude.{◌≡◌, Bool, List, ℕ, ◌*◌, ◌≤◌, length}
use Rattle.stripes.specs.System.{Layout}
use Rattle.stripes.specs.Erased.{erasures}
use Rattle.stripes.specs.Repair.{repairs, residual, residual_count}
use Rattle.layout.specs.Stripe.{stripe_limit}
use Rattle.entries.specs.Listed.{capacity, listed}
use Rattle.tally.specs.Tally.{Table}

-- It is large enough: just for the disks of a layout, for any stripes that can be numbered, and for a whole list.
pub record Room (L : Layout) (work stripes counts list : List ℕ) : Type 0 where
  pub disks_fit : length work ≡ L.disks
  pub table_fits : 2 * length work ≤ length stripes
  pub stripes_fit : stripe_limit ≤ length counts
  pub list_fits : capacity ≤ length list

-- The repairs of the disks e are listed, and how many they are; what they leave erased is in the map, with its stripes in the
-- table, and how many they are.
pub record Peeled (L : Layout) (e : ℕ → Bool) (made left : ℕ) (work stripes list : List ℕ) : Type 0 where
  pub number : made ≡ length (repairs L e)
  pub listed : listed list made ≡ repairs L e
  pub rest : left ≡ residual_count L e
  pub erased : erasures work ≡ residual L e
  pub table : Table L work stripes
