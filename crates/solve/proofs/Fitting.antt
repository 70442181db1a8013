-- Repairs and cycles fit a sheet.
-- Assumes nothing.
use mathlib.Core.Path.{◌≡◌}
use mathlib.Core.Bool.{Bool, true}
use Prim.Native.Nat.{ℕ}
use Rattle.stripes.specs.Repair.{repairs, fatal}
use Rattle.stripes.specs.Smallest.{shown_cycle}
use Rattle.stripes.proofs.Peel.{repairs_peels}
use Rattle.stripes.proofs.Theorems.{shown_is}
use Rattle.model.specs.Grid.{size_fits}
use Rattle.model.specs.Sheet.{narrow}
use Rattle.model.specs.Plan.{sheet_layout}
use Rattle.model.specs.declared.Size.{Size}
use Rattle.model.proofs.Grid.{layout-two}
use Rattle.model.proofs.Sheets.{Fitting}
use Rattle.model.proofs.Limits.{peels_fitting, cycle_fitting}
use Rattle.layout.proofs.Numbers.{numbered}

module _ (z : Size) (fits : size_fits z ≡ true) where
  pub repairs_fit : (e : ℕ → Bool) → Fitting narrow (repairs (sheet_layout z) e)
  repairs_fit e = peels_fitting z fits e _ (repairs_peels (sheet_layout z) e)

  pub cycle-fits : (e : ℕ → Bool) → fatal (sheet_layout z) e ≡ true → Fitting narrow (shown_cycle (sheet_layout z) e)
  cycle-fits e lossy = cycle_fitting z fits e _ (shown_is (sheet_layout z) (layout-two z narrow.base (numbered z fits).above) e lossy).cycle
