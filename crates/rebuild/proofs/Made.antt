-- Repairs of a turn, of some that leave no disk erased.
-- Assumes nothing.
use mathlib.Core.Path.{◌≡◌, refl, ◌∙◌, ap}
use mathlib.Core.Bool.{Bool, true, false, cond, not, ◌&&◌}
use mathlib.Core.List.{List}
use Prim.Native.Nat.{ℕ, ◌+◌, ◌≤◌, ◌<◌}
use native.Mathlib.Omega.{arith}
use borrow.Author.Tests.{eq-eqb, ne_eqb}
use lib.ListN.{length}
use Rattle.stripes.specs.Fold.{count}
use Rattle.stripes.specs.System.{Layout}
use Rattle.stripes.specs.Erased.{erasures}
use Rattle.stripes.specs.Repair.{Entry, Peels, map_after, rebuilt, zeroed}
use Rattle.stripes.specs.declared.Stretch.{Stretch}
use Rattle.stripes.proofs.Peel.{peel-count}
use Rattle.stripes.proofs.Split.{erasures-after}
use Rattle.model.specs.Turn.{clear, contradicts}
use Rattle.restore.specs.Restored.{fits, restored}

module _ (L : Layout) (m : List ℕ) (w : List Entry) (peels : Peels L (erasures m) w) (x : Stretch) (a : List ℕ) where
  -- As many disks stay erased as there are repairs left.
  left : length w + count L.disks (erasures (map_after m w)) ≡ count L.disks (erasures m)
  left =
      ap (λ (e : ℕ → Bool). length w + count L.disks e) (erasures-after m w) ∙ peel-count L (erasures m) w peels

  -- Where some are left, nothing is tested.
  pub nothing_tested : length w < count L.disks (erasures m) → contradicts L x a m w ≡ false
  unfolding contradicts clear
  nothing_tested more =
      let some = left in
      rw (ne_eqb (count L.disks (erasures (map_after m w))) 0 (λ e. omega arith))

  -- Where none is left, all sums are.
  pub all_tested : count L.disks (erasures m) ≤ length w → not (contradicts L x a m w) ≡ fits L x a w
  unfolding contradicts clear fits
  all_tested none =
      let some = left in
      rw (eq-eqb (count L.disks (erasures (map_after m w))) 0 (omega arith)) (twice (fits L x a w))
    where
      twice : (b : Bool) → not (true && not b) ≡ b
      twice true = refl
      twice false = refl

-- The array is then what was made of it.
pub made_array : (L : Layout) (x : Stretch) (a : List ℕ) (e : ℕ → Bool) (w : List Entry) (r : Bool) (b : List ℕ)
    → r ≡ fits L x a w → b ≡ restored L x a e w → b ≡ cond r (rebuilt L x a w) (zeroed x a e)
unfolding restored
made_array L x a e w r b answer is = is ∙ (rw answer)
