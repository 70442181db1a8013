-- A number within limits, by two tests one after the other.
-- Assumes nothing.
use mathlib.Core.Path.{◌≡◌, sym, ap}
use mathlib.Core.Bool.{Bool, false, ◌&&◌}
use Prim.Native.Nat.{ℕ, ◌≤◌, ◌<◌}
use borrow.Author.Tests.{lt-leb, le-leb}
use lib.Dec.{leb}

module _ (low high n : ℕ) where
  pub below_range : n < low → false ≡ (leb low n && leb n high)
  below_range l = sym (ap (λ (t : Bool). t && leb n high) (lt-leb low n l))

  pub above_range : low ≤ n → leb n high ≡ (leb low n && leb n high)
  above_range l = sym (ap (λ (t : Bool). t && leb n high) (le-leb low n l))
