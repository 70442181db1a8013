-- Sizes and the bases that their stripes are numbered with.
-- Assumes nothing.
use mathlib.Core.Path.{◌≡◌}
use mathlib.Core.Bool.{true}
use mathlib.Core.List.{List}
use Prim.Native.Nat.{ℕ, ◌≤◌}
use native.Mathlib.Omega.{arith}
use lib.ListN.{length}
use Rattle.model.specs.Grid.{column_base, disks, size_fits, map_fits}
use Rattle.model.specs.declared.Size.{Size}
use Rattle.model.proofs.Grid.{size_fits_lem, across-bound, rows-below, disks-bound, map-length}
use Rattle.layout.specs.Stripe.{Numbered}

-- A size that fits can be numbered with the base of check's answers, which is that of the narrow sheets too.
pub numbered : (z : Size) → size_fits z ≡ true → Numbered z (column_base z)
numbered z fits =
    let wide = across-bound z (size_fits_lem z fits) in record { fits = fits; above = rows-below z fits; small = omega arith }

-- A map has at most 256 bytes.
pub map-few : (z : Size) (base : ℕ) → Numbered z base → (m : List ℕ) → map_fits (disks z) m ≡ true → length m ≤ 256
map-few z base n m fits =
    let few = disks-bound z (size_fits_lem z n.fits) in
    let long = map-length (disks z) m fits in
    omega arith
