-- What check answers, by the lowest stripe whose sum is not zero.
-- Assumes nothing.
use mathlib.Core.Path.{◌≡◌}
use mathlib.Core.Bool.{Bool, cond}
use mathlib.Core.List.{List}
use Prim.Native.Nat.{ℕ, ◌≤◌, ◌<◌}
use borrow.Author.Tests.{lt-ltb, le-ltb}
use lib.Dec.{ltb}
use lib.ListN.{length}
use Rattle.stripes.specs.Fold.{lowest}
use Rattle.stripes.specs.System.{whole}
use Rattle.model.specs.Grid.{layout_of, column_base}
use Rattle.model.specs.Refusal.{refusal, array_tests}
use Rattle.model.specs.Array.{lowest_unsealed, checked}
use Rattle.model.specs.declared.Size.{Size}
use Rattle.model.specs.Checked.{Sealed, Unsealed}
use Rattle.model.proofs.Refusal.{given-accepted}
use Rattle.sums.specs.Held.{nonzero}

module _ (z : Size) (B : ℕ) (a : List ℕ) (ok : refusal (array_tests z B (length a)) ≡ 0)
    (s : ℕ) (is : s ≡ lowest (layout_of z (column_base z)).stripe_bound (nonzero z (column_base z) (whole B) a)) where
  answer : (t : Bool) → ltb s (layout_of z (column_base z)).stripe_bound ≡ t → cond t (Unsealed s) Sealed ≡ checked z B a
  unfolding checked lowest_unsealed
  answer t e = rw (given-accepted _ _ _ ok, ← is, e)

  pub unsealed : s < (layout_of z (column_base z)).stripe_bound → Unsealed s ≡ checked z B a
  unsealed h = answer _ (lt-ltb _ _ h)

  pub sealed : (layout_of z (column_base z)).stripe_bound ≤ s → Sealed ≡ checked z B a
  sealed h = answer _ (le-ltb _ _ h)
