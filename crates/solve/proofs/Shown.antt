-- The disks of the smallest cycle in a map of their own: they form a cycle, and their stripes are in the table.
-- Assumes nothing.
use mathlib.Core.Path.{◌≡◌, sym, ◌∙◌, ap, subst}
use mathlib.Core.Bool.{Bool, true}
use mathlib.Core.List.{List}
use Prim.Native.Nat.{ℕ, ◌<◌}
use lib.ListN.{length}
use Rattle.stripes.specs.System.{Layout, TwoStripes}
use Rattle.stripes.specs.Erased.{erasures}
use Rattle.stripes.specs.Repair.{fatal}
use Rattle.stripes.specs.Cycle.{Paired, lowest_of, cycle_of}
use Rattle.stripes.specs.Smallest.{on_smallest, shown_cycle}
use Rattle.stripes.proofs.Walk.{lowest_holds}
use Rattle.stripes.proofs.Cheapest.{smallest_paired, smallest-some, smallest-within}
use Rattle.tally.specs.Tally.{Table}
use Rattle.tally.proofs.Counted.{table_fewer}

module _ (L : Layout) (two : TwoStripes L) (work set : List ℕ) (lossy : fatal L (erasures work) ≡ true)
    (is : erasures set ≡ on_smallest L (erasures work)) where
  pub shown_paired : Paired L (erasures set)
  shown_paired = subst (Paired L) (sym is) (smallest_paired L two (erasures work) lossy)

  pub shown_lowest : lowest_of L (erasures set) < L.disks
  unfolding lowest_of
  shown_lowest =
      let (d, l, h) = smallest-some L two (erasures work) lossy in
      (lowest_holds L.disks (erasures set) d l (ap (λ (f : ℕ → Bool). f d) is ∙ h)).0

  pub shown_table : {stripes : List ℕ} → Table L work stripes → length set ≡ length work → Table L set stripes
  shown_table table long =
      table_fewer table long (λ d h. smallest-within L two (erasures work) lossy d (sym (ap (λ (f : ℕ → Bool). f d) is) ∙ h))

  pub shown_cycle_lem : cycle_of L (erasures set) ≡ shown_cycle L (erasures work)
  unfolding shown_cycle
  shown_cycle_lem = ap (cycle_of L) is
