-- Worked cases of the smallest cycle, three data rows and three data columns: what the definition gives, and what the rule of paper 02, P7, comes
-- to by hand.
-- Assumes nothing.
use mathlib.Core.Path.{◌≡◌, refl}
use mathlib.Core.List.{List, [], ◌∷◌, map}
use Prim.Native.Nat.{ℕ}
use Rattle.stripes.specs.Fold.{bit, count, least, lowest, tabulate}
use Rattle.stripes.specs.System.{among, on, first_of, other_than}
use Rattle.stripes.specs.Erased.{erasures, without}
use Rattle.stripes.specs.Repair.{Entry}
use Rattle.stripes.specs.Cycle.{partner, trace, lowest_of, cycle_of}
use Rattle.stripes.specs.Smallest.{price, too_much, way_costs, through_cost, on_cheapest, on_smallest, shown_cycle}
use Rattle.model.specs.Grid.{grid, layout_of, rectangle, rows, columns}
use Rattle.model.proofs.Cases.{Case}

-- The disks of the cycle that is shown, in its order, of a loss of disks.
unfoldable shown_disks : List ℕ → List ℕ
shown_disks m = map (λ (r : Entry). r.disk) (shown_cycle (layout_of (rectangle 3 3) 16) (erasures m))

-- In the first two there are two shortest loops of six disks, and in the third two of four: 0 1 4 7 9 11 comes later than 0 1 4 6 13 14, also
-- 1 3 5 6 10 11 than 1 3 4 5 12 15, though compared along the loops it would come first, and 0 2 4 6 than 0 1 8 9, though its highest disk
-- is lower.
unfoldable pub loop_cases : List Case
unfolding shown_disks
loop_cases =
    record {
      number = 0;
      computed = shown_disks (1 ∷ 1 ∷ 0 ∷ 0 ∷ 1 ∷ 0 ∷ 1 ∷ 1 ∷ 0 ∷ 1 ∷ 0 ∷ 1 ∷ 0 ∷ 1 ∷ 1 ∷ 0 ∷ []);
      expected = 0 ∷ 1 ∷ 13 ∷ 14 ∷ 6 ∷ 4 ∷ [];
    }
    ∷ record {
      number = 0;
      computed = shown_disks (0 ∷ 1 ∷ 0 ∷ 1 ∷ 1 ∷ 1 ∷ 1 ∷ 0 ∷ 0 ∷ 0 ∷ 1 ∷ 1 ∷ 1 ∷ 0 ∷ 0 ∷ 1 ∷ []);
      expected = 1 ∷ 3 ∷ 15 ∷ 12 ∷ 4 ∷ 5 ∷ [];
    }
    ∷ record {
      number = 0;
      computed = shown_disks (1 ∷ 1 ∷ 1 ∷ 1 ∷ 1 ∷ 0 ∷ 1 ∷ 0 ∷ 1 ∷ 1 ∷ 0 ∷ 0 ∷ 0 ∷ 0 ∷ 0 ∷ 0 ∷ []);
      expected = 0 ∷ 1 ∷ 9 ∷ 8 ∷ [];
    }
    ∷ []

pub loops_hold : map (λ (c : Case). c.computed) loop_cases ≡ map (λ (c : Case). c.expected) loop_cases
unfolding loop_cases shown_disks shown_cycle on_smallest on_cheapest through_cost way_costs price too_much cycle_of trace partner lowest_of first_of other_than least lowest count tabulate bit without on among erasures layout_of grid rectangle rows columns
loops_hold = refl
