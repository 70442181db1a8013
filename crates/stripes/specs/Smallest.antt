-- The smallest cycle of erased disks (paper 02, P7), which a fatal loss is shown by: the shortest, and of equal ones that whose disk
-- numbers in ascending order come first.
-- Assumes nothing.
use Rattle.std.specs.Prelude.{◌≡◌, Bool, false, cond, ◌&&◌, ◌||◌, List, ◌∷◌, [], ℕ, zero, suc, ◌+◌, ◌*◌, ◌-◌, ◌^◌, ◌≤◌, eqb, ltb, length, get_or}
use Rattle.stripes.specs.Fold.{least, tabulate}
use Rattle.stripes.specs.System.{Layout, on, other_than, lower, higher}
use Rattle.stripes.specs.Erased.{without}
use Rattle.stripes.specs.Repair.{Entry}
use Rattle.stripes.specs.Cycle.{Cycle, cycle_of}

-- ---- What it is, in paper 02's words

-- The disks of a list: a test.
unfoldable pub disks_of : List Entry → ℕ → Bool
disks_of [] d = false
disks_of (r ∷ rs) d = eqb r.disk d || disks_of rs d

-- The numbers of which a test holds, n of them being looked at from k on, in ascending order.
unfoldable pub numbers_from : (k n : ℕ) → (ℕ → Bool) → List ℕ
numbers_from k zero t = []
numbers_from k (suc n) t = cond (t k) (k ∷ numbers_from (suc k) n t) (numbers_from (suc k) n t)

-- The disk numbers of a list in ascending order.
unfoldable pub ascending : Layout → List Entry → List ℕ
ascending L w = numbers_from 0 L.disks (disks_of w)

-- Compared number by number from the left, the first list comes before the second. It is asked of lists that are equally long.
unfoldable pub earlier : (us vs : List ℕ) → Bool
earlier [] vs = false
earlier (a ∷ us) [] = false
earlier (a ∷ us) (b ∷ vs) = ltb a b || (eqb a b && earlier us vs)

-- Of the lists that are cycles, or loops as an edition of the array has them, w is the smallest.
pub record SmallestOf (L : Layout) (Cycles : List Entry → Type 0) (w : List Entry) : Type 0 where
  -- It is one of them, none of them is shorter,
  pub cycle : Cycles w
  pub shortest : (v : List Entry) → Cycles v → length w ≤ length v
  -- and of those that are as long none has numbers that come before its own.
  pub first : (v : List Entry) → Cycles v → length v ≡ length w → earlier (ascending L v) (ascending L w) ≡ false

abbrev pub Smallest : Layout → (e : ℕ → Bool) → List Entry → Type 0
Smallest L e w = SmallestOf L (Cycle L e) w

-- ---- How it is found, where every disk lies on two stripes

-- Each of n disks has a price, so that of two sets the one with fewer disks is cheaper, and of two that are equally large the one whose numbers
-- in ascending order come first: what is taken off for a disk is more than what is taken off for all higher ones. No set is as dear as `too_much`.
unfoldable pub price : (n d : ℕ) → ℕ
price n d = 2 ^ n - 2 ^ (n - suc d)

unfoldable pub too_much : ℕ → ℕ
too_much n = n * 2 ^ n + 1

-- For each stripe the price of the cheapest way there from stripe s, over at most k disks of c whose prices are w; `none` where there is no
-- such way.
unfoldable pub way_costs : Layout → (w : ℕ → ℕ) → (none : ℕ) → (c : ℕ → Bool) → (s k : ℕ) → List ℕ
way_costs L w none c s zero = tabulate L.stripe_bound (λ t. cond (eqb t s) 0 none)
way_costs L w none c s (suc k) =
    let before : List ℕ = way_costs L w none c s k in
    tabulate L.stripe_bound (λ t.
    least L.disks (λ d. cond (c d && on L d t) (w d + get_or before (other_than t (L.through d)) none) none) (get_or before t none))

-- The price of the cheapest cycle through an erased disk: that of the disk, and of the cheapest way between its stripes over the others.
unfoldable pub through_cost : Layout → (w : ℕ → ℕ) → (none : ℕ) → (e : ℕ → Bool) → (d : ℕ) → ℕ
through_cost L w none e d = w d + get_or (way_costs L w none (without e d) (lower L d) L.disks) (higher L d) none

-- The erased disks through which the cheapest cycle of all leads, where no two cycles cost the same. Every price is computed once only.
unfoldable pub on_cheapest : Layout → (w : ℕ → ℕ) → (none : ℕ) → (e : ℕ → Bool) → ℕ → Bool
on_cheapest L w none e =
    let costs : List ℕ = tabulate L.disks (λ d. cond (e d) (through_cost L w none e d) none) in
    let cheapest : ℕ = least L.disks (λ d. get_or costs d none) none in
    λ d. e d && eqb (get_or costs d none) cheapest

unfoldable pub on_smallest : Layout → (e : ℕ → Bool) → ℕ → Bool
on_smallest L e = on_cheapest L (price L.disks) (too_much L.disks) e

-- The cycle that is shown.
unfoldable pub shown_cycle : Layout → (e : ℕ → Bool) → List Entry
shown_cycle L e = cycle_of L (on_smallest L e)
