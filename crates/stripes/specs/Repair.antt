-- Repairs over any stripe system: which are allowed, plan's order, what it leaves, and what repairs do to an array.
-- Assumes nothing.
use Rattle.std.specs.Prelude.{◌≡◌, Bool, true, false, cond, not, ◌&&◌, ◌||◌, List, ◌∷◌, [], ℕ, zero, suc, ◌<◌, ◌≤◌, eqb, ltb, length, get_or, set, take}
use Rattle.stripes.specs.Fold.{every, gate, count, lowest, bit}
use Rattle.stripes.specs.System.{Layout, on, byte, sum_over, changed}
use Rattle.stripes.specs.Erased.{without}
use Rattle.stripes.specs.declared.Stretch.{Stretch}

-- ---- Repairs

-- A disk and a stripe: a repair of the disk by that stripe, or a step of a cycle that leaves the disk along it.
pub record Entry : Type 0 where
  pub disk : ℕ
  pub stripe : ℕ

-- Disk and stripe number i of a list.
unfoldable pub disk_of : List Entry → ℕ → ℕ
disk_of w i = (get_or w i (record { disk = 0; stripe = 0 })).disk

unfoldable pub stripe_of : List Entry → ℕ → ℕ
stripe_of w i = (get_or w i (record { disk = 0; stripe = 0 })).stripe

-- No disk on stripe s is erased, but for d.
unfoldable pub alone : Layout → (ℕ → Bool) → (d s : ℕ) → Bool
alone L e d s = every L.disks (λ i. eqb i d || not (e i && on L i s))

-- Disk d can be repaired by stripe s: it is erased, it lies on the stripe, and no other disk there is still erased.
unfoldable pub allowed : Layout → (ℕ → Bool) → (d s : ℕ) → Bool
allowed L e d s = (ltb d L.disks && e d) && (on L d s && alone L e d s)

-- The first of a list of stripes by which disk d can be repaired, and whether there is one.
unfoldable pub first_allowed : Layout → (ℕ → Bool) → ℕ → List ℕ → ℕ
first_allowed L e d [] = 0
first_allowed L e d (s ∷ ss) = cond (allowed L e d s) s (first_allowed L e d ss)

unfoldable pub some_allowed : Layout → (ℕ → Bool) → ℕ → List ℕ → Bool
some_allowed L e d [] = false
some_allowed L e d (s ∷ ss) = allowed L e d s || some_allowed L e d ss

-- A list of repairs, each of them allowed at its step.
abbrev pub Peels : Layout → (ℕ → Bool) → List Entry → Type 0
Peels L e [] = Unit {0}
Peels L e (r ∷ rs) = (allowed L e r.disk r.stripe ≡ true) × Peels L (without e r.disk) rs

-- ---- Repairs by lowest number, and plan's order

-- Of the disks of c, the lowest-numbered one that can be repaired, or the number of disks where there is none.
unfoldable pub next_disk : Layout → (c e : ℕ → Bool) → ℕ
next_disk L c e = lowest L.disks (λ d. c d && some_allowed L e d (L.through d))

-- The repair of a disk, by the first of its stripes that is allowed.
unfoldable pub repair_of : Layout → (ℕ → Bool) → ℕ → Entry
repair_of L e d = record { disk = d; stripe = first_allowed L e d (L.through d) }

-- At most k repairs of disks of c by lowest number (peeling): at each step the lowest-numbered one that can be repaired then.
unfoldable pub peel : Layout → (c : ℕ → Bool) → ℕ → (e : ℕ → Bool) → List Entry
peel L c zero e = []
peel L c (suc k) e =
    cond (ltb (next_disk L c e) L.disks) (repair_of L e (next_disk L c e) ∷ peel L c k (without e (next_disk L c e))) []

-- Every disk.
abbrev pub any_disk : ℕ → Bool
any_disk d = true

-- Plan's order is that of all disks. Each repair takes an erased disk away, so as many steps as there are disks are enough.
unfoldable pub repairs : Layout → (ℕ → Bool) → List Entry
repairs L e = peel L any_disk L.disks e

-- The disks that are still erased after a list of repairs.
unfoldable pub after : (ℕ → Bool) → List Entry → ℕ → Bool
after e [] = e
after e (r ∷ rs) = after (without e r.disk) rs

-- A map after a list of repairs: the bytes of the repaired disks are 0.
unfoldable pub map_after : List ℕ → List Entry → List ℕ
map_after m [] = m
map_after m (r ∷ rs) = map_after (set m r.disk 0) rs

-- What plan's order leaves erased, how many they are, and whether the loss is fatal.
unfoldable pub residual : Layout → (ℕ → Bool) → ℕ → Bool
residual L e = after e (repairs L e)

unfoldable pub residual_count : Layout → (ℕ → Bool) → ℕ
residual_count L e = count L.disks (residual L e)

unfoldable pub fatal : Layout → (ℕ → Bool) → Bool
fatal L e = ltb 0 (residual_count L e)

-- A list of repairs in plan's order that leaves nothing erased.
pub record InOrder (L : Layout) (e : ℕ → Bool) (w : List Entry) : Type 0 where
  -- Each is allowed at its step,
  pub allowed_then : (i : ℕ) → i < length w → allowed L (after e (take i w)) (disk_of w i) (stripe_of w i) ≡ true
  -- no disk with a lower number can be repaired at that step, nor this disk by a lower stripe,
  pub lowest_then : (i : ℕ) → i < length w → (d s : ℕ) → allowed L (after e (take i w)) d s ≡ true
      → (disk_of w i ≤ d) × (d ≡ disk_of w i → stripe_of w i ≤ s)
  -- and every erased disk is named once, no other at all.
  pub named : (d : ℕ) → d < L.disks → count (length w) (λ i. eqb (disk_of w i) d) ≡ bit (e d)

-- ---- Lists of repairs from elsewhere

-- Every repair of a list is allowed at its step: a test.
unfoldable pub all_allowed : Layout → (ℕ → Bool) → List Entry → Bool
all_allowed L e [] = true
all_allowed L e (r ∷ rs) = allowed L e r.disk r.stripe && all_allowed L (without e r.disk) rs

-- Besides, no disk is left erased at the end (what refusal 11 tests).
unfoldable pub clears : Layout → (ℕ → Bool) → List Entry → Bool
clears L e w = all_allowed L e w && eqb (count L.disks (after e w)) 0

-- ---- What repairs do to an array

-- The sum of the other disks of a repair's stripe at place p.
unfoldable pub sum_of_others : Layout → Stretch → List ℕ → Entry → ℕ → ℕ
sum_of_others L x a r p = sum_over L (λ d. gate (not (eqb d r.disk)) (byte x a d p)) r.stripe

-- A repair sets the block of its disk to that sum.
unfoldable pub repaired : Layout → Stretch → List ℕ → Entry → List ℕ
repaired L x a r = changed x a (λ d p. cond (eqb d r.disk) (sum_of_others L x a r p) (byte x a d p))

-- The array after a list of repairs.
unfoldable pub rebuilt : Layout → Stretch → List ℕ → List Entry → List ℕ
rebuilt L x a [] = a
rebuilt L x a (r ∷ rs) = rebuilt L x (repaired L x a r) rs

-- The array with zeros on every erased disk.
unfoldable pub zeroed : Stretch → List ℕ → (ℕ → Bool) → List ℕ
zeroed x a e = changed x a (λ d p. gate (not (e d)) (byte x a d p))
