-- Cycles of erased disks (paper 01: loops): what they are, and how the cycle that a set of disks forms is listed.
-- Assumes nothing.
use Rattle.std.specs.Prelude.{◌≡◌, Bool, true, cond, not, ◌&&◌, List, ◌∷◌, [], ℕ, zero, suc, ◌≤◌, ◌<◌, eqb, length}
use Rattle.stripes.specs.Fold.{count, lowest}
use Rattle.stripes.specs.System.{Layout, on, first_of, other_than}
use Rattle.stripes.specs.Repair.{Entry, disk_of, stripe_of}

-- ---- The rule

-- The number that follows i in turn: after the last comes the first.
unfoldable pub following : List Entry → ℕ → ℕ
following w i = cond (eqb (suc i) (length w)) 0 (suc i)

-- A cycle of erased disks in any stripe system.
pub record Cycle (L : Layout) (e : ℕ → Bool) (w : List Entry) : Type 0 where
  -- It has disks, all of them erased, and no disk twice.
  pub some : 0 < length w
  pub disk : (i : ℕ) → i < length w → disk_of w i < L.disks
  pub erased : (i : ℕ) → i < length w → e (disk_of w i) ≡ true
  pub different : (i j : ℕ) → i < length w → j < length w → disk_of w i ≡ disk_of w j → i ≡ j
  -- Each shares a stripe with the next, the last with the first, and is left along another stripe than it is reached by.
  pub here : (i : ℕ) → i < length w → on L (disk_of w i) (stripe_of w i) ≡ true
  pub there : (i : ℕ) → i < length w → on L (disk_of w (following w i)) (stripe_of w i) ≡ true
  pub turns : (i : ℕ) → i < length w → stripe_of w (following w i) ≡ stripe_of w i → ⊥
  -- Each stripe touched holds exactly two of them.
  pub two : (i : ℕ) → i < length w → (s : ℕ) → on L (disk_of w i) s ≡ true → count (length w) (λ j. on L (disk_of w j) s) ≡ 2
  -- It begins with its lowest disk and leaves it along the lower of its stripes.
  pub lowest_first : (i : ℕ) → i < length w → disk_of w 0 ≤ disk_of w i
  pub lower_first : (s : ℕ) → on L (disk_of w 0) s ≡ true → stripe_of w 0 ≤ s

-- ---- The cycle that a set of disks forms

-- Each stripe touched by a disk of c holds exactly two of them.
abbrev pub Paired : Layout → (ℕ → Bool) → Type 0
Paired L c = (d s : ℕ) → d < L.disks → c d ≡ true → on L d s ≡ true → count L.disks (λ i. c i && on L i s) ≡ 2

-- The lowest other disk of c on the stripe along which a disk is left.
unfoldable pub partner : Layout → (ℕ → Bool) → Entry → ℕ
partner L c r = lowest L.disks (λ d. c d && (on L d r.stripe && not (eqb d r.disk)))

-- From disk to disk along their stripes within c, until the first disk is reached again; at most k disks.
unfoldable pub trace : Layout → (ℕ → Bool) → (first k : ℕ) → Entry → List Entry
trace L c first zero r = []
trace L c first (suc k) r =
    let d : ℕ = partner L c r in
    r ∷ cond (eqb d first) [] (trace L c first k (record { disk = d; stripe = other_than r.stripe (L.through d) }))

-- The lowest disk of c.
unfoldable pub lowest_of : Layout → (ℕ → Bool) → ℕ
lowest_of L c = lowest L.disks c

-- The cycle from its lowest disk on, along the lower stripe first.
unfoldable pub cycle_of : Layout → (ℕ → Bool) → List Entry
cycle_of L c = trace L c (lowest_of L c) L.stripe_bound (record { disk = lowest_of L c; stripe = first_of (L.through (lowest_of L c)) })
