-- What the table of neighbours tells of steps.
-- Assumes nothing.
use mathlib.Core.Path.{◌≡◌, refl, ap₂}
use mathlib.Core.Bool.{Bool, ◌&&◌, ◌||◌}
use mathlib.Core.List.{List}
use Prim.Native.Nat.{ℕ, zero, suc, ◌<◌}
use Rattle.stripes.specs.System.{Layout}
use Rattle.stripes.proofs.Fold.{lowest_ext}
use Rattle.reach.specs.Reached.{reached, steps_to, next_in, word_stripes}
use Rattle.neighbours.specs.Near.{meets, Near}
use Rattle.neighbours.proofs.Neighbours.{some_same}
use Rattle.smallest.specs.Leads.{leads, disks_to}

-- Equal neighbours are reached by equal steps.
reached-same : (next new : ℕ → ℕ → Bool) (n : ℕ) → ((x t : ℕ) → x < n → next x t ≡ new x t) → (s k t : ℕ)
    → reached next n s k t ≡ reached new n s k t
unfolding reached
reached-same next new n same s zero t = refl
reached-same next new n same s (suc k) t =
    ap₂ (λ (a b : Bool). a || b) (reached-same next new n same s k t)
    (some_same n (λ x l. ap₂ (λ (a b : Bool). a && b) (reached-same next new n same s k x) (same x t l)))

-- So the table tells which stripes disks lead to, and how many it takes.
pub near_reached : (L : Layout) {c : ℕ → Bool} {near : List ℕ} → Near L c near → (s k t : ℕ)
    → reached (next_in near) word_stripes s k t ≡ leads L c s k t
near_reached L {c} {near} n s k t = reached-same (next_in near) (meets L c) word_stripes (λ x y w. n.next x y w) s k t

pub near_steps : (L : Layout) {c : ℕ → Bool} {near : List ℕ} → Near L c near → (s m t : ℕ)
    → steps_to (next_in near) word_stripes s m t ≡ disks_to L c s m t
unfolding steps_to
near_steps L n s m t = lowest_ext (suc m) (λ k l. near_reached L n s k t)
