-- Stripes that erased disks lead to step by step, and the disk with which the shortest cycle begins.
-- Assumes nothing.
use Rattle.std.specs.Prelude.{◌≡◌, Bool, true, false, cond, not, ◌&&◌, ◌||◌, List, ℕ, ◌^◌, ◌<◌, eqb, leb, get_or}
use Rattle.std.specs.Int.Bits.{bit_and, bit_or, bit_xor}
use Rattle.stripes.specs.System.{Layout, lower, higher}
use Rattle.stripes.specs.Erased.{above}
use Rattle.zeros.specs.Stored.{stored}
use Rattle.reach.specs.Reached.{has, some, reached, steps_to, next_in, word_stripes}
use Rattle.neighbours.specs.Near.{meets, toggled}

-- At most k disks of c lead from stripe s to stripe t; and how many do, or m + 1 where m are not enough.
abbrev pub leads : Layout → (c : ℕ → Bool) → (s k t : ℕ) → Bool
leads L c s k t = reached (meets L c) word_stripes s k t

abbrev pub disks_to : Layout → (c : ℕ → Bool) → (s m t : ℕ) → ℕ
disks_to L c s m t = steps_to (meets L c) word_stripes s m t

-- Those stripes of a word that are in a set, or those that are not.
unfoldable pub side_of : (word inside : ℕ) → (here : Bool) → ℕ
side_of word inside here = cond here (bit_and word inside) (bit_xor (bit_or word inside) inside)

-- The table where no disk has just one stripe in a set, but for the one on two stripes, which is put in.
unfoldable pub cut_table : List ℕ → (inside low high : ℕ) → List ℕ
cut_table near inside low high = toggled (stored near 0 word_stripes (λ s. side_of (get_or near s 0) inside (has inside s))) low high

-- A disk leads out of a set, from stripe x to stripe y.
unfoldable pub leaves : List ℕ → (inside x y : ℕ) → Bool
leaves near inside x y = has inside x && (next_in near x y && not (has inside y))

-- Stripe y lies on such a disk, whichever way it leads.
unfoldable pub on_crossing : List ℕ → (inside y : ℕ) → Bool
on_crossing near inside y = some word_stripes (λ x. leaves near inside x y || leaves near inside y x)

-- What one stripe of the set, with its word of the table, adds to these: the stripes outside, if there are any, and the stripe itself.
unfoldable pub leaving_of : (word inside s : ℕ) → ℕ
leaving_of word inside s =
    let out : ℕ = side_of word inside false in
    cond (eqb out 0) 0 (bit_or (2 ^ s) out)

-- Disks of e from number k on.
unfoldable pub from : ℕ → (ℕ → Bool) → ℕ → Bool
from k e i = leb k i && e i

-- Disk d closes a cycle with at most k disks of e that are above it.
abbrev pub closes : Layout → (e : ℕ → Bool) → (d k : ℕ) → Bool
closes L e d k = leads L (above d e) (lower L d) k (higher L d)

-- Disk d closes one with k of them, fewer than a word has room for stripes; no disk of e closes one with fewer, nor a lower one with as many.
pub record Nearest (L : Layout) (e : ℕ → Bool) (d k : ℕ) : Type 0 where
  pub disk : d < L.disks
  pub erased : e d ≡ true
  pub closed : closes L e d k ≡ true
  pub fewest : (i : ℕ) → i < L.disks → e i ≡ true → (j : ℕ) → j < k → closes L e i j ≡ false
  pub lowest : (i : ℕ) → i < d → e i ≡ true → closes L e i k ≡ false
  pub few : k < word_stripes
