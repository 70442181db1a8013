-- The table of neighbours: which stripes disks of a set lead to from each stripe.
-- Assumes nothing.
use Rattle.std.specs.Prelude.{◌≡◌, Bool, true, ◌&&◌, List, ℕ, ◌^◌, ◌<◌, eqb, length, get_or, set}
use Rattle.stripes.specs.Fold.{◌⊕◌}
use Rattle.stripes.specs.System.{Layout, on, other_than}
use Rattle.reach.specs.Reached.{some, next_in, word_stripes}

-- A disk of c lies on stripe s, and on stripe t besides.
unfoldable pub meets : Layout → (c : ℕ → Bool) → (s t : ℕ) → Bool
meets L c s t = some L.disks (λ d. c d && (on L d s && eqb (other_than s (L.through d)) t))

-- A disk of c that lies on stripe s and on stripe t besides.
pub record Met (L : Layout) (c : ℕ → Bool) (s t : ℕ) : Type 0 where
  pub disk : ℕ
  pub inside : disk < L.disks
  pub held : c disk ≡ true
  pub here : on L disk s ≡ true
  pub next : other_than s (L.through disk) ≡ t

-- The table has for each stripe those that a disk of c leads to.
pub record Near (L : Layout) (c : ℕ → Bool) (near : List ℕ) : Type 0 where
  pub room : length near ≡ word_stripes
  pub next : (s t : ℕ) → s < word_stripes → next_in near s t ≡ meets L c s t

-- The table with a disk on two stripes put in, or taken out.
unfoldable pub toggled : List ℕ → (low high : ℕ) → List ℕ
toggled near low high =
    let next : List ℕ = set near low (get_or near low 0 ⊕ 2 ^ high) in
    set next high (get_or next high 0 ⊕ 2 ^ low)
