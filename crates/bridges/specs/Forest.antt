-- Stripes that are reached one after the other over disks of a set, the links between them, and what these tell of the disks.
-- Assumes nothing.
use Rattle.std.specs.Prelude.{◌≡◌, Bool, true, false, ◌&&◌, ◌||◌, List, ℕ, ◌<◌, eqb, length, get_or}
use Rattle.stripes.specs.Fold.{◌⊕◌}
use Rattle.stripes.specs.System.{Layout, on, other_than}
use Rattle.stripes.specs.Erased.{without}
use Rattle.stripes.specs.Joined.{joined}
use Rattle.stripes.specs.Undetermined.{undetermined}
use Rattle.reach.specs.Reached.{has, some, word_stripes}
use Rattle.neighbours.specs.Near.{Met}

-- The stripe from which stripe t is reached over a disk.
abbrev pub from_over : Layout → (disk : ℕ → ℕ) → (t : ℕ) → ℕ
from_over L disk t = other_than t (L.through (disk t))

-- Some stripes are reached, over disks of e. One that begins a part is reached over none. Every other one is a link: it is reached over a disk
-- from a stripe that was reached before. The way of a stripe is the set of the links from the beginning of its part to it. A link is closed if a
-- disk that no stripe was reached over lies on two reached stripes of which just one has the link on its way.
pub record Forest (L : Layout) (e seen links closed : ℕ → Bool) (way : ℕ → ℕ → Bool) : Type 0 where
  -- The disk over which each link is reached, all of these disks, and for each stripe the one that begins its part.
  pub disk : ℕ → ℕ
  pub tree : ℕ → Bool
  pub root : ℕ → ℕ
  pub link_tree : (t : ℕ) → links t ≡ true → tree (disk t) ≡ true
  pub tree_link : (d : ℕ) → tree d ≡ true → (t : ℕ) × (links t ≡ true) × (disk t ≡ d)
  -- A link is reached, over a disk of e that lies on it, from a reached stripe whose way does not have it; its own way has it besides.
  pub reached : (t : ℕ) → links t ≡ true → seen t ≡ true
  pub inside : (t : ℕ) → links t ≡ true → disk t < L.disks
  pub held : (t : ℕ) → links t ≡ true → e (disk t) ≡ true
  pub here : (t : ℕ) → links t ≡ true → on L (disk t) t ≡ true
  pub before : (t : ℕ) → links t ≡ true → seen (from_over L disk t) ≡ true
  pub fresh : (t : ℕ) → links t ≡ true → way (from_over L disk t) t ≡ false
  pub longer : (t : ℕ) → links t ≡ true → (s : ℕ) → way t s ≡ (way (from_over L disk t) s || eqb s t)
  pub same_root : (t : ℕ) → links t ≡ true → root (from_over L disk t) ≡ root t
  -- Ways are made of links.
  pub way_links : (x t : ℕ) → seen x ≡ true → way x t ≡ true → links t ≡ true
  -- The disks of the links join a stripe with the beginning of its part, also without that of a link that is not on its way. Without that of one
  -- that is, they join it with the link.
  pub to_root : (x : ℕ) → seen x ≡ true → joined L tree x (root x) ≡ true
  pub away : (t x : ℕ) → links t ≡ true → seen x ≡ true → way x t ≡ false → joined L (without tree (disk t)) x (root x) ≡ true
  pub behind : (t x : ℕ) → links t ≡ true → seen x ≡ true → way x t ≡ true
      → (joined L (without tree (disk t)) x t ≡ true) × (root x ≡ root t)
  -- A disk on two reached stripes lies in one part. A link that is on the way of just one of the two is closed, unless it is reached over this disk.
  pub together : (x y : ℕ) → Met L e x y → seen x ≡ true → seen y ≡ true → root x ≡ root y
  pub alike : (x y t : ℕ) (m : Met L e x y) → seen x ≡ true → seen y ≡ true → links t ≡ true → closed t ≡ false
      → (m.disk ≡ disk t → ⊥) → way x t ≡ way y t
  -- Closed links are links, and their disks are not determined.
  pub closed_links : (t : ℕ) → closed t ≡ true → links t ≡ true
  pub sound : (t : ℕ) → closed t ≡ true → undetermined L e (disk t) ≡ true

-- ---- The same in words: sets of stripes, and a table with the way of each stripe

abbrev pub way_in : List ℕ → (x t : ℕ) → Bool
way_in ways x t = has (get_or ways x 0) t

-- Whole parts are reached: no disk leads from a reached stripe to another one.
pub record Grown (L : Layout) (e : ℕ → Bool) (seen links closed : ℕ) (ways : List ℕ) : Type 0 where
  pub room : length ways ≡ word_stripes
  pub forest : Forest L e (has seen) (has links) (has closed) (way_in ways)
  pub whole : (x v : ℕ) → Met L e x v → has seen x ≡ true → has seen v ≡ true

-- A part is being reached: disks that lead from a reached stripe to another one lead from this part.
pub record Growing (L : Layout) (e : ℕ → Bool) (seen links closed : ℕ) (ways : List ℕ) : Type 0 where
  pub room : length ways ≡ word_stripes
  pub forest : Forest L e (has seen) (has links) (has closed) (way_in ways)
  pub part : ℕ
  pub edge : (x v : ℕ) → Met L e x v → has seen x ≡ true → has seen v ≡ false → forest.root x ≡ part

-- Stripe v is not reached, and a disk leads to it from one that is.
pub record Beside (L : Layout) (e : ℕ → Bool) (seen v : ℕ) : Type 0 where
  pub unseen : has seen v ≡ false
  pub next : ℕ
  pub reached : has seen next ≡ true
  pub met : Met L e v next

-- The links of which just one of two ways has each: the way given and that of a stripe of a set.
unfoldable pub on_one : List ℕ → (way set t : ℕ) → Bool
on_one ways way set t = some word_stripes (λ s. has set s && has (way ⊕ get_or ways s 0) t)
