-- The survivors of which just one stripe is among some stripes: lists of them, and their sum.
-- Assumes nothing.
use Rattle.std.specs.Prelude.{◌≡◌, Bool, false, cond, not, ◌&&◌, List, ℕ, ◌+◌, ◌≤◌, ◌<◌, eqb, get_or}
use Rattle.stripes.specs.Fold.{◌⊕◌, xsum, gate, count}
use Rattle.stripes.specs.System.{Layout, on, byte, sum_over}
use Rattle.stripes.specs.Joined.{crosses}
use Rattle.stripes.specs.declared.Stretch.{Stretch}

-- A part of the stripes: those to which a table gives that name.
abbrev pub in_part : (parts : List ℕ) → (name : ℕ) → ℕ → Bool
in_part parts name s = eqb (get_or parts s 0) name

-- Disk d is such a survivor, where e are the erased disks.
abbrev pub in_cut : Layout → (e some : ℕ → Bool) → ℕ → Bool
in_cut L e some d = not (e d) && crosses L some d

-- The sum over all of them, and their sum at place p.
abbrev pub cut_over : Layout → (e some : ℕ → Bool) → (ℕ → ℕ) → ℕ
cut_over L e some f = xsum L.disks (λ d. gate (in_cut L e some d) (f d))

unfoldable pub cut_sum : Layout → Stretch → (e some : ℕ → Bool) → List ℕ → ℕ → ℕ
cut_sum L x e some a p = cut_over L e some (λ d. byte x a d p)

-- The same by stripes: the number of them on stripe s, and the sum over these; nothing where it is not among `some`.
unfoldable pub cut_on : Layout → (e some : ℕ → Bool) → ℕ → ℕ
cut_on L e some s = cond (some s) (count L.disks (λ d. in_cut L e some d && on L d s)) 0

abbrev pub cut_over_on : Layout → (e some : ℕ → Bool) → (ℕ → ℕ) → ℕ → ℕ
cut_over_on L e some f s = gate (some s) (sum_over L (λ d. gate (in_cut L e some d) (f d)) s)

-- The first n numbers of a list are those of disks that are not erased.
abbrev pub Survivors : Layout → (e : ℕ → Bool) → List ℕ → ℕ → Type 0
Survivors L e list n = (k : ℕ) → k < n → (get_or list k 0 < L.disks) × (e (get_or list k 0) ≡ false)

-- The sum over the disks that they name.
abbrev pub over_list : List ℕ → ℕ → (ℕ → ℕ) → ℕ
over_list list n f = xsum n (λ k. f (get_or list k 0))

-- There are at most `most` of them, and the sum over them is this one.
pub record Listed (L : Layout) (e : ℕ → Bool) (list : List ℕ) (n most : ℕ) (sum : (ℕ → ℕ) → ℕ) : Type 0 where
  pub few : n ≤ most
  pub survivors : Survivors L e list n
  pub summed : (f : ℕ → ℕ) → over_list list n f ≡ sum f

-- Those of stripe s are listed behind the first `have` numbers of a list.
abbrev pub AddedBy : Layout → (e some : ℕ → Bool) → (s : ℕ) → (before : List ℕ) → (have : ℕ) → List ℕ → ℕ → Type 0
AddedBy L e some s before have list n =
    Listed L e list n (have + cut_on L e some s) (λ f. over_list before have f ⊕ cut_over_on L e some f s)
