-- One side of a wanted disk, by the table of parts that the other erased disks make.
-- Assumes nothing.
use Rattle.std.specs.Prelude.{Bool, cond, ◌&&◌, List, ℕ, eqb, get_or}
use Rattle.stripes.specs.System.{Layout, lower}
use Rattle.stripes.specs.Erased.{erasures}

-- A disk lies in the part with a name.
abbrev pub in_part : Layout → (parts : List ℕ) → (name : ℕ) → (i : ℕ) → Bool
in_part L parts name i = eqb (get_or parts (lower L i) 0) name

-- One of the others does.
abbrev pub other_in : Layout → (others parts : List ℕ) → (name : ℕ) → (i : ℕ) → Bool
other_in L others parts name i = erasures others i && in_part L parts name i

-- What a map has as erased, but of the others only those in the part.
abbrev pub side_in : Layout → (map others parts : List ℕ) → (name : ℕ) → (i : ℕ) → Bool
side_in L map others parts name i = cond (erasures others i) (in_part L parts name i) (erasures map i)
