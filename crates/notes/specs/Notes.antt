-- Notes: which disks are erased at a position, in the bytes of a sheet that is not written yet.
-- Assumes nothing.
use Rattle.std.specs.Prelude.{◌≡◌, Bool, true, cond, List, ℕ, suc, ◌+◌, ◌<◌, min, ltb, get_or, set}
use Rattle.stripes.specs.Fold.{count}
use Rattle.stripes.specs.Erased.{erasures, below}
use Rattle.stripes.specs.Sectors.{at_position}
use Rattle.model.specs.Grid.{map_fits}
use Rattle.model.specs.Sheet.{narrow, sheet_at}

-- A sheet notes the disks e of N: how many they are, but 98 for all numbers above 97, and behind that the first 97 of them, rising. So a
-- disk stands behind as many others as are below it.
pub record Notes (N : ℕ) (e : ℕ → Bool) (s : List ℕ) : Type 0 where
  pub number : get_or s 0 0 ≡ min 98 (count N e)
  pub disk : (d : ℕ) → d < N → e d ≡ true → count d e < 97 → get_or s (suc (count d e)) 0 ≡ d

-- Each of n sheets notes the disks at its position.
abbrev pub EachNotes : (N n : ℕ) → (e : ℕ → Bool) → (sheets : List ℕ) → Type 0
EachNotes N n e sheets = (p : ℕ) → p < n → Notes N (at_position n p e) (sheet_at narrow p sheets)

-- A sheet with disk d noted behind those that it notes.
unfoldable pub noted : List ℕ → (d : ℕ) → List ℕ
noted s d = cond (ltb (get_or s 0 0) 97) (set (set s (get_or s 0 0 + 1) d) 0 (get_or s 0 0 + 1)) (set s 0 98)

-- A map of N disks has those erased that a sheet notes.
pub record Loads (N : ℕ) (s map : List ℕ) : Type 0 where
  pub fits : map_fits N map ≡ true
  pub erased : (e : ℕ → Bool) → Notes N e s → erasures map ≡ below N e
