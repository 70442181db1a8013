-- The repair that comes next, as the planner answers it, and the repairs while one disk is held back.
-- Assumes nothing.
use Rattle.std.specs.Prelude.{Bool, cond, List, ℕ, ltb, Option, Some, None}
use Rattle.stripes.specs.System.{Layout}
use Rattle.stripes.specs.Erased.{without}
use Rattle.stripes.specs.Repair.{Entry, next_disk, repair_of, peel, any_disk}
use Rattle.order.specs.declared.Repair.{Repair}

-- The next repair of a disk of c, or that there is none.
unfoldable pub picked : Layout → (c e : ℕ → Bool) → Option Repair
picked L c e =
    cond (ltb (next_disk L c e) L.disks) (Some (record { disk = next_disk L c e; stripe = (repair_of L e (next_disk L c e)).stripe })) None

-- The repairs by lowest number while one disk is held back.
abbrev pub held_repairs : Layout → (held : ℕ) → (e : ℕ → Bool) → List Entry
held_repairs L held e = peel L (without any_disk held) L.disks e
