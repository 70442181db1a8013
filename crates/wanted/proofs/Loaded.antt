-- The maps that are loaded: the erased disks but one, and one side with the disk.
-- Assumes nothing.
use mathlib.Core.Path.{◌≡◌, ◌∙◌, ap, subst}
use mathlib.Core.Bool.{Bool, false, cond}
use mathlib.Core.List.{List}
use Prim.Native.Nat.{ℕ, ◌≤◌}
use lib.ListN.{length, set}
use Rattle.stripes.specs.System.{Layout}
use Rattle.stripes.specs.Erased.{erasures, without}
use Rattle.stripes.proofs.Fold.{fails_with}
use Rattle.stripes.proofs.Erased.{past_end, erasures-clear}
use Rattle.stripes.proofs.Peel.{without_sub}
use Rattle.parts.specs.Parted.{Parted}
use Rattle.wanted.specs.Side.{in_part, side_in}

-- A map is copied, and then one disk is taken out.
pub others_loaded : (map work : List ℕ) (d : ℕ) → erasures work ≡ erasures map
    → erasures (set work d 0) ≡ without (erasures map) d
others_loaded map work d e =
    erasures-clear work d ∙ ap (λ (f : ℕ → Bool). without f d) e

-- Nothing is erased past the end of the map.
pub others_outside : (map others : List ℕ) (d : ℕ) → erasures others ≡ without (erasures map) d → (i : ℕ) → length map ≤ i
    → erasures others i ≡ false
others_outside map others d e i l =
    ap (λ (f : ℕ → Bool). f i) e ∙ fails_with (without (erasures map) d i) (erasures map i) (without_sub (erasures map) d i) (past_end map i l)

pub side_outside : (L : Layout) (map others parts : List ℕ) (name d : ℕ) → erasures others ≡ without (erasures map) d
    → (work : List ℕ) → ((i : ℕ) → erasures work i ≡ side_in L map others parts name i) → (i : ℕ) → length map ≤ i → erasures work i ≡ false
side_outside L map others parts name d e work h i l =
    h i ∙ ap (λ (b : Bool). cond b (in_part L parts name i) (erasures map i)) (others_outside map others d e i l) ∙ past_end map i l

-- The parts that the disks of a working map make are those of the same disks.
pub parted-same : {L : Layout} {f g : ℕ → Bool} → f ≡ g → {k : ℕ} {parts : List ℕ} → Parted L f k parts → Parted L g k parts
parted-same {L} same {k} {parts} p = subst (λ (c : ℕ → Bool). Parted L c k parts) same p
