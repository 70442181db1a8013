-- Repairs while a number is held back that is no disk's: those of plan's order.
-- Assumes nothing.
use mathlib.Core.Path.{◌≡◌, ◌∙◌, ap}
use mathlib.Core.Bool.{Bool}
use mathlib.Core.List.{List}
use Prim.Native.Nat.{ℕ, ◌≤◌}
use lib.ListN.{length}
use Rattle.stripes.specs.System.{Layout}
use Rattle.stripes.specs.Erased.{erasures}
use Rattle.stripes.specs.Repair.{repairs, after, residual}
use Rattle.stripes.proofs.Peel.{repairs-held}
use Rattle.entries.specs.Listed.{listed}
use Rattle.tally.specs.Tally.{Tallied}
use Rattle.order.specs.Pick.{held_repairs}

-- What a call of peel says then.
pub none-held : {L : Layout} {held : ℕ} → L.disks ≤ held → (e : ℕ → Bool) (list : List ℕ) {made : ℕ} {work stripes counts : List ℕ}
    → (made ≡ length (held_repairs L held e)) × ((erasures work ≡ after e (held_repairs L held e))
    × ((listed list made ≡ held_repairs L held e) × Tallied L work stripes counts))
    → (made ≡ length (repairs L e)) × ((erasures work ≡ residual L e) × ((listed list made ≡ repairs L e) × Tallied L work stripes counts))
unfolding residual
none-held {L} {held} none e list (number, (left, (entries, tallied))) =
    let same : held_repairs L held e ≡ repairs L e = repairs-held L held none e in
    (number ∙ ap length same, (left ∙ ap (after e) same, (entries ∙ same, tallied)))
