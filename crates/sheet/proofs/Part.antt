-- The part of some sheets that the code lends as the sheet of a position.
-- Assumes nothing.
use mathlib.Core.Path.{◌≡◌, ap}
use mathlib.Core.List.{List}
use Prim.Native.Nat.{ℕ, ◌+◌, ◌*◌, ◌-◌}
use native.Mathlib.Nat.{add-sub_cancel_left}
use lib.ListN.{take, drop}
use Rattle.model.specs.Sheet.{Format, sheet_bytes, sheet_at}

pub part_sheet : (f : Format) (p : ℕ) (s : List ℕ)
    → take (sheet_bytes f * p + sheet_bytes f - sheet_bytes f * p) (drop (sheet_bytes f * p) s) ≡ sheet_at f p s
unfolding sheet_at
part_sheet f p s =
    ap (λ (k : ℕ). take k (drop (sheet_bytes f * p) s)) (add-sub_cancel_left (sheet_bytes f * p) (sheet_bytes f))
