-- `plan::draft_all` meets its contract: each position gets what those before it leave of the limit, up to the first where the loss is
-- fatal. The sheets of later ones still hold their notes.
-- Assumes nothing.
use Prim.Native.Nat.{ℕ, ◌≤◌, ◌<◌}
use Rattle.stripes.specs.Erased.{erasures}
use Rattle.stripes.specs.Sectors.{at_position}
use Rattle.model.specs.Plan.{sheet_layout}
use Rattle.model.specs.Grid.{disks}
use Rattle.model.specs.Sheet.{narrow, sheet_at}
use Rattle.notes.specs.Notes.{Notes}
use Rattle.plan.proofs.Begun.{Begun}
use Rattle.plan.proofs.draft_all.Given as goal

abbrev pub invariant-loop-p : goal.invariant-loop-p
invariant-loop-p l = Begun l.sectors (sheet_layout l.size) (erasures l.map) l.limit l.p l.count l.left l.sheets
    × ((q : ℕ) → l.p ≤ q → q < l.sectors → Notes (disks l.size) (at_position l.sectors q (erasures l.map)) (sheet_at narrow q l.sheets))
