-- `notes::note_all` meets its contract: each turn notes the next erased sector of the map.
-- Assumes nothing.
use mathlib.Core.Path.{◌≡◌, ◌∙◌, ap}
use mathlib.Core.List.{List}
use Prim.Native.Nat.{ℕ, ◌/◌, ◌%◌, ◌<◌}
use native.Mathlib.Nat.{mod-lt, div-lt_iff_lt-mul}
use native.Mathlib.Omega.{arith}
use lib.ListN.{length}
use Rattle.model.specs.Grid.{disks}
use Rattle.model.specs.Sheet.{narrow, sheet_at}
use Rattle.model.proofs.Grid.{sectors-bound}
use Rattle.model.proofs.SheetRow.{length-sheet_at}
use Rattle.tally.specs.Column.{Positioned}
use Rattle.tally.proofs.Column.{map-long, disks-few}
use Rattle.tally.proofs.Scanned.{Turned, turned, ended}
use Rattle.sheet.proofs.Part.{part_sheet}
use Rattle.notes.specs.Notes.{noted}
use Rattle.sheet.proofs.Put.{put_length}
use Rattle.notes.proofs.Noted.{NotedTo, noted-none, noted_over, noted_all, noted-next}
use Rattle.notes.proofs.note_all.Goals.{In-Some, At-loop-i}
use Rattle.notes.proofs.note_all.Goals as goal

pub loop-i-init : goal.loop-i-init
loop-i-init c =
    let begun : c.into_iter-i-iterator.result ≡ c.erased-i-items.result = c.into_iter-i-iterator.ensures.into_iter_gives in
    let start : c.into_iter-i-iterator.result.from ≡ 0 = cc (begun, c.erased-i-items.ensures.start) in
    (tt, tt, cc (begun, c.erased-i-items.ensures.map), c.zero_all.auto.sheets ∙ c.requires.sheets_len, rw start (noted-none _ _ c.zero_all.ensures))

some : (c : goal.At-loop-i) → 0 < c.args.sectors
some c = (sectors-bound _ c.requires.sectors_value).0

-- The map, with any position.
positioned : (c : goal.At-loop-i) (p : ℕ) → p < c.args.sectors
    → Positioned c.args.size c.args.sectors p c.args.map.now
positioned c p place = let f = c.requires in record { size = f.size_value; sectors = f.sectors_value; place = place; map = f.map_value }

-- The turn of the loop, and what is noted up to the sector that it finds.
turn : (c : goal.In-Some) → Turned c.args.map.now c.loop-i.i-iterator.from c.in-Some.i c.next.new.self.from
turn c = turned c.loop-i.invariant.2 c.in-Some.ensures.steps.1

over : (c : goal.In-Some) → NotedTo c.args.sectors c.args.map.now c.loop-i.sheets c.in-Some.i
over c = let l = c.loop-i in noted_over _ _ l.sheets l.invariant.4 (turn c).passed

pub returns : goal.returns
returns c =
    let l = c.loop-i in
    let past = ended l.invariant.2 c.in-None.ensures.steps.1 in
    noted_all _ _ l.sheets (noted_over _ _ l.sheets l.invariant.4 past) (omega arith) _
    (map-long (positioned (goal.at.returns c).At-loop-i 0 (some (goal.at.returns c).At-loop-i)))

-- The sector of a turn: its position, its disk, and the sheet of its position.
at : (c : goal.In-Some) → let n = c.args.sectors in c.in-Some.i % n < n
at c = mod-lt _ (sectors-bound _ c.requires.sectors_value).0

disk : (c : goal.In-Some) → c.in-Some.i / c.args.sectors < 256
disk c =
    let f = c.requires in
    let some = (sectors-bound _ f.sectors_value).0 in
    let p : Positioned c.args.size c.args.sectors 0 c.args.map.now =
    record { size = f.size_value; sectors = f.sectors_value; place = some; map = f.map_value } in
    let all = map-long p in
    let few = disks-few p in
    let below = (turn c).inside in
    let low : c.in-Some.i / c.args.sectors < disks c.args.size =
    (div-lt_iff_lt-mul some).1 (omega arith) in
    omega arith

part_length : (c : goal.In-Some) → length (sheet_at narrow (c.in-Some.i % c.args.sectors) c.loop-i.sheets) ≡ 98
part_length c = let l = c.loop-i in length-sheet_at narrow _ l.sheets l.invariant.3 _ (at c)

pub nonzero_rem-at : goal.nonzero_rem-at
nonzero_rem-at c = let more = some (goal.at.nonzero_rem-at c).At-loop-i in omega arith

pub overflow_mul-at : goal.overflow_mul-at
overflow_mul-at c =
    let low = at (goal.at.overflow_mul-at c).In-Some in
    let few = (sectors-bound _ c.requires.sectors_value).1 in
    omega arith

pub overflow_add-at : goal.overflow_add-at
overflow_add-at c =
    let low = at (goal.at.overflow_add-at c).In-Some in
    let few = (sectors-bound _ c.requires.sectors_value).1 in
    omega arith

pub slice_bounds-note-end : goal.slice_bounds-note-end
slice_bounds-note-end c =
    let low = at (goal.at.slice_bounds-note-end c).In-Some in
    let long = c.loop-i.invariant.3 in
    omega arith

pub note-requires-clause-disk_bound : goal.note-requires-clause-disk_bound
note-requires-clause-disk_bound c = disk (goal.at.note-requires-clause-disk_bound c).In-Some

pub loop-i-preserved : goal.loop-i-preserved
loop-i-preserved c =
    let at' = goal.at.loop-i-preserved c in
    let i : ℕ = c.in-Some.i in
    let note = c.note in
    let t = turn at'.In-Some in
    let own = part_sheet narrow (i % c.args.sectors) c.loop-i.sheets in
    let size : length note.new.sheet ≡ 98 = note.auto.sheet ∙ ap length own ∙ part_length at'.In-Some in (
      tt,
      tt,
      cc (c.next.ensures.steps.0, c.loop-i.invariant.2),
      put_length _ c.loop-i.sheets c.loop-i.invariant.3 _ (at at'.In-Some) note.new.sheet size,
      rw t.goes (noted-next _ _ (some at'.At-loop-i) c.loop-i.sheets c.loop-i.invariant.3 i t.erased _
          (note.ensures ∙ ap (λ (s : List ℕ). noted s (i / c.args.sectors)) own) size (over at'.In-Some)),
    )
