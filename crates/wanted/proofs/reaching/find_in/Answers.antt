-- `wanted::reaching::find_in` meets its contract: the others are loaded and joined, and the side with fewer disks is tried first.
-- Assumes nothing.
use mathlib.Core.Path.{◌≡◌, refl, ◌∙◌, ap}
use mathlib.Core.Bool.{true, false}
use mathlib.Core.List.{List}
use Rattle.std.proofs.Common.{Option}
use Prim.Native.Nat.{ℕ, ◌≤◌, ◌<◌}
use native.Mathlib.Omega.{arith}
use lib.ListN.{length}
use Rattle.stripes.specs.System.{on}
use Rattle.stripes.specs.Erased.{erasures}
use Rattle.stripes.proofs.Erased.{past_end, is_inside}
use Rattle.model.specs.Grid.{layout_of}
use Rattle.model.proofs.Grid.{layout-disks, map-length}
use Rattle.layout.proofs.Runs.{numbered_two}
use Rattle.tally.proofs.Counted.{Crossed, crossed}
use Rattle.solve.proofs.Memory.{map-disks, same-room}
use Rattle.wanted.proofs.Reached.{listed-on, listed-lower, listed-higher, side_number, tried_at, found_first, found_second}
use Rattle.wanted.proofs.reaching.find_in.Goals.{After-stripes_of-pair, then-fewer-few, else-fewer-few}
use Rattle.wanted.proofs.reaching.find_in.Goals as goal

-- The disk is one of the map.
inside : (map : List ℕ) {d : ℕ} → erasures map d ≡ true → d < length map
inside map erased = is_inside (length map) (erasures map) (past_end map) _ erased

pub load_others-requires : goal.load_others-requires
load_others-requires c =
    let room = c.requires.room in
    let same = c.requires.others_len in
    let a = room.disks_fit in
    let b = room.table_fits in
    let long = map-disks _ c.args.grid.base _ c.requires.map_value in
    record {
      map_value = c.requires.map_value;
      disk_in_bounds = inside c.args.map.now c.requires.disk_value;
      map_in_bounds = omega arith;
      others_in_bounds = omega arith;
      stripe_limit_in_bounds = room.stripes_fit;
      base_in_bounds = c.requires.base_in_bounds;
    }

pub stripes_of-pair-requires : goal.stripes_of-pair-requires
stripes_of-pair-requires c =
    let l = inside c.args.map.now c.requires.disk_value in
    let long = map-length _ _ c.requires.map_value in
    record {
      disk_bound = omega arith;
    }

-- The disk with its stripes.
pair : (c : goal.After-stripes_of-pair) →
    let a = c.args in
    Crossed (layout_of a.grid.size a.grid.base) a.disk c.stripes_of-pair.result.low c.stripes_of-pair.result.high
pair c =
    let l = inside c.args.map.now c.requires.disk_value in
    let long = map-disks _ c.args.grid.base _ c.requires.map_value in
    crossed (numbered_two c.args.grid.numbered) (omega arith) c.stripes_of-pair.ensures

pub slice_reshared_read-number : goal.slice_reshared_read-number
slice_reshared_read-number c =
    let low = (pair (goal.at.slice_reshared_read-number c).After-stripes_of-pair).low_bound in
    let fit = c.load_others.ensures.parted.stripes_fit in
    omega arith

pub slice_reshared_read-number-2 : goal.slice_reshared_read-number-2
slice_reshared_read-number-2 c =
    let high = (pair (goal.at.slice_reshared_read-number-2 c).After-stripes_of-pair).high_bound in
    let fit = c.load_others.ensures.parted.stripes_fit in
    omega arith

pub try_both-requires : goal.try_both-requires
try_both-requires c =
    let k = c.load_others.auto in
    let L = layout_of c.args.grid.size c.args.grid.base in
    let d = c.args.disk in
    let (low, high) = listed-on L d c.stripes_of-pair.ensures in
    let one = λ (p : ℕ × ℕ). on L d p.0 in
    let other = λ (p : ℕ × ℕ). on L d p.1 in
    let first : on L d c.if-fewer-few.first.0 ≡ true =
    elim c.if-fewer-few.branch [ then-fewer-few w ↦ ap one w.first-is ∙ high | else-fewer-few w ↦ ap one w.first-is ∙ low ] in
    let second : on L d c.if-fewer-few.first.1 ≡ true =
    elim c.if-fewer-few.branch [ then-fewer-few w ↦ ap other w.first-is ∙ low | else-fewer-few w ↦ ap other w.first-is ∙ high ] in
    record {
      map_value = c.requires.map_value;
      disk_value = c.requires.disk_value;
      first_value = first;
      second_value = second;
      others = c.load_others.ensures;
      room = same-room c.requires.room refl k.stripes k.counts refl;
      others_len = k.others ∙ c.requires.others_len;
    }

pub returns : goal.returns
returns c =
    let a = c.args in
    let L = layout_of a.grid.size a.grid.base in
    let e = erasures a.map.now in
    let x = pair (goal.at.returns c).After-stripes_of-pair in
    let o = c.load_others.ensures in
    let two = numbered_two c.args.grid.numbered in
    let long = map-disks _ a.grid.base _ c.requires.map_value in
    let all = layout-disks a.grid.size a.grid.base in
    let out : (i : ℕ) → L.disks ≤ i → erasures a.map.now i ≡ false = λ i h. past_end a.map.now i (omega arith) in
    let few = c.number-few.ensures ∙ side_number two c.requires.disk_value out o _ x.low_bound all in
    let fewer = c.number-fewer.ensures ∙ side_number two c.requires.disk_value out o _ x.high_bound all in
    let low = listed-lower L a.disk c.stripes_of-pair.ensures in
    let high = listed-higher L two a.disk x.disk c.stripes_of-pair.ensures in
    let (made, list) : Option ℕ × List ℕ = (c.try_both.result, c.try_both.new.list) in
    elim c.if-fewer-few.branch [
      | then-fewer-few w ↦
          found_second two e a.disk c.requires.disk_value low high (omega (arith, w.if-fewer-few.true, few, fewer)) made list
          (tried_at two e a.disk c.requires.disk_value w.first-is made list c.try_both.ensures)
      | else-fewer-few w ↦
          found_first two e a.disk c.requires.disk_value low high (omega (arith, w.if-fewer-few.false, few, fewer)) made list
          (tried_at two e a.disk c.requires.disk_value w.first-is made list c.try_both.ensures)
    ]
