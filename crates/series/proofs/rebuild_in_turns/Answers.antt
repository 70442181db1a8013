-- `series::rebuild_in_turns` meets its contract: each turn goes on from what those before it left.
-- Assumes nothing.
use mathlib.Core.Path.{◌≡◌, ap, ap₂}
use mathlib.Core.List.{List, [], ◌++◌}
use Prim.Native.Nat.{ℕ, ◌+◌, ◌*◌, ◌-◌, ◌/◌, ◌≤◌}
use native.Mathlib.Omega.{arith}
use borrow.Rule.Slice.PartMut.{Post-is}
use lib.ListN.{length, take, drop}
use Rattle.stripes.specs.Sectors.{sectored}
use Rattle.model.specs.Plan.{sheet_layout}
use Rattle.model.specs.Rebuild.{rebuild_turn}
use Rattle.model.specs.Answers.{number, outcome_of}
use Rattle.series.specs.Total.{total_of_turns}
use Rattle.series.proofs.Ends.{positions-bound}
use Rattle.series.proofs.Progress.{begins, ends, inside, ready, fewer, goes}
use Rattle.series.proofs.rebuild_in_turns.Goals.{In-loop-done}
use Rattle.series.proofs.rebuild_in_turns.Goals as goal

pub overflow_mul-bytes : goal.overflow_mul-bytes
overflow_mul-bytes c =
    let a = c.args in
    let number = c.positions-bytes.ensures in
    let few = (positions-bound a.block a.sector).1 in
    omega arith

pub nonzero_div-done : goal.nonzero_div-done
nonzero_div-done c =
    let a = c.args in
    let number = c.positions-bytes.ensures in
    let some = (positions-bound a.block a.sector).0 in
    omega arith

pub loop-done-init : goal.loop-done-init
unfolding outcome_of number
loop-done-init c =
    let a = c.args in
    let is = ap (λ (n : ℕ). 98 * n) c.positions-bytes.ensures in
    ([], begins a.size a.block a.sector a.limit _ a.array.now a.map.now a.sheets.now is)

-- The next sheets stand in the buffer.
within : (c : goal.In-loop-done) → let bytes = 98 * c.positions-bytes.result in
    bytes * c.loop-done.done.turns + bytes ≤ length c.loop-done.sheets
within c = inside c.loop-done.invariant.1 c.loop-done-test.true

pub overflow_mul-at : goal.overflow_mul-at
overflow_mul-at c = let here = within (goal.at.overflow_mul-at c).In-loop-done in omega arith

pub overflow_add-own : goal.overflow_add-own
overflow_add-own c = let here = within (goal.at.overflow_add-own c).In-loop-done in omega arith

pub slice_bounds-own-count : goal.slice_bounds-own-count
slice_bounds-own-count c = omega arith

pub slice_bounds-own-end : goal.slice_bounds-own-end
slice_bounds-own-end c = within (goal.at.slice_bounds-own-end c).In-loop-done

pub turn-done-requires : goal.turn-done-requires
turn-done-requires c =
    let l = c.loop-done in
    let some = c.loop-done-test.true in
    let (few, room) = ready l.invariant.1 some in
    let long = l.invariant.1.long.0 in
    record {
      left_nonzero = some;
      made_bound = few;
      turns_bound = omega arith;
    }

pub loop-done-smaller : goal.loop-done-smaller
loop-done-smaller c =
    let a = c.args in
    let bytes : ℕ = 98 * c.positions-bytes.result in
    let at : ℕ = bytes * c.loop-done.done.turns in
    fewer (sectored (a.block / a.sector) (sheet_layout a.size)) (total_of_turns c.loop-done.done) _
    (rebuild_turn a.size a.block a.sector c.loop-done.array c.loop-done.map (take (at + bytes - at) (drop at c.loop-done.sheets)) a.limit)
    c.turn-done.ensures.turns c.loop-done-test.true

pub loop-done-preserved : goal.loop-done-preserved
loop-done-preserved c =
    let s : List ℕ = c.loop-done.sheets in
    let bytes : ℕ = 98 * c.positions-bytes.result in
    let at : ℕ = bytes * c.loop-done.done.turns in
    let whole : at + bytes - at ≡ bytes = omega arith in
    let record { turns = done; array = array; map = map; sheets = sheets } = c.turn-done.ensures in (
      _,
      goes c.loop-done.invariant.1 c.loop-done-test.true (ap (λ (i : ℕ). take i (drop at s)) whole) done array map
          (ap₂ (λ (l₁ l₂ : List ℕ). take at s ++ (l₁ ++ l₂)) sheets (Post-is at (at + bytes) s (omega arith))),
    )

pub returns : goal.returns
returns c =
    let none = c.loop-done-test.false in
    let (h0, (h1, (h2, h3))) = ends c.loop-done.invariant.1 (omega arith) in
    record {
      turns = h0;
      array = h1;
      map = h2;
      sheets = h3;
    }
