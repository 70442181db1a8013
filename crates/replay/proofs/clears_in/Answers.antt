-- `replay::clears_in` meets its contract: the position is loaded, its list judged, and the repairs are counted.
-- Assumes nothing.
use mathlib.Core.Path.{◌≡◌, sym, ◌∙◌, ap, ap₂}
use mathlib.Core.Bool.{Bool}
use Prim.Native.Nat.{ℕ}
use native.Mathlib.Omega.{arith}
use Rattle.stripes.specs.Fold.{count}
use Rattle.stripes.specs.Erased.{erasures}
use Rattle.stripes.specs.Repair.{all_allowed}
use Rattle.stripes.specs.Sectors.{at_position}
use Rattle.model.specs.Grid.{layout_of}
use Rattle.model.proofs.Grid.{layout-disks}
use Rattle.entries.specs.Listed.{listed}
use Rattle.tally.proofs.Column.{position_inside}
use Rattle.replay.proofs.Replayed.{clears_all, clears-not}
use Rattle.replay.proofs.clears_in.Goals.{After-all_allowed}
use Rattle.replay.proofs.clears_in.Goals as goal

pub tally-erased-requires : goal.tally-erased-requires
tally-erased-requires c =
    let p = c.requires in
    let room = p.located.room in
    let same = c.load_position.auto.work in
    let past = position_inside p.located.positioned in
    record {
      size_in_bounds = omega arith;
      by_index = λ d l. ap (λ (e : ℕ → Bool). e d) c.load_position.ensures ∙ past d l;
      work_in_bounds = omega arith;
      stripe_limit_in_bounds = omega arith;
    }

judged : (c : goal.After-all_allowed) →
    let a = c.args in
    let e = at_position a.sectors a.position (erasures a.map.now) in
    c.all_allowed.result ≡ all_allowed (layout_of a.grid.size a.grid.base) e (listed a.list.now a.count)
judged c =
    let a = c.args in
    c.all_allowed.ensures
    ∙ ap (λ (e : ℕ → Bool). all_allowed (layout_of a.grid.size a.grid.base) e (listed a.list.now a.count)) c.load_position.ensures

pub returns-then-not-all_allowed : goal.returns-then-not-all_allowed
returns-then-not-all_allowed c =
    clears-not _ _ _ _ (sym (judged (goal.at.returns-then-not-all_allowed c).After-all_allowed) ∙ c.if-not-all_allowed.true)

pub returns : goal.returns
returns c =
    let a = c.args in
    clears_all _ _ _ _ (sym (judged (goal.at.returns c).After-all_allowed) ∙ c.if-not-all_allowed.false) _
    (c.tally-erased.ensures.number ∙ ap₂ count (sym (layout-disks a.grid.size a.grid.base)) c.load_position.ensures)
