-- `smallest::choose::choose` meets its contract: each turn of the loop goes over one of the disks of the working map.
-- Assumes nothing.
use mathlib.Core.Path.{◌≡◌, refl, sym, ◌∙◌, ap}
use Prim.Native.Nat.{◌+◌, ◌<◌}
use native.Mathlib.Nat.{le_refl}
use native.Mathlib.Omega.{arith}
use lib.ListN.{length, length-set}
use Rattle.stripes.specs.Erased.{erasures}
use Rattle.model.specs.Grid.{layout_of}
use Rattle.layout.proofs.Runs.{numbered_two, stripes_few}
use Rattle.tally.specs.declared.scan.Scan.{Scan}
use Rattle.tally.proofs.Scanned.{Turned, turned, ended}
use Rattle.tally.proofs.Counted.{Crossed, crossed, erased_crossed}
use Rattle.reach.specs.Reached.{word_stripes}
use Rattle.neighbours.proofs.Neighbours.{grid-apart}
use Rattle.smallest.proofs.Choosing.{Choosing, AllChosen, wiped_all, choosing_few, choosing_start, choosing_over, choosing_end}
use Rattle.smallest.proofs.Choosing.{choosing_pass, choosing_take, choosing_last, chosen-smallest}
use Rattle.smallest.proofs.choose.choose.Goals.{After-begin-ends, After-into_iter-d-iterator, In-Some, After-stripes_of-pair, Joined-next}
use Rattle.smallest.proofs.choose.choose.Goals.{in-None, in-Some+then-level-others+then-chosen-others}
use Rattle.smallest.proofs.choose.choose.Goals as goal

-- The lowest disk with its stripes, which have their places in the tables.
ends : (b : goal.After-begin-ends) →
    let a = b.args in
    Crossed (layout_of a.grid.size a.grid.base) a.found.disk b.begin-ends.result.low b.begin-ends.result.high
ends b = crossed (numbered_two b.args.grid.numbered) b.requires.nearest.disk b.begin-ends.ensures.stripes

end-places : (b : goal.After-begin-ends) → (b.begin-ends.result.low < word_stripes) × (b.begin-ends.result.high < word_stripes)
end-places b =
    let few = stripes_few b.args.grid.numbered in
    (omega (arith, (ends b).low_bound), omega (arith, (ends b).high_bound))

-- The scan goes over what is left of the working map.
scanned : (c : goal.After-into_iter-d-iterator) → c.into_iter-d-iterator.result.map.now ≡ c.begin-ends.new.work
scanned c = ap (λ (s : Scan). s.map.now) c.into_iter-d-iterator.ensures.into_iter_gives

pub loop-d-init : goal.loop-d-init
loop-d-init c =
    let a = c.args in
    let n = a.grid.numbered in
    let wipe = c.wipe in
    let first : c.into_iter-d-iterator.result.from ≡ a.found.disk + 1 = ap (λ (s : Scan). s.from) c.into_iter-d-iterator.ensures.into_iter_gives in
    let begun =
    choosing_start (layout_of a.grid.size a.grid.base) (numbered_two n) (stripes_few n) c.requires.nearest
    (ends (goal.at.loop-d-init c).After-begin-ends) c.begin-ends.ensures.measured c.begin-ends.ensures.left
    (ap erasures wipe.ensures ∙ wiped_all _) (wipe.auto.a ∙ c.requires.set_len ∙ sym c.begin-ends.auto.work) in
    (tt, tt, refl, rw (scanned (goal.at.loop-d-init c).After-into_iter-d-iterator, first) begun)

-- The turn of the loop.
turn : (c : goal.In-Some) → Turned c.into_iter-d-iterator.result.map.now c.loop-d.d-iterator.from c.in-Some.d c.next.new.self.from
turn c = turned c.loop-d.invariant.2 c.in-Some.ensures.steps.1

over : (c : goal.In-Some) →
    let a = c.args in
    Choosing (layout_of a.grid.size a.grid.base) c.begin-ends.result.low c.begin-ends.result.high a.found.others c.into_iter-d-iterator.result.map.now
    a.stripes.now c.loop-d.near c.loop-d.levels c.loop-d.set c.in-Some.d c.loop-d.chosen
over c =
    let s = c.args.grid.numbered in
    choosing_over (layout_of c.args.grid.size c.args.grid.base) (numbered_two s) (stripes_few s) c.loop-d.invariant.3 (turn c).passed

-- The disk with its stripes, which have their places in the tables.
pair : (p : goal.After-stripes_of-pair) →
    let a = p.args in
    Crossed (layout_of a.grid.size a.grid.base) p.in-Some.d p.stripes_of-pair.result.low p.stripes_of-pair.result.high
pair p =
    erased_crossed p.loop-d.invariant.3.measured.table _ (turned p.loop-d.invariant.2 p.in-Some.ensures.steps.1).erased
    (numbered_two p.args.grid.numbered) p.stripes_of-pair.ensures

places : (p : goal.After-stripes_of-pair) → (p.stripes_of-pair.result.low < word_stripes) × (p.stripes_of-pair.result.high < word_stripes)
places p =
    let few = stripes_few p.args.grid.numbered in
    (omega (arith, (pair p).low_bound), omega (arith, (pair p).high_bound))

pub level_of-level-requires : goal.level_of-level-requires
level_of-level-requires c =
    let now = c.loop-d.invariant.3.measured in
    let (low, high) = places (goal.at.level_of-level-requires c).After-stripes_of-pair in
    record {
      near_len = now.neighbours.room;
      levels_len = now.levelled.room;
      low_lt_word_stripes = low;
      high_lt_word_stripes = high;
    }

pub overflow_add-chosen : goal.overflow_add-chosen
overflow_add-chosen c =
    let at = goal.at.overflow_add-chosen c in
    let few = choosing_few (over at.In-Some) in
    omega (arith, (turn at.In-Some).inside)

pub narrow-requires : goal.narrow-requires
narrow-requires c =
    let now = c.loop-d.invariant.3.measured in
    let (end-low, end-high) = end-places (goal.at.narrow-requires c).After-begin-ends in
    let (low, high) = places (goal.at.narrow-requires c).After-stripes_of-pair in
    record {
      near_len = now.neighbours.room;
      levelled = now.levelled;
      low_lt_word_stripes = end-low;
      high_lt_word_stripes = end-high;
      low_lt_word_stripes_2 = low;
      high_lt_word_stripes_2 = high;
      others_lt_word_stripes = c.requires.nearest.few;
      level_lt_others = c.if-level-others.true;
    }

-- A turn goes over its disk, chosen or not.
pub loop-d-preserved-then-level-others : goal.loop-d-preserved-then-level-others
loop-d-preserved-then-level-others c =
    let at = goal.at.loop-d-preserved-then-level-others c in
    let n = c.args.grid.numbered in (
      tt,
      tt,
      cc (c.next.ensures.steps.0, c.loop-d.invariant.2),
      rw (turn at.In-Some).goes (
          choosing_take (layout_of c.args.grid.size c.args.grid.base) (numbered_two n) (stripes_few n) (grid-apart n) (over at.In-Some)
          (pair at.After-stripes_of-pair) c.level_of-level.ensures c.if-level-others.true c.narrow.ensures.cut c.narrow.ensures.levels
          ),
    )

pub loop-d-preserved : goal.loop-d-preserved
loop-d-preserved c =
    let at = goal.at.loop-d-preserved c in
    let n = c.args.grid.numbered in (
      tt,
      tt,
      cc (c.next.ensures.steps.0, c.loop-d.invariant.2),
      rw (turn at.In-Some).goes (
          choosing_pass (layout_of c.args.grid.size c.args.grid.base) (numbered_two n) (stripes_few n) (grid-apart n) (over at.In-Some)
          (pair at.After-stripes_of-pair) c.level_of-level.ensures c.if-level-others.false
          ),
    )

-- In the end all disks of the way are chosen: the working map has no more disks, or so many are chosen.
done : (c : goal.Joined-next) →
    let a = c.args in
    AllChosen (layout_of a.grid.size a.grid.base) (erasures c.into_iter-d-iterator.result.map.now) c.begin-ends.result.low c.begin-ends.result.high
    a.found.others c.match-next.set
    × (length c.match-next.set ≡ length c.into_iter-d-iterator.result.map.now)
done c =
    let h = c.loop-d.invariant.3 in
    let n = c.args.grid.numbered in
    let two = numbered_two n in
    let room = stripes_few n in
    let L = layout_of c.args.grid.size c.args.grid.base in
    elim c.match-next.branch [
      | in-None w ↦
          let p = ended c.loop-d.invariant.2 w.in-None.ensures.steps.1 in
          (rw w.set-is (choosing_end L two room (choosing_over L two room h p) (le_refl _)), ap length w.set-is ∙ h.long)
      | in-Some+then-level-others+then-chosen-others w ↦
          let t = turned c.loop-d.invariant.2 w.in-Some.ensures.steps.1 in
          let x = erased_crossed h.measured.table _ t.erased two w.stripes_of-pair.ensures in (
            rw w.set-is
                (choosing_last L two room (grid-apart n) (choosing_over L two room h t.passed) x w.level_of-level.ensures w.if-level-others.true
                w.if-chosen-others.true),
            ap length w.set-is ∙ length-set c.loop-d.set _ 1 ∙ h.long,
          )
    ]

pub returns : goal.returns
returns c =
    let at = goal.at.returns c in
    let n = c.args.grid.numbered in
    let same = scanned at.After-into_iter-d-iterator in
    let fits = c.loop-d.invariant.3.measured.table.disks_fit in
    let (all, long) = done at.Joined-next in
    chosen-smallest (layout_of c.args.grid.size c.args.grid.base) (numbered_two n) (stripes_few n) c.requires.nearest (ends at.After-begin-ends)
    (ap erasures same ∙ c.begin-ends.ensures.left) all (omega arith)
