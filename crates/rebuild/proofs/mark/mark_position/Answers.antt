-- `rebuild::mark::mark_position` meets its contract: after k turns the sectors of the first k repairs are present.
-- Assumes nothing.
use mathlib.Core.Path.{◌≡◌, sym, ◌∙◌, ap, subst}
use Prim.Native.Nat.{ℕ, ◌+◌, ◌*◌, ◌<◌}
use native.Mathlib.Omega.{arith}
use lib.ListN.{length}
use Rattle.stripes.specs.Repair.{map_after}
use Rattle.stripes.specs.Sectors.{sector_at}
use Rattle.stripes.proofs.Split.{length-map_after}
use Rattle.rebuild.proofs.Marks.{sectorList, marks_none, marks_next}
use Rattle.rebuild.proofs.mark.mark_position.Goals.{After-disk_of-disk, At-loop-k}
use Rattle.rebuild.proofs.mark.mark_position.Goals as goal

-- The map keeps its length.
kept : (c : goal.At-loop-k) → length c.loop-k.map ≡ length c.args.map.now
kept c = let a = c.args in ap length c.loop-k.invariant ∙ length-map_after a.map.now _

-- The sector lies in the map.
inside : (c : goal.After-disk_of-disk) →
    let a = c.args in
    c.disk_of-disk.result * a.sectors + a.position < length a.map.now
unfolding sector_at
inside c =
    let there = c.requires.by_index c.loop-k.k c.loop-k-test.true in
    subst (λ (d : ℕ). d * c.args.sectors + c.args.position < length c.args.map.now) (sym c.disk_of-disk.ensures) there

pub loop-k-init : goal.loop-k-init
loop-k-init c = marks_none _ _ _ _

pub bounds-map-disk : goal.bounds-map-disk
bounds-map-disk c = let there = inside (goal.at.bounds-map-disk c).After-disk_of-disk in let same = kept (goal.at.bounds-map-disk c).At-loop-k in omega arith

pub loop-k-preserved : goal.loop-k-preserved
loop-k-preserved c =
    let a = c.args in
    let l = c.loop-k in
    marks_next a.sectors a.position a.map.now a.list.now l.k l.map l.invariant _ c.disk_of-disk.ensures

pub returns : goal.returns
returns c =
    let a = c.args in
    let l = c.loop-k in
    l.invariant ∙ ap (λ (k : ℕ). map_after a.map.now (sectorList a.sectors a.position a.map.now a.list.now k)) (omega arith)
