-- `tally::load::gather` meets its contract: the loop copies one byte of the position after the other.
-- Assumes nothing.
use Prim.Native.Nat.{◌+◌, ◌*◌, ◌<◌}
use native.Mathlib.Nat.{not-suc-le-zero}
use native.Mathlib.Omega.{arith}
use borrow.Author.Rules.{rules}
use lib.ListN.{length}
use Rattle.stripes.specs.Sectors.{sector_at}
use Rattle.tally.proofs.Scanned.{copied_next}
use Rattle.tally.proofs.Column.{byte_inside, column_is}
use Rattle.tally.proofs.load.gather.Goals.{In-loop-d}
use Rattle.tally.proofs.load.gather.Goals as goal

pub loop-d-init : goal.loop-d-init
loop-d-init c = (search rules, λ j h. absurd (not-suc-le-zero h))

-- The byte that a turn reads.
inside : (c : goal.In-loop-d) →
    let a = c.args in
    c.loop-d.d * a.sectors + a.position < length a.map.now
unfolding sector_at
inside c =
    let p = c.requires in
    let same = p.room in
    byte_inside p.positioned (omega arith)

pub overflow_mul-work : goal.overflow_mul-work
overflow_mul-work c = let l = inside (goal.at.overflow_mul-work c).In-loop-d in omega arith

pub overflow_add-work : goal.overflow_add-work
overflow_add-work c = let l = inside (goal.at.overflow_add-work c).In-loop-d in omega arith

pub bounds-map-d : goal.bounds-map-d
bounds-map-d c = let l = inside (goal.at.bounds-map-d c).In-loop-d in omega arith

pub loop-d-preserved : goal.loop-d-preserved
unfolding sector_at
loop-d-preserved c =
    let l = c.loop-d in
    (search rules, copied_next _ l.work l.d (search rules) l.invariant.1)

pub returns : goal.returns
returns c =
    let l = c.loop-d in
    let same = c.requires.room in
    column_is _ _ _ _ _ (search rules) (λ d h. l.invariant.1 d (omega arith))
