-- `parts::link::link` meets its contract: the disk's two stripes have their places in the tables, and the name that a link ends is a
-- number that a set of links has room for.
-- Assumes nothing.
use native.Mathlib.Omega.{arith}
use lib.ListN.{get_or}
use Prim.Native.Nat.{◌<◌}
use Rattle.stripes.specs.Fold.{◌⊕◌}
use Rattle.model.specs.Grid.{layout_of}
use Rattle.layout.proofs.Runs.{numbered_two, stripes_few}
use Rattle.tally.proofs.Counted.{Crossed, erased_crossed}
use Rattle.parts.proofs.Parted.{crossed_places, parted-closed, walked-closed, answer-closed, parted-next, walked_next, answer_link, name_small}
use Rattle.parts.proofs.link.link.Goals.{After-stripes_of-pair}
use Rattle.parts.proofs.link.link.Goals as goal

-- The disk with its stripes.
pair : (c : goal.After-stripes_of-pair) →
    let a = c.args in
    Crossed (layout_of a.grid.size a.grid.base) a.disk c.stripes_of-pair.result.low c.stripes_of-pair.result.high
pair c =
    erased_crossed c.requires.table _ c.requires.disk_value (numbered_two c.args.grid.numbered) c.stripes_of-pair.ensures

pub bounds-ways-low : goal.bounds-ways-low
bounds-ways-low c = (crossed_places (pair (goal.at.bounds-ways-low c).After-stripes_of-pair) c.requires.walked.stripes_fit).0

pub bounds-ways-high : goal.bounds-ways-high
bounds-ways-high c = (crossed_places (pair (goal.at.bounds-ways-high c).After-stripes_of-pair) c.requires.walked.stripes_fit).1

pub bounds-parts-high : goal.bounds-parts-high
bounds-parts-high c = (crossed_places (pair (goal.at.bounds-parts-high c).After-stripes_of-pair) c.requires.parted.stripes_fit).1

pub bounds-parts-low : goal.bounds-parts-low
bounds-parts-low c = (crossed_places (pair (goal.at.bounds-parts-low c).After-stripes_of-pair) c.requires.parted.stripes_fit).0

pub returns-then-parts-low : goal.returns-then-parts-low
unfolding ◌⊕◌
returns-then-parts-low c =
    let e = c.requires in
    let parted = e.parted in
    let walked = e.walked in
    record {
      parts = parted-closed e.disk_value (pair (goal.at.returns-then-parts-low c).After-stripes_of-pair) parted walked c.if-parts-low.true;
      ways = walked-closed e.disk_value (pair (goal.at.returns-then-parts-low c).After-stripes_of-pair) parted walked c.if-parts-low.true;
      answer = answer-closed e.disk_value (pair (goal.at.returns-then-parts-low c).After-stripes_of-pair) parted walked c.if-parts-low.true;
    }

-- The name that the disk ends.
old-small : (c : goal.After-stripes_of-pair) → get_or c.args.parts.now c.stripes_of-pair.result.high 0 < 64
old-small c =
    let e = c.requires in
    let few = stripes_few c.args.grid.numbered in
    let small = name_small e.parted (numbered_two c.args.grid.numbered) (omega (arith, (pair c).disk)) _ (pair c).high_bound in
    omega arith

pub alone-own-requires : goal.alone-own-requires
alone-own-requires c = old-small (goal.at.alone-own-requires c).After-stripes_of-pair

pub unite-requires : goal.unite-requires
unite-requires c =
    let is = c.bound-bound.ensures in
    let fits = c.requires.parted.stripes_fit in
    record {
      bound_in_bounds = omega arith;
      low_lt_bound = omega (arith, (pair (goal.at.unite-requires c).After-stripes_of-pair).low_bound);
      high_lt_bound = omega (arith, (pair (goal.at.unite-requires c).After-stripes_of-pair).high_bound);
    }

pub returns : goal.returns
unfolding ◌⊕◌
returns c =
    let e = c.requires in
    let parted = e.parted in
    let walked = e.walked in
    let apart = c.if-parts-low.false in
    let unite = c.unite in
    let extend = c.extend in
    let bound = c.bound-bound.ensures in
    record {
      parts = parted-next e.disk_value (pair (goal.at.returns c).After-stripes_of-pair) parted unite.auto.parts bound unite.ensures;
      ways = walked_next e.disk_value (pair (goal.at.returns c).After-stripes_of-pair) parted walked apart extend.auto.ways bound c.alone-own.ensures extend.ensures;
      answer = answer_link e.disk_value (pair (goal.at.returns c).After-stripes_of-pair) parted walked apart;
    }
