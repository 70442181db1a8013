-- `wanted::side::is_in` meets its contract: the lower stripe of the disk has its place in the table of parts.
-- Assumes nothing.
use mathlib.Core.Path.{sym, ap}
use Prim.Native.Nat.{ℕ}
use lib.Dec.{eqb}
use lib.ListN.{get_or}
use Rattle.model.specs.Grid.{layout_of}
use Rattle.layout.proofs.Runs.{numbered_two}
use Rattle.tally.proofs.Counted.{Crossed, erased_crossed}
use Rattle.parts.proofs.Parted.{crossed_places, lower_crossed}
use Rattle.wanted.proofs.side.is_in.Goals.{After-stripes_of-pair}
use Rattle.wanted.proofs.side.is_in.Goals as goal

-- The disk with its stripes.
pair : (c : goal.After-stripes_of-pair) →
    let a = c.args in
    Crossed (layout_of a.grid.size a.grid.base) a.disk c.stripes_of-pair.result.low c.stripes_of-pair.result.high
pair c =
    erased_crossed c.requires.table _ c.requires.disk_value (numbered_two c.args.grid.numbered) c.stripes_of-pair.ensures

pub bounds-parts-low : goal.bounds-parts-low
bounds-parts-low c = (crossed_places (pair (goal.at.bounds-parts-low c).After-stripes_of-pair) c.requires.base_in_bounds).0

pub returns : goal.returns
returns c =
    let a = c.args in
    ap (λ (s : ℕ). eqb (get_or a.parts.now s 0) a.name) (sym (lower_crossed (pair (goal.at.returns c).After-stripes_of-pair)))
