-- `tally::load::load_position` meets its contract: with one sector a block the map is its only position.
-- Assumes nothing.
use mathlib.Core.Path.{◌∙◌, ap}
use native.Mathlib.Omega.{arith}
use Rattle.stripes.specs.Erased.{erasures}
use Rattle.model.proofs.Grid.{map-length}
use Rattle.tally.proofs.Column.{one-fits, one-erased, position_erased}
use Rattle.tally.proofs.load.load_position.Goals as goal

pub copy-requires : goal.copy-requires
copy-requires c =
    let p = c.requires in
    let same = p.room in
    let long = map-length _ _ (one-fits p.positioned c.if-sectors-eq1.true) in
    omega arith

pub returns-then-sectors-eq1 : goal.returns-then-sectors-eq1
returns-then-sectors-eq1 c =
    c.copy.ensures ∙ one-erased c.requires.positioned c.if-sectors-eq1.true

pub returns-else-sectors-eq1 : goal.returns-else-sectors-eq1
returns-else-sectors-eq1 c =
    ap erasures c.gather.ensures ∙ position_erased c.requires.positioned
