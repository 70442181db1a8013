-- `sums::cut::fill` meets its contract: what the list picks is what crosses, and an erased disk is not among it.
-- Assumes nothing.
use mathlib.Core.Path.{◌∙◌}
use Rattle.stripes.specs.Erased.{erasures}
use Rattle.sums.specs.Cut.{in_part}
use Rattle.sums.proofs.Cuts.{cut_beside, cut-filled}
use Rattle.sums.proofs.cut.fill.Goals as goal

pub fill-requires : goal.fill-requires
fill-requires c =
    let a = c.args in
    let l = c.list_cut-count in
    cut_beside a.grid.size a.grid.base a.stretch a.array.now c.requires.held (erasures a.map.now) (in_part a.parts.now a.name)
    l.new.list l.result l.ensures a.disk c.requires.disk_bound c.requires.disk_value

pub returns : goal.returns
returns c =
    let a = c.args in
    let l = c.list_cut-count in
    c.fill.ensures
    ∙ cut-filled a.grid.size a.grid.base a.stretch a.array.now c.requires.held (erasures a.map.now) (in_part a.parts.now a.name)
    l.new.list l.result l.ensures a.disk c.requires.disk_bound c.requires.disk_value
