-- `sums::cut::cancels` meets its contract: what the list picks is what crosses.
-- Assumes nothing.
use mathlib.Core.Path.{◌∙◌}
use Rattle.stripes.specs.Erased.{erasures}
use Rattle.sums.specs.Cut.{in_part}
use Rattle.sums.proofs.Cuts.{cut-start, cut-chosen, cut-cancelled}
use Rattle.sums.proofs.cut.cancels.Goals as goal

pub cancels-requires : goal.cancels-requires
cancels-requires c =
    let a = c.args in
    let l = c.list_cut-count in
    record {
      chosen = cut-chosen a.grid.size a.grid.base a.stretch a.array.now c.requires.held (erasures a.map.now) (in_part a.parts.now a.name)
          l.new.list l.result l.ensures;
      len_in_bounds = cut-start a.grid.size a.stretch a.array.now c.requires.held;
    }

pub returns : goal.returns
returns c =
    let a = c.args in
    let l = c.list_cut-count in
    c.cancels.ensures
    ∙ cut-cancelled a.grid.size a.grid.base a.stretch a.array.now c.requires.held (erasures a.map.now) (in_part a.parts.now a.name)
    l.new.list l.result l.ensures
