-- `restore::restore` meets its contract, at each of its two ends.
-- Assumes nothing.
use mathlib.Core.Path.{◌∙◌, sym}
use Rattle.stripes.specs.System.{whole}
use Rattle.stripes.specs.Erased.{erasures}
use Rattle.restore.proofs.Judged.{map-sized, few_bytes, all_restored, contradicted}
use Rattle.restore.proofs.restore.Goals as goal

pub returns-then-all_cancel : goal.returns-then-all_cancel
unfolding whole
returns-then-all_cancel c =
    let a = c.args in
    let (h0, h1) = all_restored a.grid.size a.grid.base a.block a.sector a.array.now c.requires.sectored (erasures a.map.now) _ c.requires.peels
    _ c.repair_positions.ensures (sym c.all_cancel.ensures ∙ c.if-all_cancel.true) in
    record {
      answer = h0;
      array = h1;
    }

pub zero_erased-requires : goal.zero_erased-requires
zero_erased-requires c =
    let a = c.args in
    let e = erasures a.map.now in
    record {
      array_len = map-sized a.grid.size a.grid.base a.block a.sector a.array.now c.requires.sectored e _ c.requires.peels _
          c.repair_positions.ensures a.map.now c.requires.map_value;
      array_len_bound = few_bytes a.grid.size a.grid.base a.block a.sector a.array.now c.requires.sectored e _ c.requires.peels _
          c.repair_positions.ensures c.args.grid.numbered.fits;
    }

pub returns : goal.returns
unfolding whole
returns c =
    let a = c.args in
    let (h0, h1) = contradicted a.grid.size a.grid.base a.block a.sector a.array.now c.requires.sectored (erasures a.map.now) _ c.requires.peels
    _ c.repair_positions.ensures (sym c.all_cancel.ensures ∙ c.if-all_cancel.false) _ c.zero_erased.ensures in
    record {
      answer = h0;
      array = h1;
    }
