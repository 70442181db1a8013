-- `xor::picked::fill` meets its contract: stretches at the numbers of a list are clear of one at another number.
-- Assumes nothing.
use mathlib.Core.Path.{◌∙◌}
use Prim.Native.Nat.{◌+◌, ◌*◌}
use Rattle.zeros.proofs.Stored.{stored_ext}
use Rattle.xor.specs.Picked.{picked_filled}
use Rattle.xor.proofs.Listed.{picked_total, picked_clear}
use Rattle.xor.proofs.picked.fill.Goals as goal

pub fill_from-requires : goal.fill_from-requires
fill_from-requires c = picked_clear c.args.step c.args.list.now c.args.count c.requires.chosen.listed c.requires

pub returns : goal.returns
unfolding picked_filled
returns c =
    let a = c.args in
    c.fill_from.ensures
    ∙ stored_ext a.a.now (a.first + a.target * a.step) a.len (λ i b. picked_total a.step a.list.now a.count c.requires.chosen.listed a.a.now (a.first + i))
