-- `xor::picked::cancels` meets its contract: stretches at the numbers of a list are stretches that are summed.
-- Assumes nothing.
use mathlib.Core.Path.{◌∙◌, ap}
use Prim.Native.Nat.{ℕ, ◌+◌}
use lib.Dec.{eqb}
use Rattle.stripes.proofs.Fold.{every_ext}
use Rattle.xor.specs.Picked.{picked_cancelled}
use Rattle.xor.proofs.Listed.{picked_total}
use Rattle.xor.proofs.picked.cancels.Goals as goal

pub returns : goal.returns
unfolding picked_cancelled
returns c =
    let a = c.args in
    c.all_cancel.ensures
    ∙ every_ext a.len (λ i b. ap (λ (x : ℕ). eqb x 0) (picked_total a.step a.list.now a.count c.requires.chosen.listed a.a.now (a.first + i)))
