-- `demands::seal_array` meets its contract: what seal promises is what demand 2 is proved of.
-- Assumes nothing.
use mathlib.Core.Path.{◌∙◌, sym, subst}
use Rattle.model.specs.Demand2.{SealDemand}
use Rattle.model.proofs.Demand2.{seal_demand}
use Rattle.demands.proofs.seal_array.Goals as goal

pub returns : goal.returns
returns c =
    let a = c.args in
    let record { status = status; array = array } = c.seal.ensures in
    record {
      status = status;
      array = array;
      demand2 = λ ok. subst (SealDemand a.size a.block a.array.now) (sym array)
          (seal_demand a.size a.block a.array.now (sym status ∙ ok));
    }
