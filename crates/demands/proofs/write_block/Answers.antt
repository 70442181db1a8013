-- `demands::write_block` meets its contract: what write promises is what demand 2 is proved of.
-- Assumes nothing.
use mathlib.Core.Path.{◌∙◌, sym, subst}
use Rattle.model.specs.Demand2.{WriteDemand}
use Rattle.model.proofs.Demand2.{write_demand}
use Rattle.demands.proofs.write_block.Goals as goal

pub returns : goal.returns
returns c =
    let a = c.args in
    let record { status = status; array = array } = c.write.ensures in
    record {
      status = status;
      array = array;
      demand2 = λ ok. subst (WriteDemand a.size a.block a.array.now a.disk a.«data».now) (sym array)
          (write_demand a.size a.block a.array.now a.disk a.«data».now (sym status ∙ ok));
    }
