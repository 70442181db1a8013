-- `demands::check_array` meets its contract: what check promises is what demand 2 is proved of.
-- Assumes nothing.
use mathlib.Core.Path.{sym, subst}
use Rattle.model.specs.Array.{check_status}
use Rattle.model.specs.Demand2.{CheckDemand}
use Rattle.model.specs.Checked.{Checked}
use Rattle.model.proofs.Demand2.{check_demand}
use Rattle.demands.proofs.check_array.Goals as goal

pub returns : goal.returns
returns c =
    let a = c.args in
    let answer = c.check.ensures in
    record {
      answer = answer;
      demand2 = λ ok. subst (λ (o : Checked). CheckDemand a.size a.block a.array.now (check_status o)) (sym answer)
          (check_demand a.size a.block a.array.now ok);
    }
