-- `demands::save_sectors` meets its contract: what save promises is what the theorems about it are proved of.
-- Assumes nothing.
use mathlib.Core.Path.{sym, ◌∙◌, ap}
use native.Mathlib.Omega.{arith}
use Rattle.stripes.specs.System.{Bytes}
use Rattle.model.specs.Save.{saving_status}
use Rattle.model.proofs.Save.{save_demand, save_as_rebuild}
use Rattle.model.proofs.Single.{save_single}
use Rattle.model.proofs.ByPosition.{save_alone}
use Rattle.demands.proofs.save_sectors.Goals as goal

pub returns : goal.returns
returns c =
    let a = c.args in
    let found = c.slice_known-1.given in
    let small : Bytes a.array.now = λ i l. omega (arith, found i) in
    let record { answer = answer; array = array } = c.save.ensures in
    record {
      answer = answer;
      array = array;
      demand = λ ok. rw (answer, array) (save_demand a.size a.block a.sector a.array.now a.map.now ok small);
      rebuilt = λ fine sheets long k some enough.
          rw (answer, array) (save_as_rebuild a.size a.block a.sector a.array.now a.map.now fine small sheets long k some enough);
      single = λ one.
          let (same, left) = save_single a.size a.block a.array.now a.map.now in
          rw (answer, array, one) (same, left);
      alone = λ accepted.
          rw array
          (save_alone a.size a.block a.sector a.array.now a.map.now (sym (ap saving_status answer) ∙ accepted));
    }
