-- `demands::look_block` meets its contract: what look promises is what the theorems about it are proved of.
-- Assumes nothing.
use Rattle.model.proofs.Look.{look_takes}
use Rattle.model.proofs.Single.{look_single}
use Rattle.demands.proofs.look_block.Goals as goal

pub returns : goal.returns
returns c =
    let a = c.args in
    let record { bytes = bytes; place = place } = c.look.ensures in
    record {
      bytes = bytes;
      place = place;
      present = look_takes a.size a.block a.sector a.array.now a.map.now a.disk;
      single = λ one. rw one (look_single a.size a.block a.array.now a.map.now a.disk);
    }
