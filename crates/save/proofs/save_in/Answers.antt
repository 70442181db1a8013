-- `save::save_in` meets its contract: the position is loaded, and its determined disks are saved.
-- Assumes nothing.
use native.Mathlib.Omega.{arith}
use Rattle.survivors.proofs.ByPosition.{loaded_inside}
use Rattle.save.proofs.save_in.Goals as goal

pub tally-erased-requires : goal.tally-erased-requires
tally-erased-requires c =
    let p = c.requires in
    let located = p.located in
    let long = located.room in
    let room = p.room in
    let table = room.table_fits in
    let kept = c.load_position.auto.work in
    record {
      size_in_bounds = omega arith;
      by_index = loaded_inside located.positioned _ c.load_position.ensures;
      work_in_bounds = omega arith;
      stripe_limit_in_bounds = room.stripes_fit;
    }

pub save_determined-requires : goal.save_determined-requires
save_determined-requires c =
    let p = c.requires in
    let record { number = number; tallied = tallied } = c.tally-erased.ensures in
    let fit = rw (← c.load_position.ensures) at p.array_value in
    record {
      held = p.held;
      erased_value = number;
      tallied = tallied;
      capacity_in_bounds = p.room.list_fits;
      array_value = fit;
    }

pub returns : goal.returns
returns c =
    record {
      number = rw (← c.load_position.ensures) c.save_determined.ensures.number;
      array = rw (← c.load_position.ensures) c.save_determined.ensures.array;
    }
