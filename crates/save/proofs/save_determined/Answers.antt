-- `save::save_determined` meets its contract: repairs as far as they reach, and sums for the rest. No disk's number is the
-- length of the working map, so none is held back.
-- Assumes nothing.
use native.Mathlib.Omega.{arith}
use Rattle.stripes.specs.System.{Bytes}
use Rattle.stripes.specs.Erased.{erasures}
use Rattle.order.proofs.Held.{none-held}
use Rattle.restore.proofs.Judged.{on-disks, on_stripes, still_held}
use Rattle.save.proofs.Answers.{peels, made-few, number-few, all_saved}
use Rattle.save.proofs.save_determined.Goals.{After-peel-made}
use Rattle.save.proofs.save_determined.Goals as goal

pub peel-made-requires : goal.peel-made-requires
peel-made-requires c =
    let p = c.requires in
    record {
      erased_value = p.erased_value;
      tallied_2 = p.tallied;
      capacity_in_bounds = p.capacity_in_bounds;
    }

pub repair_all-requires : goal.repair_all-requires
repair_all-requires c =
    let a = c.args in
    let p = c.peel-made in
    let e = erasures a.work.now in
    let list = p.new.list in
    let (number, (left, (entries, tallied))) = none-held c.requires.tallied.table.disks_fit _ _ (p.ensures.number, (p.ensures.left, (p.ensures.list, p.ensures.tallied))) in
    let allowed = peels a.grid.size a.grid.base c.args.grid.numbered e list p.result number entries in
    let few = made-few a.grid.size a.grid.base c.args.grid.numbered e list p.result number entries in
    let room = c.requires.capacity_in_bounds in
    let kept = p.auto.list in
    record {
      held = c.requires.held;
      count_in_bounds = omega arith;
      by_index = on-disks a.grid.size a.grid.base e list p.result allowed;
      by_index_2 = on_stripes a.grid.size a.grid.base e list p.result allowed;
    }

pub sum_rest-requires : goal.sum_rest-requires
sum_rest-requires c =
    let a = c.args in
    let p = c.peel-made in
    let e = erasures a.work.now in
    let list = p.new.list in
    let (number, (left, (entries, tallied))) = none-held c.requires.tallied.table.disks_fit _ _ (p.ensures.number, (p.ensures.left, (p.ensures.list, p.ensures.tallied))) in
    let allowed = peels a.grid.size a.grid.base c.args.grid.numbered e list p.result number entries in
    record {
      held = still_held a.grid.size a.grid.base e list p.result allowed a.stretch a.array.now c.requires.held _ c.repair_all.ensures;
      table = tallied.table;
    }

pub overflow_add-result : goal.overflow_add-result
overflow_add-result c =
    let a = c.args in
    let p = c.peel-made in
    let (number, (left, (entries, tallied))) = none-held c.requires.tallied.table.disks_fit _ _ (p.ensures.number, (p.ensures.left, (p.ensures.list, p.ensures.tallied))) in
    let few =
    number-few a.grid.size a.grid.base c.args.grid.numbered (erasures a.work.now) p.new.list p.result number entries _ c.sum_rest.ensures.number in
    omega arith

-- The array that is passed holds bytes.
small : (c : goal.After-peel-made) → Bytes c.args.array.now
small c = λ i l. (c.type_inv.array i).fits

pub returns : goal.returns
returns c =
    let a = c.args in
    let p = c.peel-made in
    let (number, (left, (entries, tallied))) = none-held c.requires.tallied.table.disks_fit _ _ (p.ensures.number, (p.ensures.left, (p.ensures.list, p.ensures.tallied))) in
    let small = small (goal.at.returns c).After-peel-made in
    let summed = c.sum_rest.ensures in
    let (h0, h1) = all_saved a.grid.size a.grid.base c.args.grid.numbered (erasures a.work.now) p.new.list p.result number entries a.stretch a.array.now
    c.requires.held small c.requires.array_value c.repair_all.ensures left summed.number summed.array in
    record {
      number = h0;
      array = h1;
    }
