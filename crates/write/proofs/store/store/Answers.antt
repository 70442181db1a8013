-- `write::store::store` meets its contract: the parts take in every place of the block.
-- Assumes nothing.
use mathlib.Core.Path.{refl}
use native.Mathlib.Omega.{arith}
use Rattle.model.proofs.Write.{write_fits}
use Rattle.write.proofs.Turns.{room, bytes-written, parts_written}
use Rattle.write.proofs.store.store.Goals as goal

pub find_places-at-requires : goal.find_places-at-requires
find_places-at-requires c =
    let fits = write_fits _ _ _ _ _ c.requires in
    record {
      size_value = fits.array.size;
      block_value = fits.array.block;
      disk_value = fits.disk;
    }

pub store_parts-requires : goal.store_parts-requires
store_parts-requires c = rw c.find_places-at.ensures (room _ _ _ _ _ (write_fits _ _ _ _ _ c.requires) refl _ (omega arith))

pub returns-then-block-lt16 : goal.returns-then-block-lt16
returns-then-block-lt16 c = bytes-written _ _ _ _ _ (write_fits _ _ _ _ _ c.requires) _ (rw c.find_places-at.ensures at c.store_parts.ensures)

pub store_parts-requires-2 : goal.store_parts-requires-2
store_parts-requires-2 c = rw c.find_places-at.ensures (room _ _ _ _ _ (write_fits _ _ _ _ _ c.requires) refl _ (omega arith))

pub store_parts-requires-3 : goal.store_parts-requires-3
store_parts-requires-3 c = rw c.find_places-at.ensures (room _ _ _ _ _ (write_fits _ _ _ _ _ c.requires) (omega arith) _ (omega arith))

pub store_parts-requires-4 : goal.store_parts-requires-4
store_parts-requires-4 c = rw c.find_places-at.ensures (room _ _ _ _ _ (write_fits _ _ _ _ _ c.requires) (omega arith) _ (omega arith))

pub returns : goal.returns
returns c =
    let is = c.find_places-at.ensures in
    parts_written _ _ _ _ _ (write_fits _ _ _ _ _ c.requires) _ (omega arith) refl _ _ _ (rw is at c.store_parts-2.ensures) (rw is at c.store_parts-3.ensures) (rw is at c.store_parts-4.ensures)
