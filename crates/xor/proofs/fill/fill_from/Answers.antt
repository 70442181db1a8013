-- `xor::fill::fill_from` meets its contract: the parts lie one behind the other, and the last may overlap the one before it.
-- Assumes nothing.
use mathlib.Core.Path.{◌≡◌, refl}
use Prim.Native.Nat.{◌+◌, ◌*◌, ◌-◌, ◌/◌, ◌%◌}
use native.Mathlib.Nat.{le_refl}
use native.Mathlib.Omega.{arith}
use Rattle.xor.specs.Parts.{stored_from}
use Rattle.xor.specs.Spots.{total_at}
use Rattle.xor.proofs.Parts.{filled_then}
use Rattle.xor.proofs.Spots.{clear_aside}
use Rattle.xor.proofs.fill.fill_from.Goals.{After-fill_parts-3}
use Rattle.xor.proofs.fill.fill_from.Goals as goal

-- What is filled after the parts of 16 bytes.
narrow : (g : _) (c : After-fill_parts-3 g)
    → let a = c.args in
    c.fill_parts-3.new.a ≡ stored_from a.a.now (a.first + a.gap) (total_at (g.S.Stretches.spots a.stretches) a.a.now) a.first (a.len - a.len % 16)
narrow g c =
    let a = c.args in
    let s = clear_aside c.requires in
    let middle = filled_then s _ (128 * (a.len / 128)) _ (a.len - a.len % 32) _ _ _ _ (omega arith) (le_refl _) (omega arith) (omega arith)
    c.fill_parts.ensures refl (omega arith) c.fill_parts-2.ensures in
    filled_then s _ (a.len - a.len % 32) _ _ _ _ _ _ (omega arith) (le_refl _) (omega arith) (omega arith) middle refl (omega arith) c.fill_parts-3.ensures

pub returns-then-len-eq0 : goal.returns-then-len-eq0
returns-then-len-eq0 g c =
    let a = c.args in
    let all : a.len - a.len % 16 ≡ a.len = omega arith in
    rw all at (narrow g (goal.at.returns-then-len-eq0 g c).After-fill_parts-3)

pub returns : goal.returns
returns g c =
    filled_then (clear_aside c.requires) _ (c.args.len - 16) _ _ _ _ _ _ (omega arith) (omega arith) (omega arith) (omega arith)
    (narrow g (goal.at.returns g c).After-fill_parts-3) refl (omega arith) c.fill_parts-4.ensures
