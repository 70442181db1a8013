-- `xor::cancel::few_cancel` meets its contract: the bytes that go one at a time lie behind those that go eight at a time.
-- Assumes nothing.
use mathlib.Core.Path.{refl}
use native.Mathlib.Nat.{le_refl}
use native.Mathlib.Omega.{arith}
use Rattle.xor.specs.Spots.{total_at}
use Rattle.xor.proofs.Parts.{zero-passes, zero_stops}
use Rattle.xor.proofs.cancel.few_cancel.Goals as goal

pub returns-then-parts_cancel : goal.returns-then-parts_cancel
returns-then-parts_cancel g c =
    zero-passes (total_at (g.S.Stretches.spots c.args.stretches) c.args.a.now) c.args.first _ _ _ _ _ (le_refl _) (omega arith) refl
    c.parts_cancel.ensures c.if-parts_cancel.true c.parts_cancel-then-parts_cancel.ensures

pub returns-else-parts_cancel : goal.returns-else-parts_cancel
returns-else-parts_cancel g c =
    zero_stops (total_at (g.S.Stretches.spots c.args.stretches) c.args.a.now) c.args.first _ _ (omega arith) c.parts_cancel.ensures c.if-parts_cancel.false
