-- `xor::cancel::all_cancel` meets its contract: the parts lie one behind the other, and the last may overlap the one before it.
-- Assumes nothing.
use mathlib.Core.Path.{◌≡◌, ◌∙◌, sym, refl}
use Prim.Native.Nat.{◌-◌, ◌%◌}
use native.Mathlib.Nat.{le_refl}
use native.Mathlib.Omega.{arith}
use borrow.Author.Tests.{eq-eqb}
use Rattle.xor.specs.Parts.{zero_from}
use Rattle.xor.specs.Spots.{total_at}
use Rattle.xor.proofs.Parts.{zero-passes, zero_stops}
use Rattle.xor.proofs.cancel.all_cancel.Goals.{Joined-parts_cancel-2, then-parts_cancel, else-parts_cancel, then-parts_cancel-2, else-parts_cancel-2}
use Rattle.xor.proofs.cancel.all_cancel.Goals as goal

-- What has passed after the parts of 32 bytes, and after those of 16.
middle : (g : _) (c : Joined-parts_cancel-2 g)
    → let a = c.args in c.if-parts_cancel.value ≡ zero_from (total_at (g.S.Stretches.spots a.stretches) a.a.now) a.first (a.len - a.len % 32)
middle g c =
    let u = total_at (g.S.Stretches.spots c.args.stretches) c.args.a.now in
    elim c.if-parts_cancel.branch [
      | then-parts_cancel w ↦
          w.value-is ∙ zero-passes u c.args.first _ _ _ _ _ (le_refl _) (omega arith) refl c.parts_cancel.ensures w.if-parts_cancel.true w.parts_cancel-then-parts_cancel.ensures
      | else-parts_cancel w ↦ w.value-is ∙ zero_stops u c.args.first _ _ (omega arith) c.parts_cancel.ensures w.if-parts_cancel.false
    ]

narrow : (g : _) (c : Joined-parts_cancel-2 g)
    → let a = c.args in c.if-parts_cancel-2.value ≡ zero_from (total_at (g.S.Stretches.spots a.stretches) a.a.now) a.first (a.len - a.len % 16)
narrow g c =
    let u = total_at (g.S.Stretches.spots c.args.stretches) c.args.a.now in
    elim c.if-parts_cancel-2.branch [
      | then-parts_cancel-2 w ↦
          w.value-is ∙ zero-passes u c.args.first _ _ _ _ _ (le_refl _) (omega arith) refl (middle g c) w.if-parts_cancel-2.true w.parts_cancel-then-parts_cancel-2.ensures
      | else-parts_cancel-2 w ↦ w.value-is ∙ zero_stops u c.args.first _ _ (omega arith) (middle g c) w.if-parts_cancel-2.false
    ]

pub returns-else-parts_cancel-3 : goal.returns-else-parts_cancel-3
returns-else-parts_cancel-3 g c =
    zero_stops (total_at (g.S.Stretches.spots c.args.stretches) c.args.a.now) c.args.first _ _ (omega arith)
    (narrow g (goal.at.returns-else-parts_cancel-3 g c).Joined-parts_cancel-2) c.if-parts_cancel-3.false

pub returns-then-len-eq0 : goal.returns-then-len-eq0
returns-then-len-eq0 g c =
    let a = c.args in
    let all : a.len - a.len % 16 ≡ a.len = omega arith in
    eq-eqb _ 0 c.if-len-eq0.true ∙ sym c.if-parts_cancel-3.true ∙ rw all at (narrow g (goal.at.returns-then-len-eq0 g c).Joined-parts_cancel-2)

pub returns-else-len-eq0 : goal.returns-else-len-eq0
returns-else-len-eq0 g c =
    zero-passes (total_at (g.S.Stretches.spots c.args.stretches) c.args.a.now) c.args.first _ _ _ _ _ (omega arith) (omega arith) refl
    (narrow g (goal.at.returns-else-len-eq0 g c).Joined-parts_cancel-2) c.if-parts_cancel-3.true c.parts_cancel-else-len-eq0.ensures
