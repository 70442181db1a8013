-- `xor::put::put` meets its contract: the loop stores one byte after the other.
-- Assumes nothing.
use mathlib.Core.Path.{◌∙◌, refl, ap}
use mathlib.Core.List.{List}
use Prim.Native.Nat.{ℕ, ◌+◌}
use native.Mathlib.Omega.{arith}
use lib.ListN.{get_or, set}
use Rattle.zeros.proofs.Stored.{stored-none, stored_next}
use Rattle.xor.proofs.put.put.Goals as goal

pub loop-i-init : goal.loop-i-init
loop-i-init g c = stored-none _ _ _

pub loop-i-preserved : goal.loop-i-preserved
loop-i-preserved g c =
    let a = c.args in
    let l = c.loop-i in
    ap (λ (x : List ℕ). set x (a.at + l.i) (get_or a.v.now l.i 0)) l.invariant ∙ stored_next a.a.now a.at l.i (λ j. get_or a.v.now j 0) _ refl (omega arith)
