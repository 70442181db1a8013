-- `xor::put::difference` meets its contract: the loop takes one difference after the other.
-- Assumes nothing.
use mathlib.Core.Path.{◌∙◌, refl, sym, ap₂}
use mathlib.Core.List.{List}
use Prim.Native.Nat.{ℕ}
use native.Mathlib.Nat.{zero-add}
use native.Mathlib.Omega.{arith}
use lib.ListN.{set, length-replicate}
use Rattle.stripes.specs.Fold.{◌⊕◌}
use Rattle.zeros.proofs.Stored.{stored-none, stored_next}
use Rattle.xor.proofs.Parts.{differ, stored_at}
use Rattle.xor.proofs.put.difference.Goals as goal

pub loop-i-init : goal.loop-i-init
loop-i-init g c = stored-none _ 0 _

pub loop-i-preserved : goal.loop-i-preserved
unfolding ◌⊕◌
loop-i-preserved g c =
    let a = c.args in
    let l = c.loop-i in
    ap₂ (λ (x : List ℕ) (k : ℕ). set x k (differ a.a.now a.at a.b.now a.from l.i)) l.invariant (sym (zero-add l.i)) ∙ stored_next _ 0 l.i _ _ refl (omega (arith, length-replicate {A = ℕ} g.row.W 0))

pub returns : goal.returns
returns g c =
    let a = c.args in
    let l = c.loop-i in
    stored_at _ (differ a.a.now a.at a.b.now a.from) g.row.W l.i l.r l.invariant (omega arith) (omega (arith, length-replicate {A = ℕ} g.row.W 0))
