-- `smallest::near::cut` meets its contract: the loop stores what is left of one word after the other.
-- Assumes nothing.
use mathlib.Core.Path.{◌≡◌, refl, ◌∙◌, ap}
use mathlib.Core.List.{List}
use Prim.Native.Nat.{ℕ}
use native.Mathlib.Omega.{arith}
use lib.ListN.{length-set}
use Rattle.zeros.specs.Stored.{stored}
use Rattle.zeros.proofs.Stored.{stored-none}
use Rattle.neighbours.specs.Near.{toggled}
use Rattle.smallest.specs.Leads.{cut_table}
use Rattle.smallest.proofs.Cutting.{sides, sides_next}
use Rattle.smallest.proofs.near.cut.Goals as goal

pub loop-s-init : goal.loop-s-init
loop-s-init c = (stored-none _ _ _, refl)

pub loop-s-preserved : goal.loop-s-preserved
loop-s-preserved c =
    let l = c.loop-s in
    let (is, long) = l.invariant in
    (sides_next _ _ _ is (omega arith) c.has.ensures c.side.ensures, simp length-set long)

pub returns : goal.returns
unfolding cut_table
returns c =
    let a = c.args in
    let l = c.loop-s in
    let end : l.s ≡ 64 = omega arith in
    c.toggle.ensures
    ∙ ap (λ (m : List ℕ). toggled m a.pair.low a.pair.high)
    (l.invariant.0 ∙ ap (λ (n : ℕ). stored a.near.now 0 n (sides a.near.now a.inside)) end)
