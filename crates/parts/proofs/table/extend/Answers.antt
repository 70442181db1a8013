-- `parts::table::extend` meets its contract: the loop changes one way after the other.
-- Assumes nothing.
use mathlib.Core.Path.{ap₂}
use Prim.Native.Nat.{ℕ}
use native.Mathlib.Nat.{le_refl}
use borrow.Author.Rules.{rules}
use Rattle.stripes.specs.Fold.{◌⊕◌}
use Rattle.parts.proofs.Filled.{filled_next}
use Rattle.parts.proofs.table.extend.Goals as goal

pub loop-s-preserved : goal.loop-s-preserved
unfolding ◌⊕◌
loop-s-preserved c =
    let filled = c.loop-s.invariant in
    filled_next filled _ (search rules) (ap₂ (λ (x y : ℕ). x ⊕ y) (filled.rest _ (le_refl _)) c.added.ensures)
