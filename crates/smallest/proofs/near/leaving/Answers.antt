-- `smallest::near::leaving` meets its contract.
-- Assumes nothing.
use mathlib.Core.Path.{sym, ◌∙◌}
use Prim.Native.Nat.{ℕ}
use borrow.Author.Tests.{ne_eqb}
use Rattle.smallest.specs.Leads.{leaving_of}
use Rattle.smallest.proofs.near.leaving.Goals as goal

pub returns-then-out-eq0 : goal.returns-then-out-eq0
unfolding leaving_of
returns-then-out-eq0 c = let none = sym c.side-out.ensures ∙ c.if-out-eq0.true in rw none

pub returns : goal.returns
unfolding leaving_of
returns c =
    let out : ℕ = c.side-out.result in
    rw (← c.side-out.ensures, c.one.ensures, ne_eqb out 0 c.if-out-eq0.false)
