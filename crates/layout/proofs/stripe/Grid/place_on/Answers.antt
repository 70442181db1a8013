-- `layout::place_on` meets its contract: the column on a row, the row on a column.
-- Assumes nothing.
use mathlib.Core.Path.{◌∙◌, sym, ap}
use Prim.Native.Nat.{ℕ, ◌/◌, ◌%◌}
use native.Mathlib.Omega.{arith}
use borrow.Author.Tests.{lt-ltb, le-ltb}
use Rattle.model.proofs.Grid.{across_positive}
use Rattle.layout.specs.Stripe.{place_on}
use Rattle.layout.proofs.stripe.Grid.place_on.Goals as goal

pub across-across-requires : goal.across-across-requires
across-across-requires c = c.args.self.numbered.fits

pub nonzero_rem-result : goal.nonzero_rem-result
nonzero_rem-result c = let h = across_positive c.args.self.size in let e = c.across-across.ensures in omega arith

pub returns-then-stripe-self : goal.returns-then-stripe-self
unfolding place_on
returns-then-stripe-self c =
    let s = c.args in
    ap (λ (w : ℕ). s.disk % w) c.across-across.ensures ∙ sym (simp (lt-ltb s.stripe s.self.base c.if-stripe-self.true))

pub nonzero_div-result : goal.nonzero_div-result
nonzero_div-result c = let h = across_positive c.args.self.size in let e = c.across-across.ensures in omega arith

pub returns : goal.returns
unfolding place_on
returns c =
    let s = c.args in
    ap (λ (w : ℕ). s.disk / w) c.across-across.ensures ∙ sym (simp (le-ltb s.stripe s.self.base c.if-stripe-self.false))
