-- `layout::stripe::Grid::disks_on` meets its contract: a row below the base, a column from there on.
-- Assumes nothing.
use mathlib.Core.Path.{◌∙◌, sym, ap, ap₂}
use Prim.Native.Nat.{ℕ, ◌*◌, ◌-◌}
use native.Mathlib.Nat.{mul-le-mul}
use native.Mathlib.Omega.{arith}
use borrow.Author.Tests.{lt-ltb, le-ltb}
use Rattle.layout.specs.Stripe.{disks_on}
use Rattle.layout.proofs.stripe.Grid.disks_on.Goals as goal

pub across-across-requires : goal.across-across-requires
across-across-requires c = c.args.self.numbered.fits

pub down-down-requires : goal.down-down-requires
down-down-requires c = c.args.self.numbered.fits

pub overflow_mul-result : goal.overflow_mul-result
overflow_mul-result c =
    let small = c.args.self.numbered.small in
    let e = c.across-across.ensures in
    let low = c.if-stripe-self.true in
    let product = mul-le-mul {n₁ = c.args.stripe} {m₁ = c.across-across.result} {n₂ = 64} {m₂ = 64} (omega arith) (omega arith) in
    omega arith

pub returns-then-stripe-self : goal.returns-then-stripe-self
unfolding disks_on
returns-then-stripe-self c =
    let s = c.args in
    ap (λ (w : ℕ). record { first = s.stripe * w; step = 1; count = w }) c.across-across.ensures
    ∙ sym (simp (lt-ltb s.stripe s.self.base c.if-stripe-self.true))

pub returns : goal.returns
unfolding disks_on
returns c =
    let s = c.args in
    ap₂ (λ (w h : ℕ). record { first = s.stripe - s.self.base; step = w; count = h }) c.across-across.ensures c.down-down.ensures
    ∙ sym (simp (le-ltb s.stripe s.self.base c.if-stripe-self.false))
