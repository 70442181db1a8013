-- `layout::stripe::Grid::other_at` meets its contract: the column of a disk of a row, the row of a disk of a column.
-- Assumes nothing.
use native.Mathlib.Omega.{arith}
use borrow.Author.Tests.{lt-ltb}
use Rattle.layout.specs.Stripe.{disks_on}
use Rattle.layout.proofs.Runs.{row_other, column-other}
use Rattle.layout.proofs.stripe.Grid.other_at.Goals as goal

pub overflow_add-result : goal.overflow_add-result
unfolding disks_on
overflow_add-result c =
    let small = c.args.self.numbered.small in
    let inside = rw (lt-ltb c.args.stripe c.args.self.base c.if-stripe-self.true) at c.requires.k_bound in
    omega arith

pub returns-then-stripe-self : goal.returns-then-stripe-self
returns-then-stripe-self c =
    row_other c.args.self.size c.args.self.base c.args.self.numbered.above c.args.stripe c.args.k c.if-stripe-self.true c.requires.k_bound

pub returns : goal.returns
returns c =
    column-other c.args.self.size c.args.self.base c.args.self.numbered.above c.args.stripe c.args.k c.if-stripe-self.false c.requires.stripe_value c.requires.k_bound
