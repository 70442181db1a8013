-- `layout::stripe::Grid::has_disks` meets its contract: rows below the base, columns from there on.
-- Assumes nothing.
use mathlib.Core.Path.{◌∙◌, ap}
use Prim.Native.Nat.{◌-◌}
use lib.Dec.{ltb}
use Rattle.layout.proofs.Runs.{row-held, column-held}
use Rattle.layout.proofs.stripe.Grid.has_disks.Goals as goal

pub across-across-requires : goal.across-across-requires
across-across-requires c = c.args.self.numbered.fits

pub down-down-requires : goal.down-down-requires
down-down-requires c = c.args.self.numbered.fits

pub returns-then-stripe-self : goal.returns-then-stripe-self
returns-then-stripe-self c =
    let s = c.args in
    ap (ltb s.stripe) c.down-down.ensures ∙ row-held s.self.size s.self.base s.stripe c.if-stripe-self.true

pub returns : goal.returns
returns c =
    let a = c.args in
    ap (ltb (a.stripe - a.self.base)) c.across-across.ensures ∙ column-held a.self.size a.self.base c.args.self.numbered.above a.stripe c.if-stripe-self.false
