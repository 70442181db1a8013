-- `refusal::sector_fits` meets its contract: each test is one of the definition's.
-- Assumes nothing.
use mathlib.Core.Path.{sym, ap}
use mathlib.Core.Bool.{Bool, ◌&&◌}
use Prim.Native.Nat.{◌%◌}
use borrow.Author.Tests.{lt-leb, le-leb}
use lib.Dec.{eqb}
use Rattle.model.specs.Grid.{sector_fits}
use Rattle.refusal.proofs.sector_fits.Goals as goal

pub returns-then-sector-lt-SECTORS_MIN : goal.returns-then-sector-lt-SECTORS_MIN
unfolding sector_fits
returns-then-sector-lt-SECTORS_MIN c =
    let a = c.args in sym (ap (λ (t : Bool). t && eqb (a.block % a.sector) 0) (lt-leb 1 a.sector c.if-sector-lt-SECTORS_MIN.true))

pub returns : goal.returns
unfolding sector_fits
returns c =
    let a = c.args in sym (ap (λ (t : Bool). t && eqb (a.block % a.sector) 0) (le-leb 1 a.sector c.if-sector-lt-SECTORS_MIN.false))
