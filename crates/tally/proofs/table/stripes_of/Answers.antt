-- `tally::table::stripes_of` meets its contract: the table has the stripes of the disk.
-- Assumes nothing.
use mathlib.Core.Path.{sym, ◌∙◌, ap₂}
use mathlib.Core.List.{[], ◌∷◌}
use Prim.Native.Nat.{ℕ}
use Rattle.tally.proofs.Counted.{erased-inside, table-place}
use Rattle.tally.proofs.table.stripes_of.Goals as goal

pub read-requires : goal.read-requires
read-requires c = let p = c.requires in table-place p.table _ p.disk_value

pub returns : goal.returns
returns c =
    c.requires.table.listed c.args.disk (erased-inside c.requires.table _ c.requires.disk_value) c.requires.disk_value
    ∙ sym (ap₂ (λ (a b : ℕ). a ∷ b ∷ []) c.read.ensures.low c.read.ensures.high)
