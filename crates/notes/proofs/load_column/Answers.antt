-- `notes::load_column` meets its contract: the notes are those of the position, and else its bytes are gathered.
-- Assumes nothing.
use mathlib.Core.Path.{◌∙◌, ap, subst}
use mathlib.Core.Bool.{Bool}
use Prim.Native.Nat.{ℕ}
use Rattle.stripes.specs.Erased.{erasures}
use Rattle.stripes.specs.Sectors.{at_position}
use Rattle.stripes.proofs.Erased.{below_all}
use Rattle.tally.proofs.Column.{position_fits, position_erased, position_inside}
use Rattle.notes.specs.Notes.{Loads}
use Rattle.notes.proofs.load_column.Goals as goal

pub returns-then-load : goal.returns-then-load
returns-then-load c =
    let a = c.args in
    let e : ℕ → Bool = at_position a.sectors a.position (erasures a.map.now) in
    let loads = subst (λ (N : ℕ). Loads N a.sheet.now c.load.new.work) c.requires.located.room (c.load.ensures c.if-load.true) in
    record {
      fits = loads.fits;
      erased = loads.erased e c.requires.notes ∙ below_all _ e (position_inside c.requires.located.positioned);
    }

pub returns : goal.returns
returns c =
    let p = c.requires.located.positioned in
    record {
      fits = rw c.gather.ensures (position_fits p);
      erased = ap erasures c.gather.ensures ∙ position_erased p;
    }
