-- `refusal::size_fits` meets its contract: each test is one of the definition's.
-- Assumes nothing.
use mathlib.Core.Path.{◌∙◌, sym, ap}
use mathlib.Core.Bool.{Bool, ◌&&◌}
use borrow.Author.Rules.{rules}
use Rattle.model.specs.Grid.{columns, side_fits, size_fits}
use Rattle.refusal.proofs.size_fits.Goals as goal

pub rows-rows-requires : goal.rows-rows-requires
rows-rows-requires c = search rules

pub returns-then-not-side_fits : goal.returns-then-not-side_fits
unfolding size_fits
returns-then-not-side_fits c =
    let few = sym (c.side_fits.ensures ∙ ap side_fits c.rows-rows.ensures) ∙ c.if-not-side_fits.true in
    sym (ap (λ (t : Bool). t && side_fits (columns c.args.size)) few)

pub returns : goal.returns
unfolding size_fits
returns c =
    let row = sym (c.side_fits.ensures ∙ ap side_fits c.rows-rows.ensures) ∙ c.if-not-side_fits.false in
    c.side_fits-2.ensures ∙ ap side_fits c.columns-columns.ensures
    ∙ sym (ap (λ (t : Bool). t && side_fits (columns c.args.size)) row)
