-- `refusal::test_sheets` meets its contract: each return is the first test that fails.
-- Assumes nothing.
use mathlib.Core.Path.{◌∙◌, sym}
use native.Mathlib.Omega.{arith}
use borrow.Author.Tests.{eq-eqb, ne_eqb}
use Rattle.model.specs.Plan.{sheet_tests}
use Rattle.model.proofs.Grid.{sectors-bound}
use Rattle.model.proofs.Refusal.{no_tests, fails, passes}
use Rattle.model.specs.Answers.{number, status_of}
use Rattle.refusal.proofs.test_sheets.Goals as goal

pub returns-then-not-map_fits : goal.returns-then-not-map_fits
unfolding sheet_tests status_of number
returns-then-not-map_fits c = sym (fails 4 _ _ (sym c.map_fits.ensures ∙ c.if-not-map_fits.true))

pub overflow_mul-sectors : goal.overflow_mul-sectors
overflow_mul-sectors c = let few = (sectors-bound c.args.sectors c.requires.sectors_value).1 in omega arith

pub returns-then-len-sectors : goal.returns-then-len-sectors
unfolding sheet_tests status_of number
returns-then-len-sectors c =
    let map = sym c.map_fits.ensures ∙ c.if-not-map_fits.false in
    sym (passes 4 _ _ map ∙ fails 5 _ _ (ne_eqb _ _ c.if-len-sectors.true))

pub returns : goal.returns
unfolding sheet_tests status_of number
returns c =
    let map = sym c.map_fits.ensures ∙ c.if-not-map_fits.false in
    sym (passes 4 _ _ map ∙ passes 5 _ _ (eq-eqb _ _ c.if-len-sectors.false) ∙ no_tests)
