-- `refusal::test_array` meets its contract: each return is the first test that fails.
-- Assumes nothing.
use mathlib.Core.Path.{◌∙◌, sym}
use borrow.Author.Tests.{ne_eqb}
use Rattle.model.specs.Refusal.{array_tests}
use Rattle.model.proofs.Refusal.{fails, passes, array-accepted}
use Rattle.refusal.proofs.test_array.Goals.{Else-not-block_fits}
use Rattle.model.specs.Answers.{number, status_of}
use Rattle.refusal.proofs.test_array.Goals as goal

pub returns-then-not-size_fits : goal.returns-then-not-size_fits
unfolding array_tests status_of number
returns-then-not-size_fits c = sym (fails 1 _ _ (sym c.size_fits.ensures ∙ c.if-not-size_fits.true))

pub returns-then-not-block_fits : goal.returns-then-not-block_fits
unfolding array_tests status_of number
returns-then-not-block_fits c =
    let size = sym c.size_fits.ensures ∙ c.if-not-size_fits.false in
    sym (passes 1 _ _ size ∙ fails 2 _ _ (sym c.block_fits.ensures ∙ c.if-not-block_fits.true))

pub array_bytes-requires : goal.array_bytes-requires
array_bytes-requires c =
    record {
      size_value = sym c.size_fits.ensures ∙ c.if-not-size_fits.false;
      block_value = sym c.block_fits.ensures ∙ c.if-not-block_fits.false;
    }

pub returns-then-len-array_bytes : goal.returns-then-len-array_bytes
unfolding array_tests status_of number
returns-then-len-array_bytes c =
    let record { size_value = size; block_value = block } = array_bytes-requires (goal.at.returns-then-len-array_bytes c).Else-not-block_fits in
    sym (passes 1 _ _ size ∙ passes 2 _ _ block ∙ fails 3 _ _ (ne_eqb _ _ (λ e. c.if-len-array_bytes.true (e ∙ sym c.array_bytes.ensures))))

pub returns : goal.returns
unfolding status_of
returns c =
    let record { size_value = size; block_value = block } = array_bytes-requires (goal.at.returns c).Else-not-block_fits in
    sym (array-accepted _ _ _ (record { size = size; block = block; long = c.if-len-array_bytes.false ∙ c.array_bytes.ensures }))
