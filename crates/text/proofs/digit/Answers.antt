-- `text::digit` meets its contract: the digits are the bytes from 48 on.
-- Assumes nothing.
use borrow.Author.Rules.{rules}
use Rattle.model.specs.Listing.{digit}
use Rattle.text.proofs.digit.Goals as goal

pub overflow_add-value : goal.overflow_add-value
overflow_add-value c = search rules

pub returns : goal.returns
unfolding digit
returns c = c.byte.ensures
