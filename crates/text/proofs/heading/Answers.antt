-- `text::heading` meets its contract: a word, a number and a line feed.
-- Assumes nothing.
use native.Mathlib.Omega.{arith}
use Rattle.text.specs.Lines.{word_line}
use Rattle.text.proofs.Joined.{both_written, number-ends}
use Rattle.text.proofs.heading.Goals as goal

pub byte-requires : goal.byte-requires
byte-requires c = omega (arith, number-ends _ c.number-end.ensures)

pub returns : goal.returns
unfolding word_line
returns c =
    both_written
    (both_written c.word-at.ensures c.number-end.ensures)
    c.byte.ensures
