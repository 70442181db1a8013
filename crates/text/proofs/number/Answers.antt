-- `text::number` meets its contract: one, two or three digits.
-- Assumes nothing.
use Rattle.text.proofs.Joined.{both_written, written_as, decimal_ones, decimal_tens, decimal_hundreds}
use Rattle.text.proofs.number.Goals as goal

pub returns-then-value-lt10 : goal.returns-then-value-lt10
returns-then-value-lt10 c = written_as (decimal_ones _ c.if-value-lt10.true) c.digit.ensures

pub returns-then-value-lt100 : goal.returns-then-value-lt100
returns-then-value-lt100 c =
    written_as (decimal_tens _ c.if-value-lt10.false c.if-value-lt100.true)
    (both_written c.digit-ones.ensures c.digit-then-value-lt100.ensures)

pub returns : goal.returns
returns c =
    written_as (decimal_hundreds _ c.if-value-lt100.false)
    (both_written c.digit-tens.ensures (both_written c.digit-ones-2.ensures c.digit-2.ensures))
