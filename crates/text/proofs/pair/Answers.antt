-- `text::pair` meets its contract: two numbers with a space, and a line feed.
-- Assumes nothing.
use native.Mathlib.Omega.{arith}
use Rattle.text.specs.Lines.{pair_line}
use Rattle.text.proofs.Joined.{both_written, number-ends}
use Rattle.text.proofs.pair.Goals as goal

pub byte-next-requires : goal.byte-next-requires
byte-next-requires c = omega (arith, number-ends _ c.number-space.ensures)

pub number-feed-requires : goal.number-feed-requires
number-feed-requires c =
    record {
      at_in_bounds = omega (arith, number-ends _ c.number-space.ensures);
      value_bound = omega arith;
    }

pub byte-requires : goal.byte-requires
byte-requires c =
    omega (arith, number-ends _ c.number-space.ensures, number-ends _ c.number-feed.ensures)

pub returns : goal.returns
unfolding pair_line
returns c =
    both_written
    (both_written c.number-space.ensures (both_written c.byte-next.ensures c.number-feed.ensures))
    c.byte.ensures
