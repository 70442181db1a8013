-- `next` of the stripes of a set takes the lowest of them out.
-- Assumes nothing.
use Rattle.std.proofs.Common.{arith}
use Rattle.reach.proofs.Words.{lowest_out}
use Rattle.reach.proofs.MembersIterator.next.Goals as goal

pub returns-clause-steps : goal.returns-clause-steps
returns-clause-steps c = lowest_out _ c.if-self-eq0.false (omega arith)
