-- `report::refused` meets its contract: the word is that of the definition.
-- Assumes nothing.
use mathlib.Core.Path.{ap}
use native.Mathlib.Omega.{arith}
use Rattle.model.specs.Listing.{refused_word}
use Rattle.text.specs.Lines.{word_line}
use Rattle.text.proofs.Joined.{written_as}
use Rattle.report.proofs.Answers.{number_short}
use Rattle.report.proofs.refused.Goals as goal

pub heading-requires-clause-value_bound : goal.heading-requires-clause-value_bound
heading-requires-clause-value_bound c = let short = number_short c.args.refusal in omega arith

pub returns : goal.returns
unfolding refused_word
returns c = written_as (ap (word_line refused_word) c.number.ensures) c.heading.ensures
