-- `chain::list` meets its contract: a chain of repairs is not refused, and so the records are read.
-- Assumes nothing.
use Rattle.std.proofs.Common.{◌≡◌, ◌∙◌, ap, Ok, length}
use Rattle.model.specs.Sheet.{narrow}
use Rattle.model.specs.Chain.{chain_entries}
use Rattle.entries.specs.Listed.{listed}
use Rattle.chain.proofs.Clean.{none-marked, answered_ok}
use Rattle.chain.proofs.list.Goals.{After-read}
use Rattle.chain.proofs.list.Goals as goal

pub read-requires-clause-by_index : goal.read-requires-clause-by_index
read-requires-clause-by_index c = none-marked 33

taken : (c : goal.After-read) → c.read.result ≡ Ok (length (chain_entries narrow c.args.sheet.now))
taken c = answered_ok _ _ c.read.ensures.chain c.requires.sheet_value

pub unwrap-requires : goal.unwrap-requires
unwrap-requires c = rw (taken (goal.at.unwrap-requires c).After-read)

pub returns : goal.returns
returns c =
    let count : c.unwrap.result ≡ length (chain_entries narrow c.args.sheet.now) = cc (taken (goal.at.returns c).After-read) in
    record {
      number = count;
      list = ap (listed c.read.new.list) count ∙ c.read.ensures.list c.requires.sheet_value;
    }
