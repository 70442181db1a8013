-- `listing::listing_of` meets its contract: the text for the input's size and map stands in a buffer of zeros.
-- Assumes nothing.
use mathlib.Core.Path.{◌∙◌, ap₂}
use Rattle.text.proofs.Joined.{written_as, written-alone, same-room}
use Rattle.report.specs.Report.{reported}
use Rattle.report.proofs.Answers.{input_reported}
use Rattle.listing.proofs.listing_of.Goals as goal

pub returns : goal.returns
returns c =
    let text = ap₂ reported c.size_of.ensures c.map_of.ensures ∙ input_reported _ in
    let written = written_as text c.report-len.ensures in
    let (all, rest, within) = written-alone 320 written in
    record {
      text = all;
      rest = rest;
      within = within;
      size = same-room written;
    }
