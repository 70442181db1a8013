-- `tidy::tidy` meets its contract, at each of its three ends.
-- Assumes nothing.
use native.Mathlib.Omega.{arith}
use Rattle.stripes.specs.System.{Bytes}
use Rattle.chain.proofs.Clean.{none-marked}
use Rattle.tidy.proofs.Answers.{short, refused, small, rewritten}
use Rattle.std.proofs.Common.{◌≡◌, ◌∙◌, ap, Err}
use borrow.Author.Rules.{rules}
use Rattle.model.specs.Answers.{number, status_of}
use Rattle.chain.specs.Read.{chain_of}
use Rattle.tidy.proofs.tidy.Goals as goal

pub returns-then-sheet-ne-BYTES : goal.returns-then-sheet-ne-BYTES
unfolding status_of number
returns-then-sheet-ne-BYTES c =
    let (h0, h1) = short _ c.if-sheet-ne-BYTES.true in
    record {
      status = h0;
      sheet = h1;
    }

pub read-requires-clause-sheet_len : goal.read-requires-clause-sheet_len
read-requires-clause-sheet_len c = c.if-sheet-ne-BYTES.false

pub read-requires-clause-records_in_bounds : goal.read-requires-clause-records_in_bounds
read-requires-clause-records_in_bounds c = omega arith

pub read-requires-clause-records_in_bounds_2 : goal.read-requires-clause-records_in_bounds_2
read-requires-clause-records_in_bounds_2 c = omega arith

pub read-requires-clause-by_index : goal.read-requires-clause-by_index
read-requires-clause-by_index c = none-marked 33

pub write-requires : goal.write-requires
unfolding chain_of
write-requires c =
    let read = c.read in
    let sheet = c.args.sheet.now in
    let bytes : Bytes sheet = λ i l. omega (arith, c.slice_known-1.given i) in
    let few = small sheet c.if-sheet-ne-BYTES.false _ read.ensures.chain _ read.ensures.list _ (ap chain_of c.in_ok-count.was) bytes in
    let most = few.few in
    record {
      sheet_len = c.if-sheet-ne-BYTES.false;
      count_le_records = omega arith;
      count_in_bounds = omega arith;
      by_index = λ i l. few.stripe i (omega arith);
    }

pub returns : goal.returns
unfolding chain_of status_of
returns c =
    let read = c.read in
    let (h0, h1) = rewritten _ c.if-sheet-ne-BYTES.false _ read.ensures.chain _ read.ensures.list _ (ap chain_of c.in_ok-count.was) _ c.write.ensures in
    record {
      status = h0;
      sheet = h1;
    }

pub returns-in_err-count : goal.returns-in_err-count
unfolding chain_of status_of
returns-in_err-count c =
    let same : c.from_residual.result ≡ Err c.in_err-count.field-0.0 = search rules in
    let (h0, h1) = refused _ c.if-sheet-ne-BYTES.false _ c.read.ensures.chain _ (ap chain_of c.in_err-count.was) in
    record {
      status = ap status_of same ∙ h0;
      sheet = h1;
    }
