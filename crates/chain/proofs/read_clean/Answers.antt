-- `chain::read_clean` meets its contract, at each of its three ends.
-- Assumes nothing.
use native.Mathlib.Omega.{arith}
use Rattle.chain.proofs.Clean.{none-marked, refused, left_over, clean}
use Rattle.std.proofs.Common.{◌≡◌, ◌∙◌, ap, Err}
use borrow.Author.Rules.{rules}
use Rattle.model.specs.Answers.{number}
use Rattle.chain.specs.Read.{chain_of}
use Rattle.chain.proofs.read_clean.Goals as goal

pub read-requires-clause-records_in_bounds_2 : goal.read-requires-clause-records_in_bounds_2
read-requires-clause-records_in_bounds_2 c = omega arith

pub read-requires-clause-by_index : goal.read-requires-clause-by_index
read-requires-clause-by_index c = none-marked 33

pub returns-in_err-count : goal.returns-in_err-count
unfolding chain_of
returns-in_err-count c =
    let read = c.read in
    let same : c.from_residual.result ≡ Err c.in_err-count.field-0.0 = search rules in
    let (h0, h1) = refused _ _ _ _ (ap chain_of same ∙ c.in_err-count.ensures.chain) (ap chain_of same) in
    record {
      chain = h0;
      list = h1;
    }

pub returns-then-not-rest_is_zero : goal.returns-then-not-rest_is_zero
unfolding chain_of number
returns-then-not-rest_is_zero c =
    let read = c.read in
    let (h0, h1) = left_over _ _ _ _ _ read.ensures.chain (ap chain_of c.in_ok-count.was) read.ensures.list read.ensures.marks _ c.rest_is_zero.ensures
    (c.if-not-rest_is_zero.true) in
    record {
      chain = h0;
      list = h1;
    }

pub returns : goal.returns
unfolding chain_of
returns c =
    let read = c.read in
    let (h0, h1) = clean _ _ _ _ _ read.ensures.chain (ap chain_of c.in_ok-count.was) read.ensures.list read.ensures.marks _ c.rest_is_zero.ensures
    (c.if-not-rest_is_zero.false) in
    record {
      chain = h0;
      list = h1;
    }
