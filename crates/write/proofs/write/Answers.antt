-- `write::write` meets its contract: each refusal keeps the array, and the loop makes the written array.
-- Assumes nothing.
use mathlib.Core.Path.{◌≡◌, ◌∙◌, sym}
use mathlib.Core.Bool.{true}
use native.Mathlib.Omega.{arith}
use lib.ListN.{length}
use Rattle.model.specs.Grid.{is_data}
use Rattle.model.proofs.Refusal.{ArrayFits, array-fits}
use Rattle.model.proofs.Write.{write_is, status_first, status_disk, status_length, status_none}
use Rattle.model.proofs.Demand2.{write_refused}
use Rattle.write.proofs.write.Goals.{Else-not-is_data, In_ok-test_array}
use Rattle.std.proofs.Common.{Err, ap}
use borrow.Author.Rules.{rules}
use Rattle.model.specs.Answers.{number, status_of}
use Rattle.refusal.proofs.Numbers.{refused, taken}
use Rattle.write.proofs.write.Goals as goal

-- What each test that was passed has shown.
sized : (c : goal.In_ok-test_array) → let a = c.args in ArrayFits a.size a.block (length a.array.now)
sized c = array-fits _ _ _ (taken c.in_ok-test_array.ensures)

on-data : (c : goal.Else-not-is_data) → let a = c.args in is_data a.size a.disk ≡ true
on-data c = sym c.is_data.ensures ∙ c.if-not-is_data.false

pub returns-in_err-test_array : goal.returns-in_err-test_array
returns-in_err-test_array c =
    let same : c.from_residual.result ≡ Err c.in_err-test_array.field-0.0 = search rules in
    let status = c.in_err-test_array.ensures in
    let some = (refused _ status).1 in
    let e = status_first _ _ _ _ _ some in
    record {
      status = ap status_of same ∙ status ∙ sym e;
      array = sym (write_refused _ _ _ _ _ (λ z. some (sym e ∙ z)));
    }

pub is_data-requires : goal.is_data-requires
is_data-requires c = (sized (goal.at.is_data-requires c).In_ok-test_array).size

pub returns-then-not-is_data : goal.returns-then-not-is_data
unfolding status_of number
returns-then-not-is_data c =
    let e = status_disk _ _ _ _ _ (sized (goal.at.returns-then-not-is_data c).In_ok-test_array) (sym c.is_data.ensures ∙ c.if-not-is_data.true) in
    record {
      status = sym e;
      array = sym (write_refused _ _ _ _ _ (λ z. omega arith));
    }

pub returns-then-data-block : goal.returns-then-data-block
unfolding status_of number
returns-then-data-block c =
    let e = status_length _ _ _ _ _ (sized (goal.at.returns-then-data-block c).In_ok-test_array) (on-data (goal.at.returns-then-data-block c).Else-not-is_data) c.if-data-block.true in
    record {
      status = sym e;
      array = sym (write_refused _ _ _ _ _ (λ z. omega arith));
    }

pub store-requires : goal.store-requires
store-requires c =
    status_none _ _ _ _ _ (sized (goal.at.store-requires c).In_ok-test_array) (on-data (goal.at.store-requires c).Else-not-is_data)
    c.if-data-block.false

pub returns : goal.returns
unfolding status_of
returns c =
    let fits = sized (goal.at.returns c).In_ok-test_array in
    let ok = status_none _ _ _ _ _ fits (on-data (goal.at.returns c).Else-not-is_data) c.if-data-block.false in
    record {
      status = sym ok;
      array = c.store.ensures ∙ sym (write_is _ _ _ _ _ ok);
    }
