-- `seal::seal` meets its contract: a refusal keeps the array, and the two halves make a seal.
-- Assumes nothing.
use mathlib.Core.Path.{◌≡◌, ◌∙◌, sym, ap}
use Prim.Native.Nat.{ℕ}
use Rattle.model.specs.Refusal.{refusal, array_tests}
use Rattle.model.specs.Array.{seal_status}
use Rattle.model.proofs.Seal.{seal_fits, seal_is}
use Rattle.model.proofs.Demand2.{seal_refused}
use Rattle.seal.specs.Parity.{last_row_filled}
use Rattle.seal.proofs.Rows.{halves_seal}
use Rattle.seal.proofs.seal.Goals.{In_ok-test_array}
use Rattle.std.proofs.Common.{Err}
use borrow.Author.Rules.{rules}
use Rattle.model.specs.Answers.{status_of}
use Rattle.refusal.proofs.Numbers.{refused, taken}
use Rattle.seal.proofs.seal.Goals as goal

-- Past the tests, nothing is refused.
accepted : (c : goal.In_ok-test_array) → let a = c.args in seal_status a.size a.block a.array.now ≡ 0
unfolding seal_status
accepted c = taken c.in_ok-test_array.ensures

pub returns-in_err-test_array : goal.returns-in_err-test_array
unfolding seal_status
returns-in_err-test_array c =
    let same : c.from_residual.result ≡ Err c.in_err-test_array.field-0.0 = search rules in
    let e = c.in_err-test_array.ensures in
    record {
      status = ap status_of same ∙ e;
      array = sym (seal_refused _ _ _ (refused _ e).1);
    }

pub fill_rows-requires : goal.fill_rows-requires
fill_rows-requires c = accepted (goal.at.fill_rows-requires c).In_ok-test_array

pub fill_last_row-requires : goal.fill_last_row-requires
unfolding seal_status
fill_last_row-requires c =
    let a = c.args in
    ap (λ (len : ℕ). refusal (array_tests a.size a.block len)) c.fill_rows.auto.array ∙ accepted (goal.at.fill_last_row-requires c).In_ok-test_array

pub returns : goal.returns
unfolding status_of
returns c =
    let ok = accepted (goal.at.returns c).In_ok-test_array in
    record {
      status = sym ok;
      array = c.fill_last_row.ensures ∙ ap (last_row_filled _ _) c.fill_rows.ensures
          ∙ halves_seal _ _ _ (seal_fits _ _ _ ok).long ∙ sym (seal_is _ _ _ ok);
    }
