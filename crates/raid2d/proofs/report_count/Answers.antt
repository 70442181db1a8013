-- `raid2d::report_count` meets its contract: each case of the answer has its number and its count.
-- Assumes nothing.
use mathlib.Core.Path.{◌≡◌, ◌∙◌, sym, ap}
use Prim.Native.Nat.{ℕ}
use Rattle.std.specs.Prelude.{Result}
use Rattle.model.specs.Plan.{outcome_status, outcome_count}
use Rattle.model.specs.Save.{saving_status, saving_count}
use Rattle.model.specs.Answers.{repairs_of, saving_of}
use Rattle.model.specs.declared.answer.Refusal.{Refusal}
use Rattle.raid2d.proofs.report_count.Goals as goal

-- What an answer comes to, seen from its case.
told : {answer case : Result ℕ Refusal} (before : ℕ) → answer ≡ case
    → (outcome_status (repairs_of case) ≡ outcome_status (repairs_of answer))
    × (outcome_count (repairs_of case) before ≡ outcome_count (repairs_of answer) before)
    × (saving_status (saving_of case) ≡ saving_status (saving_of answer))
    × (saving_count (saving_of case) before ≡ saving_count (saving_of answer) before)
told before e = (
  sym (ap (λ (r : Result ℕ Refusal). outcome_status (repairs_of r)) e),
  sym (ap (λ (r : Result ℕ Refusal). outcome_count (repairs_of r) before) e),
  sym (ap (λ (r : Result ℕ Refusal). saving_status (saving_of r)) e),
  sym (ap (λ (r : Result ℕ Refusal). saving_count (saving_of r) before) e),
)

pub returns-in-Ok : goal.returns-in-Ok
unfolding outcome_status outcome_count saving_status saving_count repairs_of saving_of
returns-in-Ok c =
    let (h0, h1, h2, h3) = told c.args.count.now c.in-Ok.is in
    record { repairs = h0; repairs_count = h1; saved = h2; saved_count = h3 }

pub returns-in-Err : goal.returns-in-Err
unfolding outcome_status outcome_count saving_status saving_count repairs_of saving_of
returns-in-Err c =
    let (h0, h1, h2, h3) = told c.args.count.now c.in-Err.is in
    record { repairs = c.number.ensures ∙ h0; repairs_count = h1; saved = c.number.ensures ∙ h2; saved_count = h3 }
