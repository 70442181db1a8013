-- `raid2d::report` meets its contract: each case of the answer has its number, its count and its position.
-- Assumes nothing.
use mathlib.Core.Path.{◌≡◌, ◌∙◌, sym, ap}
use Prim.Native.Nat.{ℕ}
use borrow.Author.Rules.{rules}
use Rattle.std.specs.Prelude.{Result, Ok}
use Rattle.model.specs.Plan.{outcome_status, outcome_count, outcome_position}
use Rattle.model.specs.Answers.{verdict_of, outcome_of}
use Rattle.model.specs.declared.answer.Refusal.{Refusal}
use Rattle.model.specs.declared.answer.Verdict.{Verdict}
use Rattle.model.specs.declared.answer.Verdict.TheVariants as Found
use Rattle.raid2d.proofs.report.Goals as goal

-- What an answer comes to, seen from its case.
told : {answer case : Result Verdict Refusal} (count position : ℕ) → answer ≡ case
    → (outcome_status (outcome_of case) ≡ outcome_status (outcome_of answer))
    × (outcome_count (outcome_of case) count ≡ outcome_count (outcome_of answer) count)
    × (outcome_position (outcome_of case) position ≡ outcome_position (outcome_of answer) position)
told count position e = (
  sym (ap (λ (r : Result Verdict Refusal). outcome_status (outcome_of r)) e),
  sym (ap (λ (r : Result Verdict Refusal). outcome_count (outcome_of r) count) e),
  sym (ap (λ (r : Result Verdict Refusal). outcome_position (outcome_of r) position) e),
)

pub returns-in-Ok-Repairs : goal.returns-in-Ok-Repairs
unfolding outcome_status outcome_count outcome_position outcome_of verdict_of
returns-in-Ok-Repairs c =
    let is : c.args.answer ≡ Ok (Found.Repairs c.in-Ok-Repairs.number) = search rules in
    let (h0, h1, h2) = told c.args.count.now c.args.position.now is in
    record { status = h0; count = h1; position = h2 }

pub returns-in-Ok-Fatal : goal.returns-in-Ok-Fatal
unfolding outcome_status outcome_count outcome_position outcome_of verdict_of
returns-in-Ok-Fatal c =
    let is : c.args.answer ≡ Ok (Found.Fatal c.in-Ok-Fatal.lost c.in-Ok-Fatal.at) = search rules in
    let (h0, h1, h2) = told c.args.count.now c.args.position.now is in
    record { status = h0; count = h1; position = h2 }

pub returns-in-Err : goal.returns-in-Err
unfolding outcome_status outcome_count outcome_position outcome_of
returns-in-Err c =
    let (h0, h1, h2) = told c.args.count.now c.args.position.now c.in-Err.is in
    record { status = c.number.ensures ∙ h0; count = h1; position = h2 }
