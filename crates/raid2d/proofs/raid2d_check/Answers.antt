-- `raid2d::raid2d_check` meets its contract: each case of the answer has its number.
-- Assumes nothing.
use mathlib.Core.Path.{◌≡◌, ◌∙◌, sym, ap}
use Prim.Native.Nat.{ℕ}
use Rattle.std.specs.Prelude.{Option, Some, None, Result, Ok}
use borrow.Author.Rules.{rules}
use Rattle.model.specs.Grid.{rectangle}
use Rattle.model.specs.Array.{check_status, check_stripe}
use Rattle.model.specs.Checked.{Checked}
use Rattle.model.specs.Answers.{checked_of}
use Rattle.model.specs.declared.answer.Refusal.{Refusal}
use Rattle.raid2d.proofs.raid2d_check.Goals as goal

-- What an answer comes to, seen from its case.
told : {answer case : Result (Option ℕ) Refusal} {is : Checked} (before : ℕ) → checked_of answer ≡ is → answer ≡ case
    → (check_status (checked_of case) ≡ check_status is) × (check_stripe (checked_of case) before ≡ check_stripe is before)
told before e k = (
  sym (ap (λ (r : Result (Option ℕ) Refusal). check_status (checked_of r)) k) ∙ ap check_status e,
  sym (ap (λ (r : Result (Option ℕ) Refusal). check_stripe (checked_of r) before) k) ∙ ap (λ (x : Checked). check_stripe x before) e,
)

pub returns-in-Ok-None : goal.returns-in-Ok-None
unfolding rectangle check_status check_stripe checked_of
returns-in-Ok-None c =
    let is : c.check-answer.result ≡ Ok None = search rules in
    let (h0, h1) = told c.args.stripe.now c.check-answer.ensures is in
    record { status = h0; stripe = h1 }

pub returns-in-Ok-Some : goal.returns-in-Ok-Some
unfolding rectangle check_status check_stripe checked_of
returns-in-Ok-Some c =
    let is : c.check-answer.result ≡ Ok (Some c.in-Ok-Some.lowest) = search rules in
    let (h0, h1) = told c.args.stripe.now c.check-answer.ensures is in
    record { status = h0; stripe = h1 }

pub returns-in-Err : goal.returns-in-Err
unfolding rectangle check_status check_stripe checked_of
returns-in-Err c =
    let (h0, h1) = told c.args.stripe.now c.check-answer.ensures c.in-Err.is in
    record { status = c.number.ensures ∙ h0; stripe = h1 }
