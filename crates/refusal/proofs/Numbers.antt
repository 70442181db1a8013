-- The numbers of refusals.
-- Assumes nothing.
use Rattle.std.proofs.Common.{◌≡◌, ℕ, ◌<◌, Ok, Err, true, false}
use mathlib.Core.Path.{sym}
use mathlib.Core.Bool.{true≢false}
use Rattle.std.specs.Prelude.{Result}
use Rattle.std.specs.Result.{is_err}
use native.Mathlib.Omega.{arith}
use Rattle.model.specs.declared.answer.Refusal.{Refusal}
use Rattle.model.specs.declared.answer.Refusal.TheVariants as Because
use Rattle.model.specs.Answers.{number, status_of}

-- None is 0, which is the status of a call that is not refused.
pub number_positive : (r : Refusal) → 0 < number r
unfolding number
number_positive Because.Size = omega arith
number_positive Because.Block = omega arith
number_positive Because.Array = omega arith
number_positive Because.Map = omega arith
number_positive Because.Sheets = omega arith
number_positive Because.Survivors = omega arith
number_positive Because.Disk = omega arith
number_positive Because.Data = omega arith
number_positive Because.Chain = omega arith
number_positive Because.Repairs = omega arith
number_positive Because.Limit = omega arith
number_positive Because.Ring = omega arith
number_positive Because.Leftovers = omega arith
number_positive Because.Wanted = omega arith
number_positive Because.Sector = omega arith

pub number_some : (r : Refusal) → number r ≡ 0 → ⊥
number_some r e = let some = number_positive r in omega arith

-- A call that is refused has the number of its refusal for its status.
pub refused : {k : ℕ} (r : Refusal) → status_of (Err r) ≡ k → (number r ≡ k) × (k ≡ 0 → ⊥)
unfolding status_of
refused r e = let some = number_positive r in (e, λ z. omega arith)

pub taken : {k : ℕ} → status_of (Ok tt) ≡ k → k ≡ 0
unfolding status_of
taken e = omega arith

-- The same, told by the library's test.
pub refused_by : {k : ℕ} (r : Result Unit Refusal) → status_of r ≡ k → is_err r ≡ true → k ≡ 0 → ⊥
refused_by (Ok x) e h = λ z. true≢false (sym h)
refused_by (Err r) e h = (refused r e).1

pub taken_by : {k : ℕ} (r : Result Unit Refusal) → status_of r ≡ k → is_err r ≡ false → k ≡ 0
taken_by (Ok tt) e h = taken e
taken_by (Err r) e h = absurd (true≢false h)
