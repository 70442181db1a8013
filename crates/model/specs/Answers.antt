-- What the answers of the calls are in the words of the definitions.
-- Assumes nothing.
use Rattle.std.specs.Prelude.{ℕ, Option, Some, None, Result, Ok, Err}
use Rattle.model.specs.Checked.{Checked, Sealed, Unsealed, Refused as Checked-as-Refused}
use Rattle.model.specs.Outcome.{Outcome, Repairs, Fatal, Refused}
use Rattle.model.specs.Saving.{Saving, Saved, Refused as Saving-as-Refused}
use Rattle.model.specs.declared.answer.Verdict.{Verdict}
use Rattle.model.specs.declared.answer.Verdict.TheVariants as Found
use Rattle.model.specs.declared.answer.Refusal.{Refusal}
use Rattle.model.specs.declared.answer.Refusal.TheVariants as Because

-- The number of a refusal (paper 01: its number in the order's list).
unfoldable pub number : Refusal → ℕ
number Because.Size = 1
number Because.Block = 2
number Because.Array = 3
number Because.Map = 4
number Because.Sheets = 5
number Because.Survivors = 7
number Because.Disk = 8
number Because.Data = 9
number Because.Chain = 10
number Because.Repairs = 11
number Because.Limit = 12
number Because.Ring = 13
number Because.Leftovers = 14
number Because.Wanted = 15
number Because.Sector = 16

-- The number of a refusal, if there is one, and 0 for none.
unfoldable pub number_if : Option Refusal → ℕ
number_if None = 0
number_if (Some r) = number r

-- The status of a call that has nothing else to say: 0, or the number of its refusal.
unfoldable pub status_of : Result Unit Refusal → ℕ
status_of (Ok x) = 0
status_of (Err r) = number r

-- The answer of check: no stripe, or the lowest whose sum is not zero.
unfoldable pub checked_of : Result (Option ℕ) Refusal → Checked
checked_of (Ok None) = Sealed
checked_of (Ok (Some s)) = Unsealed s
checked_of (Err r) = Checked-as-Refused (number r)

-- What a loss comes to.
unfoldable pub verdict_of : Verdict → Outcome
verdict_of (Found.Repairs c) = Repairs c
verdict_of (Found.Fatal l p) = Fatal l p

-- The answer of plan, of the plan for one disk and of rebuild.
unfoldable pub outcome_of : Result Verdict Refusal → Outcome
outcome_of (Ok v) = verdict_of v
outcome_of (Err r) = Refused (number r)

-- The answer of follow, which never tells of a fatal loss: the number of repairs.
unfoldable pub repairs_of : Result ℕ Refusal → Outcome
repairs_of (Ok c) = Repairs c
repairs_of (Err r) = Refused (number r)

-- The answer of save.
unfoldable pub saving_of : Result ℕ Refusal → Saving
saving_of (Ok c) = Saved c
saving_of (Err r) = Saving-as-Refused (number r)
