-- `fields::record_at` meets its contract: what the reader finds under the number, by cases.
-- Assumes nothing.
use mathlib.Core.Path.{◌≡◌, ◌∙◌, sym, ap}
use mathlib.Core.Logic.{⊎_elim}
use Prim.Native.Nat.{ℕ, ◌≤◌, ◌<◌}
use native.Mathlib.Omega.{arith}
use borrow.Author.Tests.{le-leb, lt-leb}
use Rattle.stripes.specs.Repair.{Entry}
use Rattle.model.specs.Sheet.{narrow}
use Rattle.model.specs.Chain.{if_record}
use Rattle.reader.specs.declared.Found.TheVariants.{End, Outside}
use Rattle.reader.proofs.Says.{found_says}
use Rattle.fields.proofs.record_at.Goals as goal

-- A field is itself under a number that a record has, and 0 under another.
field : (k v : ℕ) → 0 < k → k ≤ 32 → v ≡ if_record narrow k v
unfolding if_record
field k v low high = rw (le-leb 1 k (omega arith), le-leb k 32 high)

none : (k v : ℕ) → k ≡ 0 → 0 ≡ if_record narrow k v
unfolding if_record
none k v e = rw e

beyond : (k v : ℕ) → 32 < k → 0 ≡ if_record narrow k v
unfolding if_record
beyond k v high = rw (lt-leb k 32 high, le-leb 1 k (omega arith))

pub returns-in-Record : goal.returns-in-Record
returns-in-Record c =
    let a = c.args in
    let is = found_says a.sheet.now a.number _ c.told-sheet (sym c.in-Record.is ∙ c.record_at-found.ensures) in
    let same = sym is.2 in
    let of : (v : ℕ) → v ≡ if_record narrow a.number v = λ v. field a.number v is.0 is.1 in
    record {
      disk = ap (λ (e : Entry). e.disk) same ∙ of _;
      stripe = ap (λ (e : Entry). e.stripe) same ∙ of _;
      next = sym is.3 ∙ of _;
    }

pub returns-in-End : goal.returns-in-End
returns-in-End c =
    let a = c.args in
    let zero : (v : ℕ) → 0 ≡ if_record narrow a.number v = λ v.
    ⊎_elim (λ e. none a.number v (found_says a.sheet.now a.number End c.told-sheet (sym e ∙ c.record_at-found.ensures)))
    (λ e. beyond a.number v (found_says a.sheet.now a.number Outside c.told-sheet (sym e ∙ c.record_at-found.ensures)))
    c.in-End.is in
    record {
      disk = zero _;
      stripe = zero _;
      next = zero _;
    }
