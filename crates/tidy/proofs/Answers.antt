-- What tidy answers and leaves of the sheet at each of its ends.
-- Assumes nothing.
use mathlib.Core.Path.{◌≡◌, sym, ◌∙◌, ap}
use mathlib.Core.List.{List}
use Prim.Native.Nat.{ℕ}
use native.Mathlib.Omega.{arith}
use borrow.Author.Tests.{eq-eqb, ne_eqb}
use lib.Dec.{eqb}
use lib.ListN.{length}
use Rattle.stripes.specs.System.{Bytes}
use Rattle.model.specs.Sheet.{narrow, sheet_of}
use Rattle.model.specs.Chain.{chain_tests, chain_refusal, chain_entries}
use Rattle.model.specs.Tidy.{tidy_tests, tidy_status, tidy_form, tidy_sheet}
use Rattle.model.proofs.Refusal.{fails, passes}
use Rattle.model.proofs.Tidy.{tidy_takes, tidy_taken, tidy_refused, chain_fitting}
use Rattle.entries.specs.Listed.{listed}
use Rattle.sheet.proofs.Fitting.{Small, listed-fits}
use Rattle.chain.specs.Read.{chain_read}
use Rattle.chain.specs.Read.{Chain}
use Rattle.chain.specs.Read.{Records, Refused}
use Rattle.chain.proofs.Clean.{by_number, by_records}

-- What tidy promises of its answer and of the sheet after it.
abbrev pub Tidied : (s : List ℕ) (status : ℕ) (t : List ℕ) → Type 0
Tidied s status t = (status ≡ tidy_status narrow s) × (t ≡ tidy_sheet narrow s)

module _ (s : List ℕ) where
  -- A refusal leaves the sheet as it was.
  kept : (k : ℕ) → tidy_status narrow s ≡ k → (k ≡ 0 → ⊥) → Tidied s k s
  kept k e some = (sym e, sym (tidy_refused narrow s (λ none. some (sym e ∙ none))))

  -- It is not as long as a sheet.
  pub short : (length s ≡ 98 → ⊥) → Tidied s 5 s
  unfolding tidy_status tidy_tests
  short other = kept 5 (fails 5 (eqb (length s) 98) _ (ne_eqb (length s) 98 other)) (λ e. omega arith)

  -- It is as long, and reading has answered.
  module _ (long : length s ≡ 98) (answer : Chain) (answer-is : answer ≡ chain_read (chain_refusal narrow s) s) where
    pub refused : (k : ℕ) → answer ≡ Refused k → Tidied s k s
    unfolding tidy_status tidy_tests chain_refusal
    refused k e =
        let (same, some) = by_number (chain_refusal narrow s) s answer answer-is k e in
        kept k (passes 5 (eqb (length s) 98) (chain_tests narrow s) (eq-eqb (length s) 98 long) ∙ same) (λ none. some (same ∙ none))

    module _ (own : List ℕ) (lists : chain_refusal narrow s ≡ 0 → listed own (length (chain_entries narrow s)) ≡ chain_entries narrow s)
        (count : ℕ) (e : answer ≡ Records count) where
      fits : chain_refusal narrow s ≡ 0
      fits = (by_records (chain_refusal narrow s) s answer answer-is count e).0

      -- The list `own` has the records of the chain.
      pub own_entries : listed own count ≡ chain_entries narrow s
      own_entries = ap (listed own) (by_records (chain_refusal narrow s) s answer answer-is count e).1 ∙ lists fits

      -- Its numbers are bytes,
      pub small : Bytes s → Small own count
      small bytes = listed-fits (chain_fitting narrow (omega arith) (omega arith) s bytes fits) own count own_entries

      -- and written anew it is the tidy form.
      pub rewritten : (t : List ℕ) → t ≡ sheet_of narrow 1 (listed own count) → Tidied s 0 t
      unfolding tidy_form
      rewritten t written =
          let taken : tidy_status narrow s ≡ 0 = (tidy_takes narrow s).1 (long, fits) in
          (sym taken, written ∙ ap (sheet_of narrow 1) own_entries ∙ sym (tidy_taken narrow s taken))
