-- Tidy (paper 02, P4): what it answers and what its sheet holds afterwards, for every input.
-- Assumes nothing.
use Rattle.std.specs.Prelude.{◌≡◌, cond, List, ◌∷◌, ◌++◌, ℕ, ◌*◌, ◌/◌, eqb, length, drop}
use Rattle.model.specs.Refusal.{Test, ◌unless◌, refusal}
use Rattle.model.specs.Sheet.{Format, sheet_bytes, sheets_of, sheet_of, sheet_at, SheetBytes}
use Rattle.model.specs.Chain.{chain_tests, clean_refusal, chain_entries}

unfoldable pub tidy_tests : Format → List ℕ → List Test
tidy_tests f s = 5 unless eqb (length s) (sheet_bytes f) ∷ chain_tests f s

unfoldable pub tidy_status : Format → List ℕ → ℕ
tidy_status f s = refusal (tidy_tests f s)

-- The tidy form of a sheet: the records of its chain as records 1, 2, 3 in the chain's order, and zeros elsewhere.
unfoldable pub tidy_form : Format → List ℕ → List ℕ
tidy_form f s = sheet_of f f.repair_kind (chain_entries f s)

-- The sheet after the call: in its tidy form, or as it was.
unfoldable pub tidy_sheet : Format → List ℕ → List ℕ
tidy_sheet f s = cond (eqb (tidy_status f s) 0) (tidy_form f s) s

-- A tidy sheet: the call takes it, and it has the records of its chain as records 1, 2, 3 and zeros elsewhere.
abbrev pub Tidy : Format → List ℕ → Type 0
Tidy f s = (tidy_status f s ≡ 0) × SheetBytes f f.repair_kind (chain_entries f s) s

-- What is asked of the sheet t that a sheet s becomes.
pub record TidyDemand (f : Format) (s t : List ℕ) : Type 0 where
  -- It has the records of the chain of s as records 1, 2, 3 in the chain's order, and zeros elsewhere,
  pub form : SheetBytes f f.repair_kind (chain_entries f s) t
  -- it lists the same disks and stripes in the same order,
  pub lists : chain_entries f t ≡ chain_entries f s
  -- it is tidy,
  pub tidy : Tidy f t
  -- tidying it changes nothing,
  pub stays : tidy_sheet f t ≡ t
  -- and 10, 13 and 14 let it through.
  pub clean : clean_refusal f t ≡ 0

-- The sheets that stand one after another in a buffer, each as the call leaves it. What is behind the last whole sheet stays.
unfoldable pub tidy_sheets : Format → List ℕ → List ℕ
tidy_sheets f s =
    let n : ℕ = length s / sheet_bytes f in
    sheets_of n (λ p. tidy_sheet f (sheet_at f p s)) ++ drop (sheet_bytes f * n) s
