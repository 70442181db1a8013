-- What the planner answers for a size and a map is reported as the listing says.
-- Assumes nothing.
use mathlib.Core.Path.{◌≡◌, refl, sym, ◌∙◌, ap}
use mathlib.Core.Bool.{Bool, true, false, cond}
use mathlib.Core.List.{List}
use Prim.Native.Nat.{ℕ, suc, ◌≤◌, ◌<◌}
use native.Mathlib.Omega.{arith}
use lib.ListN.{length, get_or, drop}
use Rattle.stripes.specs.System.{Layout}
use Rattle.stripes.specs.Erased.{erasures}
use Rattle.stripes.specs.Repair.{repairs, fatal}
use Rattle.stripes.specs.Smallest.{shown_cycle}
use Rattle.model.specs.Grid.{rectangle, rows, columns, size_fits, map_bytes, map_fits}
use Rattle.model.specs.Refusal.{refusal}
use Rattle.model.specs.Sheet.{narrow, sheet_bytes}
use Rattle.model.specs.Plan.{sheet_tests, one_tests, sheet_layout}
use Rattle.model.specs.Listing.{repair_word, fatal_word, refused_word, listed as Listing·listed, listing}
use Rattle.model.specs.declared.Size.{Size}
use Rattle.model.proofs.Refusal.{given-accepted, given-refused, fails, passes}
use Rattle.model.specs.declared.answer.Refusal.{Refusal}
use Rattle.model.specs.declared.answer.Refusal.TheVariants as Because
use Rattle.model.specs.Answers.{number}
use Rattle.entries.specs.Listed.{listed}
use Rattle.solve.specs.Solved.{Repairable, Lossy}
use Rattle.solve.proofs.Fitting.{repairs_fit, cycle-fits}
use Rattle.sheet.proofs.Fitting.{listed-fits}
use Rattle.text.specs.Lines.{word_line}
use Rattle.report.specs.Report.{reported, Printable}
use Rattle.report.proofs.Entries.{printable}

-- The size and the map of an input stand for the whole of it.
pub input_reported : (input : List ℕ) → reported (rectangle (get_or input 0 0) (get_or input 1 0)) (drop 2 input) ≡ listing input
unfolding reported listing rectangle rows columns
input_reported input = refl

-- The number of a refusal has at most three digits.
pub number_short : (r : Refusal) → number r < 1000
unfolding number
number_short Because.Size = omega arith
number_short Because.Block = omega arith
number_short Because.Array = omega arith
number_short Because.Map = omega arith
number_short Because.Sheets = omega arith
number_short Because.Survivors = omega arith
number_short Because.Disk = omega arith
number_short Because.Data = omega arith
number_short Because.Chain = omega arith
number_short Because.Repairs = omega arith
number_short Because.Limit = omega arith
number_short Because.Ring = omega arith
number_short Because.Leftovers = omega arith
number_short Because.Wanted = omega arith
number_short Because.Sector = omega arith

-- ---- the text for a size and a map
module _ (z : Size) (m : List ℕ) where
  refused-reported : (k : ℕ) → refusal (one_tests z m (sheet_bytes narrow)) ≡ suc k → word_line refused_word (suc k) ≡ reported z m
  unfolding reported listing rectangle rows columns word_line
  refused-reported k e =
      ap (word_line refused_word) (sym e) ∙ sym (given-refused (refusal (one_tests z m (sheet_bytes narrow))) _ _ (λ q. omega arith))

  pub size_refused : size_fits z ≡ false → word_line refused_word 1 ≡ reported z m
  unfolding one_tests
  size_refused e = refused-reported 0 (fails 1 (size_fits z) _ e)

  module _ (size : size_fits z ≡ true) where
    pub map_refused : map_fits (map_bytes z 1) m ≡ false → word_line refused_word 4 ≡ reported z m
    unfolding one_tests sheet_tests
    map_refused e = refused-reported 3 (passes 1 (size_fits z) _ size ∙ fails 4 (map_fits (map_bytes z 1) m) _ e)

    -- The stripes, and the erased disks of the map.
    abbrev L : Layout
    L = sheet_layout z

    abbrev e : ℕ → Bool
    e = erasures m

    accepted : {text : List ℕ} → map_fits (map_bytes z 1) m ≡ true
        → text ≡ cond (fatal L e) (Listing·listed fatal_word (shown_cycle L e)) (Listing·listed repair_word (repairs L e)) → text ≡ reported z m
    unfolding reported listing rectangle rows columns one_tests sheet_tests refusal
    accepted map is = is ∙ sym (given-accepted (refusal (one_tests z m (sheet_bytes narrow))) _ _ (rw (size, map)))

    -- The planner's list can be printed, and is the one to print.
    module _ {list : List ℕ} {count : ℕ} (f : Repairable L e count list) where
      pub repairs_printable : 32 ≤ length list → Printable list count
      repairs_printable room = printable room (listed-fits (repairs_fit z size e) list count f.entries)

      pub repairs-reported : map_fits (map_bytes z 1) m ≡ true → Listing·listed repair_word (listed list count) ≡ reported z m
      repairs-reported map = accepted map (rw f.fine (ap (Listing·listed repair_word) f.entries))

    module _ {list : List ℕ} {count unknown : ℕ} (f : Lossy L e count unknown list) where
      pub cycle_printable : 32 ≤ length list → Printable list count
      cycle_printable room = printable room (listed-fits (cycle-fits z size e f.lossy) list count f.entries)

      pub cycle-reported : map_fits (map_bytes z 1) m ≡ true → Listing·listed fatal_word (listed list count) ≡ reported z m
      cycle-reported map = accepted map (rw f.lossy (ap (Listing·listed fatal_word) f.entries))
