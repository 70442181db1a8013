-- The lines of a list.
-- Assumes nothing.
use mathlib.Core.Path.{◌≡◌, refl, sym, ◌∙◌, ap}
use mathlib.Core.List.{List, [], ◌∷◌, ◌++◌, append_assoc}
use Prim.Native.Nat.{ℕ, ◌+◌, ◌≤◌}
use native.Mathlib.Numerals.{add-one}
use native.Mathlib.Omega.{arith}
use lib.ListN.{length}
use Rattle.stripes.specs.Repair.{Entry}
use Rattle.model.specs.Listing.{decimal, entry_lines, listed as Listing·listed}
use Rattle.entries.specs.Listed.{entry_disk, entry_stripe, listed}
use Rattle.entries.proofs.Words.{listed-length}
use Rattle.sheet.proofs.Fitting.{Small}
use Rattle.text.specs.Lines.{word_line, pair_line}
use Rattle.text.specs.Written.{Written}
use Rattle.text.proofs.Joined.{both_written, written_as}
use Rattle.report.specs.Report.{Printable}

-- One line more.
lines_snoc : (rs : List Entry) (r : Entry) → entry_lines (rs ++ (r ∷ [])) ≡ entry_lines rs ++ pair_line r.disk r.stripe
unfolding entry_lines pair_line
lines_snoc [] r = refl
lines_snoc (x ∷ rs) r =
    ap (λ (l : List ℕ). decimal x.disk ++ 32 ∷ decimal x.stripe ++ 10 ∷ l) (lines_snoc rs r)
    ∙ sym (append_assoc (decimal x.disk ++ 32 ∷ decimal x.stripe) (10 ∷ entry_lines rs) (pair_line r.disk r.stripe))

pub line_written : (l : List ℕ) (k : ℕ) {b c d : List ℕ} {i j n : ℕ} → Written b i (entry_lines (listed l k)) c j
    → Written c j (pair_line (entry_disk l k) (entry_stripe l k)) d n → Written b i (entry_lines (listed l (k + 1))) d n
unfolding listed
line_written l k p q =
    written_as (sym (lines_snoc (listed l k) _) ∙ ap (λ (m : ℕ). entry_lines (listed l m)) (sym (add-one k))) (both_written p q)

-- The heading's number is that of the lines.
pub listed-written : (word l : List ℕ) (k : ℕ) {b c d : List ℕ} {j n : ℕ} → Written b 0 (word_line word k) c j
    → Written c j (entry_lines (listed l k)) d n → Written b 0 (Listing·listed word (listed l k)) d n
unfolding word_line Listing·listed
listed-written word l k p q =
    written_as
    (append_assoc (word ++ decimal k) (10 ∷ []) (entry_lines (listed l k))
    ∙ ap (λ (n : ℕ). word ++ decimal n ++ 10 ∷ entry_lines (listed l k)) (sym (listed-length l k)))
    (both_written p q)

-- A list of small numbers can be printed.
pub printable : {l : List ℕ} {k : ℕ} → 32 ≤ length l → Small l k → Printable l k
printable room small =
    record {
      held = let few = small.few in omega arith;
      few = small.few;
      disk = λ i h. let low = small.disk i h in omega arith;
      stripe = λ i h. let low = small.stripe i h in omega arith;
    }
