-- A sheet of paper 01 that is written record by record.
-- Assumes nothing.
use mathlib.Core.Path.{◌≡◌, sym, ◌∙◌, ap}
use mathlib.Core.List.{List}
use Prim.Native.Nat.{ℕ, ◌+◌, ◌*◌, ◌%◌, ◌<◌}
use native.Mathlib.Numerals.{add-one, add-two}
use native.Mathlib.Omega.{arith}
use lib.ListN.{set}
use lib.Seq.{sets}
use Rattle.stripes.specs.Fold.{tabulate}
use Rattle.model.specs.Sheet.{narrow, number_bytes, chain_bytes, sheet_of, blank_sheet}
use Rattle.model.proofs.Sheets.{recordOf, append_record}
use Rattle.entries.specs.Listed.{entry_disk, entry_stripe, listed}
use Rattle.entries.proofs.Words.{entry_at, listed-length}

pub written_none : (kind : ℕ) (l : List ℕ) {s : List ℕ} → s ≡ blank_sheet narrow → set s 0 kind ≡ sheet_of narrow kind (listed l 0)
unfolding sheet_of blank_sheet chain_bytes tabulate listed
written_none kind l blank = ap (λ (s : List ℕ). set s 0 kind) blank

pub written_next : (kind : ℕ) (l s : List ℕ) (k d t : ℕ) → k < 32 → s ≡ sheet_of narrow kind (listed l k)
    → d ≡ entry_disk l k → t ≡ entry_stripe l k
    → set (set (set s (1 + 3 * k) (1 + k)) (1 + 3 * k + 1) (d % 256)) (1 + 3 * k + 2) t ≡ sheet_of narrow kind (listed l (k + 1))
unfolding listed number_bytes
written_next kind l s k d t room is disk stripe =
    let long = listed-length l k in
    rw (is, disk, stripe, add-one (1 + 3 * k), add-two)
    (ap (λ (n : ℕ). sets (sheet_of narrow kind (listed l k)) (1 + 3 * n) (recordOf narrow (1 + n) (entry_at l k))) (sym long)
    ∙ append_record narrow kind (listed l k) (entry_at l k) (omega arith) ∙ ap (λ (n : ℕ). sheet_of narrow kind (listed l n)) (sym (add-one k)))
