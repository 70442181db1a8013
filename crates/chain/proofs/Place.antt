-- The sheet of a position as a part of all sheets: its chain, and what list finds there.
-- Assumes nothing.
use mathlib.Core.Path.{◌≡◌, ◌∙◌, ap}
use mathlib.Core.List.{List}
use Prim.Native.Nat.{ℕ, ◌+◌, ◌*◌, ◌-◌, ◌≤◌, ◌<◌}
use native.Mathlib.Omega.{arith}
use lib.ListN.{length, take, drop}
use Rattle.model.specs.Sheet.{narrow, sheet_bytes, sheets_bytes, sheet_at}
use Rattle.model.specs.Chain.{chain_refusal, chain_entries}
use Rattle.model.proofs.Chain.{chain_few}
use Rattle.model.proofs.SheetRow.{length-sheet_at}
use Rattle.entries.specs.Listed.{listed}
use Rattle.sheet.proofs.Part.{part_sheet}

-- The part that the code lends.
abbrev pub part_at : (p : ℕ) → List ℕ → List ℕ
part_at p s = take (sheet_bytes narrow * p + sheet_bytes narrow - sheet_bytes narrow * p) (drop (sheet_bytes narrow * p) s)

module _ (n : ℕ) (s : List ℕ) (long : length s ≡ sheets_bytes narrow n) (p : ℕ) (place : p < n) where
  pub part-long : length (part_at p s) ≡ sheet_bytes narrow
  part-long = ap length (part_sheet narrow p s) ∙ length-sheet_at narrow n s long p place

  -- Where the chains of all sheets fit, its chain does.
  module _ (fit : (p : ℕ) → p < n → chain_refusal narrow (sheet_at narrow p s) ≡ 0) where
    pub part-fits : chain_refusal narrow (part_at p s) ≡ 0
    part-fits = ap (chain_refusal narrow) (part_sheet narrow p s) ∙ fit p place

    module _ (list : List ℕ) (count : ℕ)
        (found : (count ≡ length (chain_entries narrow (part_at p s))) × (listed list count ≡ chain_entries narrow (part_at p s))) where
      pub part-few : count ≤ 32
      part-few = let most = chain_few narrow (part_at p s) part-fits in let all = found.0 in omega arith

      pub part-lists : listed list count ≡ chain_entries narrow (sheet_at narrow p s)
      part-lists = found.1 ∙ ap (chain_entries narrow) (part_sheet narrow p s)
