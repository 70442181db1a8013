-- The sheets with one of them put back where the code took it.
-- Assumes nothing.
use mathlib.Core.Path.{◌≡◌, ◌∙◌, ap}
use mathlib.Core.List.{List, ◌++◌}
use Prim.Native.Nat.{ℕ, ◌+◌, ◌*◌, ◌-◌, ◌<◌}
use native.Mathlib.Omega.{arith}
use borrow.Rule.Slice.PartMut.{put_mid, Post-is}
use lib.ListN.{length, take, drop}
use Rattle.model.specs.Sheet.{narrow, sheet_at}
use Rattle.model.proofs.SheetRow.{withSheet, length-written, sheet_written, sheet_kept}

-- The sheets with t as that of position p.
abbrev pub put_sheet : (p : ℕ) → (t s : List ℕ) → List ℕ
put_sheet p t s = put_mid (98 * p) (98 * p + 98 - 98 * p) s t

put_is : (p : ℕ) (t s : List ℕ) → put_sheet p t s ≡ withSheet narrow p t s
put_is p t s =
    let end : 98 * p + 98 ≡ 98 * (p + 1) = omega arith in
    ap (λ (rest : List ℕ). take (98 * p) s ++ (t ++ rest)) (Post-is (98 * p) (98 * p + 98) s (omega arith) ∙ ap (λ (i : ℕ). drop i s) end)

module _ (n : ℕ) (s : List ℕ) (long : length s ≡ 98 * n) (p : ℕ) (place : p < n) (t : List ℕ) (size : length t ≡ 98) where
  pub put_length : length (put_sheet p t s) ≡ 98 * n
  put_length = ap length (put_is p t s) ∙ length-written narrow n s long p place t size ∙ long

  pub put_own : sheet_at narrow p (put_sheet p t s) ≡ t
  put_own = ap (sheet_at narrow p) (put_is p t s) ∙ sheet_written narrow n s long p place t size

  pub put_other : (q : ℕ) → (q ≡ p → ⊥) → sheet_at narrow q (put_sheet p t s) ≡ sheet_at narrow q s
  put_other q differ = ap (sheet_at narrow q) (put_is p t s) ∙ sheet_kept narrow n s long p place t size q differ
