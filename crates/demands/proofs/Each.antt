-- Sheets that stand one after another, tidied one by one.
-- Assumes nothing.
use mathlib.Core.Path.{◌≡◌, refl, sym, ◌∙◌, ap, ap₂}
use mathlib.Core.List.{List, ◌++◌, append_assoc}
use Prim.Native.Nat.{ℕ, ◌+◌, ◌*◌, ◌-◌, ◌/◌, ◌≤◌}
use native.Mathlib.Numerals.{add-one}
use native.Mathlib.Omega.{arith}
use lib.ListN.{length, take, drop, length-append, length-drop}
use lib.Seq.{length-take-le, take_at, drop_at, drop-drop}
use Rattle.model.specs.Sheet.{narrow, sheets_of, sheet_at}
use Rattle.model.specs.Tidy.{tidy_sheet, tidy_sheets}
use Rattle.model.proofs.SheetRow.{length-sheets}
use Rattle.model.proofs.Tidy.{tidied_one}

-- The sheet of position p as tidying leaves it.
abbrev tidy_at : List ℕ → ℕ → List ℕ
tidy_at s p = tidy_sheet narrow (sheet_at narrow p s)

tidy-long : (s : List ℕ) (p : ℕ) → 98 * (p + 1) ≤ length s → length (tidy_at s p) ≡ 98
unfolding sheet_at
tidy-long s p room =
    let left : length (drop (98 * p) s) ≡ length s - 98 * p = length-drop (98 * p) s in
    (tidied_one narrow (sheet_at narrow p s)).0 ∙ length-take-le 98 (drop (98 * p) s) (omega arith)

front_long : (s : List ℕ) (p : ℕ) → 98 * p ≤ length s → length (sheets_of p (tidy_at s)) ≡ 98 * p
front_long s p room = length-sheets narrow p (tidy_at s) (λ q l. tidy-long s q (omega arith))

-- The first p sheets are tidied, and what is behind them stays.
pub record Tidying (p : ℕ) (s₀ s : List ℕ) : Type 0 where
  pub within : 98 * p ≤ length s₀
  pub long : length s ≡ length s₀
  pub is : s ≡ sheets_of p (tidy_at s₀) ++ drop (98 * p) s₀

pub tidying_none : (s : List ℕ) → Tidying 0 s s
unfolding sheets_of
tidying_none s = record { within = omega arith; long = refl; is = refl }

-- So the buffer is as long as it was.
tidying_long : (p : ℕ) (s : List ℕ) → 98 * p ≤ length s → length (sheets_of p (tidy_at s) ++ drop (98 * p) s) ≡ length s
tidying_long p s room =
    let front = front_long s p room in
    let rest = length-drop (98 * p) s in
    length-append (sheets_of p (tidy_at s)) (drop (98 * p) s) ∙ (omega arith)

module _ {p : ℕ} {s₀ s : List ℕ} (t : Tidying p s₀ s) where
  -- After the last, of as many as the buffer holds.
  pub tidying_all : p ≡ length s₀ / 98 → s ≡ tidy_sheets narrow s₀
  unfolding tidy_sheets
  tidying_all number = t.is ∙ ap (λ (n : ℕ). sheets_of n (tidy_at s₀) ++ drop (98 * n) s₀) number

  -- One more, with its sheet as the part of the buffer that is lent.
  pub tidying_next : 98 * (p + 1) ≤ length s₀ → {v : List ℕ} → v ≡ sheet_at narrow p s → {r : List ℕ} → r ≡ tidy_sheet narrow v → {s₂ : List ℕ}
      → s₂ ≡ take (98 * p) s ++ (r ++ drop (98 * p + 98) s) → Tidying (p + 1) s₀ s₂
  unfolding sheet_at sheets_of
  tidying_next room {v} lent {r} tidied {s₂} put =
      let front : List ℕ = sheets_of p (tidy_at s₀) in
      let size = front_long s₀ p t.within in
      let rest : drop (98 * p) s ≡ drop (98 * p) s₀ = ap (drop (98 * p)) t.is ∙ drop_at front (drop (98 * p) s₀) (98 * p) size in
      let own : r ≡ tidy_at s₀ p = tidied ∙ ap (tidy_sheet narrow) (lent ∙ ap (take 98) rest) in
      let end : 98 * p + 98 ≡ 98 * (p + 1) = omega arith in
      let behind : drop (98 * p + 98) s ≡ drop (98 * (p + 1)) s₀ =
      sym (drop-drop 98 (98 * p) s) ∙ ap (drop 98) rest ∙ drop-drop 98 (98 * p) s₀ ∙ ap (λ (n : ℕ). drop n s₀) end in
      let is : s₂ ≡ sheets_of (p + 1) (tidy_at s₀) ++ drop (98 * (p + 1)) s₀ =
      put ∙ ap₂ ◌++◌ (ap (take (98 * p)) t.is ∙ take_at front (drop (98 * p) s₀) (98 * p) size) (ap₂ ◌++◌ own behind)
      ∙ sym (append_assoc front (tidy_at s₀ p) (drop (98 * (p + 1)) s₀)) ∙ ap (λ (n : ℕ). sheets_of n (tidy_at s₀) ++ drop (98 * (p + 1)) s₀) (sym (add-one p)) in
      record { within = room; long = ap length is ∙ tidying_long (p + 1) s₀ room; is = is }
