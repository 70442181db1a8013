-- What is read of a chain off which nothing may be left over.
-- Assumes nothing.
use mathlib.Core.Path.{◌≡◌, refl, sym, ◌∙◌, ap}
use mathlib.Core.Bool.{Bool, true, false, ◌||◌}
use mathlib.Core.List.{List}
use Prim.Native.Nat.{ℕ, zero, suc}
use native.Mathlib.Omega.{arith}
use borrow.Author.Tests.{eqb-true, eqb-false}
use lib.Dec.{eqb, ltb}
use lib.ListN.{length, get_or, replicate}
use Rattle.stripes.specs.Fold.{every}
use Rattle.stripes.specs.System.{among}
use Rattle.stripes.proofs.Fold.{every_ext}
use Rattle.model.specs.Sheet.{narrow}
use Rattle.model.specs.Chain.{chain_numbers, chain_refusal, record_number, on_chain, no_leftovers, clean_refusal, chain_entries}
use Rattle.model.proofs.Chain.{clean-first, clean_exact, chain_clean}
use Rattle.entries.specs.Listed.{listed}
use Rattle.std.specs.Prelude.{Result, Ok, Err}
use Rattle.model.specs.declared.answer.Refusal.{Refusal}
use Rattle.chain.specs.Read.{marked, in_order, chain_read, chain_of}
use Rattle.chain.specs.Read.{Chain}
use Rattle.chain.specs.Read.{Records, Refused}

-- Where all marks are 0, nothing is marked.
pub none-marked : (n k : ℕ) → marked (replicate n 0) k ≡ false
unfolding marked
none-marked zero k = refl
none-marked (suc n) zero = refl
none-marked (suc n) (suc k) = none-marked n k

-- An answer by a number is the refusal, and an answer by a count is that of the records of a sheet that is taken.
module _ (k : ℕ) (s : List ℕ) (r : Chain) (answer : r ≡ chain_read k s) where
  pub by_number : (v : ℕ) → r ≡ Refused v → (k ≡ v) × (k ≡ 0 → ⊥)
  unfolding chain_read
  by_number v e = go (eqb k 0) refl
    where
      go : (t : Bool) → eqb k 0 ≡ t → (k ≡ v) × (k ≡ 0 → ⊥)
      go true q =
          let found : r ≡ Records (length (chain_entries narrow s)) = answer ∙ rw q in
          let clash : ◌≡◌ {A = ℕ} 0 1 = cc in
          absurd (omega arith)
      go false q = let found : r ≡ Refused k = answer ∙ rw q in (cc, eqb-false k 0 q)

  pub by_records : (count : ℕ) → r ≡ Records count → (k ≡ 0) × (count ≡ length (chain_entries narrow s))
  unfolding chain_read
  by_records count e = go (eqb k 0) refl
    where
      go : (t : Bool) → eqb k 0 ≡ t → (k ≡ 0) × (count ≡ length (chain_entries narrow s))
      go true q = let found : r ≡ Records (length (chain_entries narrow s)) = answer ∙ rw q in (eqb-true k 0 q, cc)
      go false q =
          let found : r ≡ Refused k = answer ∙ rw q in
          let clash : ◌≡◌ {A = ℕ} 0 1 = cc in
          absurd (omega arith)

-- A sheet that is taken is answered by the number of its records.
pub answered_ok : (s : List ℕ) (r : Result ℕ Refusal) → chain_of r ≡ chain_read (chain_refusal narrow s) s → chain_refusal narrow s ≡ 0
    → r ≡ Ok (length (chain_entries narrow s))
unfolding chain_of
answered_ok s (Ok c) answer fits = ap Ok (by_records (chain_refusal narrow s) s _ answer c refl).1
answered_ok s (Err e) answer fits = absurd ((by_number (chain_refusal narrow s) s _ answer _ refl).1 fits)

-- What the answer promises, and what it promises of the list.
abbrev pub Promised : List ℕ → Chain → List ℕ → Type 0
Promised s r l =
    (r ≡ chain_read (clean_refusal narrow s) s)
    × (clean_refusal narrow s ≡ 0 → listed l (length (chain_entries narrow s)) ≡ chain_entries narrow s)

-- The chain is refused.
pub refused : (s l : List ℕ) (r : Chain) (v : ℕ) → r ≡ chain_read (chain_refusal narrow s) s → r ≡ Refused v → Promised s r l
refused s l r v answer e =
    let some = (by_number (chain_refusal narrow s) s r answer v e).1 in (
      answer ∙ ap (λ (k : ℕ). chain_read k s) (sym (clean-first narrow s some)),
      λ none. absurd (some ((clean_exact narrow s).0 none).0),
    )

module _ (s l m : List ℕ) (r : Chain) (count : ℕ) (answer : r ≡ chain_read (chain_refusal narrow s) s) (e : r ≡ Records count)
    (lists : chain_refusal narrow s ≡ 0 → listed l (length (chain_entries narrow s)) ≡ chain_entries narrow s)
    (marks : chain_refusal narrow s ≡ 0 → (j : ℕ) → marked m j ≡ among j (chain_numbers narrow s))
    (b : Bool) (rest : b ≡ every 98 (in_order m s)) where
  fits : chain_refusal narrow s ≡ 0
  fits = (by_records (chain_refusal narrow s) s r answer count e).0

  -- The marks tell which bytes are on the chain.
  off_chain : b ≡ no_leftovers narrow s
  unfolding no_leftovers on_chain in_order
  off_chain = rest ∙ every_ext 98 (λ i h. ap (λ (t : Bool). (ltb i 2 || t) || eqb (get_or s i 0) 0) (marks fits (record_number narrow i)))

  -- Something is left over,
  pub left_over : b ≡ false → Promised s (Refused 14) l
  unfolding chain_read
  left_over f =
      let k : clean_refusal narrow s ≡ 14 = chain_clean narrow s fits ∙ (rw (sym off_chain ∙ f)) in
      (rw k, λ none. absurd (let clash : ◌≡◌ {A = ℕ} 14 0 = sym k ∙ none in omega arith))

  -- or nothing is.
  pub clean : b ≡ true → Promised s (Records count) l
  clean t =
      let none : clean_refusal narrow s ≡ 0 = chain_clean narrow s fits ∙ (rw (sym off_chain ∙ t)) in
      (sym e ∙ answer ∙ ap (λ (k : ℕ). chain_read k s) (fits ∙ sym none), λ h. lists fits)
