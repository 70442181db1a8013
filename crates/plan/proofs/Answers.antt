-- What a draft answers at one position, and its sheet, in each case; and what plan answers.
-- Assumes nothing.
use mathlib.Core.Path.{◌≡◌, sym, ◌∙◌, ap}
use mathlib.Core.Bool.{Bool, true, false, cond}
use mathlib.Core.List.{List}
use Prim.Native.Nat.{ℕ, ◌≤◌, min}
use native.Mathlib.Omega.{arith}
use lib.Dec.{eqb, ltb}
use lib.ListN.{length, take}
use lib.Seq.{take_all}
use Rattle.stripes.specs.System.{Layout}
use Rattle.stripes.specs.Erased.{erasures}
use Rattle.stripes.specs.Repair.{repairs, fatal}
use Rattle.stripes.specs.Smallest.{shown_cycle}
use Rattle.stripes.specs.Sectors.{at_position, of_position, sector_repairs}
use Rattle.stripes.proofs.Sectors.{one_position}
use Rattle.stripes.proofs.Positions.{one_of, one-order, one-fatal}
use Rattle.model.specs.Grid.{size_fits, sectors_fit}
use Rattle.model.specs.Refusal.{refusal}
use Rattle.model.specs.Sheet.{narrow, sheet_of, blank_sheet, sheets_of, repair_sheets}
use Rattle.model.specs.Plan.{sheet_tests, plan_tests, loss_outcome, cycle_sheets, loss_sheets, sheet_layout, plan_outcome, plan_sheets}
use Rattle.model.specs.Single.{whole_outcome}
use Rattle.model.specs.declared.Size.{Size}
use Rattle.model.specs.Outcome.{Outcome}
use Rattle.model.specs.Outcome.{Repairs, Fatal, Refused}
use Rattle.model.proofs.SheetRow.{one_sheet}
use Rattle.model.proofs.Single.{loss_single}
use Rattle.model.proofs.Refusal.{fails, passes, given-accepted, given-refused}
use Rattle.entries.specs.Listed.{listed}
use Rattle.entries.proofs.Words.{listed-take}
use Rattle.solve.specs.Solved.{Repairable, Lossy}
use Rattle.plan.specs.Drafted.{position_outcome, draft_sheet, draft_sheets}

-- ---- one position
module _ (L : Layout) (e : ℕ → Bool) (p k : ℕ) (list after : List ℕ) where
  abbrev pub Drafts : Outcome → Type 0
  Drafts answer = (answer ≡ position_outcome L e p) × (after ≡ draft_sheet L narrow e k)

  pub drafts_repairs : {count : ℕ} → Repairable L e count list → {made : ℕ} → made ≡ min count k → after ≡ sheet_of narrow 1 (listed list made)
      → Drafts (Repairs count)
  unfolding position_outcome draft_sheet
  drafts_repairs {count} f least written = (
    ap Repairs f.number ∙ (rw f.fine),
    written ∙ ap (sheet_of narrow 1) (ap (listed list) least ∙ listed-take list count k ∙ ap (take k) f.entries) ∙ (rw f.fine),
  )

  pub drafts_fatal : {disks unknown : ℕ} → Lossy L e disks unknown list → after ≡ sheet_of narrow 2 (listed list disks) → Drafts (Fatal unknown p)
  unfolding position_outcome draft_sheet
  drafts_fatal f written = (
    ap (λ (u : ℕ). Fatal u p) f.undetermined ∙ (rw f.lossy),
    written ∙ ap (sheet_of narrow 2) f.entries ∙ (rw f.lossy),
  )

-- Blocks without sectors have one position.
module _ (L : Layout) (e : ℕ → Bool) where
  pub one_outcome : position_outcome L e 0 ≡ loss_outcome 1 L e
  unfolding position_outcome whole_outcome
  one_outcome = sym (loss_single L e)

  pub one_draft : (k : ℕ) → draft_sheet L narrow e k ≡ draft_sheets 1 L narrow e k
  unfolding draft_sheet draft_sheets cycle_sheets repair_sheets
  one_draft k = rw (one-fatal L e, one-order L e) (go (fatal L e))
    where
      go : (t : Bool)
          → cond t (sheet_of narrow 2 (shown_cycle L e)) (sheet_of narrow 1 (take k (repairs L e)))
          ≡ cond (ltb (cond t 0 1) 1)
          (sheets_of 1 (λ q. cond (eqb q (cond t 0 1)) (sheet_of narrow 2 (shown_cycle L (at_position 1 (cond t 0 1) e))) (blank_sheet narrow)))
          (sheets_of 1 (λ p. sheet_of narrow 1 (of_position 1 p (take k (repairs L e)))))
      go true = sym (one_sheet _ ∙ ap (λ (c : ℕ → Bool). sheet_of narrow 2 (shown_cycle L c)) (one_position e))
      go false = sym (one_sheet _ ∙ ap (sheet_of narrow 1) (one_of (take k (repairs L e))))

-- ---- plan

-- Its tests refuse by 1, by 16, or as those of the map and the sheets do.
module _ (z : Size) (n : ℕ) (m : List ℕ) (len : ℕ) where
  pub size-first : size_fits z ≡ false → refusal (plan_tests z n m len) ≡ 1
  unfolding plan_tests
  size-first size = fails 1 _ _ size

  pub sectors_second : size_fits z ≡ true → sectors_fit n ≡ false → refusal (plan_tests z n m len) ≡ 16
  unfolding plan_tests
  sectors_second size many = passes 1 _ _ size ∙ fails 16 _ _ many

  pub both_passed : size_fits z ≡ true → sectors_fit n ≡ true → refusal (plan_tests z n m len) ≡ refusal (sheet_tests z n m len)
  unfolding plan_tests
  both_passed size few = passes 1 _ _ size ∙ passes 16 _ _ few

module _ (z : Size) (n : ℕ) (m sheets : List ℕ) where
  -- The answer and the sheets are those of the definitions.
  abbrev pub Answers : Outcome → (after : List ℕ) → Type 0
  Answers answer after = (answer ≡ plan_outcome z n m sheets) × (after ≡ plan_sheets z n m sheets)

  -- Refusals keep the sheets.
  refused : (k : ℕ) → refusal (plan_tests z n m (length sheets)) ≡ k → (k ≡ 0 → ⊥) → Answers (Refused k) sheets
  unfolding plan_outcome plan_sheets
  refused k e some = (
    sym (given-refused _ (loss_outcome n (sheet_layout z) (erasures m)) _ (λ q. some (sym e ∙ q)) ∙ ap Refused e),
    sym (given-refused _ (loss_sheets n (sheet_layout z) narrow (erasures m)) sheets (λ q. some (sym e ∙ q))),
  )

  pub refused_size : size_fits z ≡ false → Answers (Refused 1) sheets
  refused_size size = refused 1 (size-first z n m (length sheets) size) (λ q. omega arith)

  module _ (size : size_fits z ≡ true) where
    pub refused_sectors : sectors_fit n ≡ false → Answers (Refused 16) sheets
    refused_sectors many = refused 16 (sectors_second z n m (length sheets) size many) (λ q. omega arith)

    module _ (sectors : sectors_fit n ≡ true) where
      pub refused_sheets : (status : ℕ) → status ≡ refusal (sheet_tests z n m (length sheets)) → (status ≡ 0 → ⊥)
          → Answers (Refused status) sheets
      refused_sheets status e some = refused status (both_passed z n m (length sheets) size sectors ∙ sym e) some

      -- Otherwise the draft decides, where the limit lets all repairs through.
      pub planned : refusal (sheet_tests z n m (length sheets)) ≡ 0
          → (k : ℕ) → length (sector_repairs n (sheet_layout z) (erasures m)) ≤ k
          → (answer : Outcome) (after : List ℕ) → answer ≡ loss_outcome n (sheet_layout z) (erasures m)
          → after ≡ draft_sheets n (sheet_layout z) narrow (erasures m) k → Answers answer after
      unfolding plan_outcome plan_sheets loss_sheets draft_sheets
      planned tests k few answer after outcome written =
          let accepted : refusal (plan_tests z n m (length sheets)) ≡ 0 = both_passed z n m (length sheets) size sectors ∙ tests in (
            outcome ∙ sym (given-accepted _ _ _ accepted),
            written ∙ (rw (take_all k (sector_repairs n (sheet_layout z) (erasures m)) few)) ∙ sym (given-accepted _ _ _ accepted),
          )
