-- The loop of a draft: what holds after the first positions, and what each of its ends comes to.
-- Assumes nothing.
use mathlib.Core.Path.{◌≡◌, refl, sym, ◌∙◌, ap, ap₂}
use mathlib.Core.Bool.{Bool, true, false, cond}
use mathlib.Core.List.{List, map}
use Prim.Native.Nat.{ℕ, zero, suc, ◌+◌, ◌*◌, ◌-◌, ◌≤◌, ◌<◌, min}
use native.Mathlib.Nat.{not-suc-le-zero}
use native.Mathlib.Numerals.{add-one}
use native.Mathlib.Omega.{arith}
use borrow.Author.Tests.{lt-ltb, le-ltb}
use lib.Dec.{ltb, eqb}
use lib.ListN.{length, take, length-append, length-map}
use Rattle.stripes.specs.System.{Layout}
use Rattle.stripes.specs.Repair.{Entry, repairs, fatal}
use Rattle.stripes.specs.Undetermined.{lost}
use Rattle.stripes.specs.Smallest.{shown_cycle}
use Rattle.stripes.specs.Sectors.{at_position, sector_entry, rising, sector_repairs, fatal_position}
use Rattle.stripes.proofs.Fold.{by_cases, below_suc, lowest_found, lowest-end}
use Rattle.stripes.proofs.Peel.{repairs_peels}
use Rattle.stripes.proofs.Positions.{of_position-take}
use Rattle.model.specs.Grid.{size_fits}
use Rattle.model.specs.Sheet.{narrow, sheet_of, blank_sheet, sheets_of, sheet_at, repair_sheets}
use Rattle.model.specs.Plan.{loss_outcome, cycle_sheets, sheet_layout}
use Rattle.model.specs.declared.Size.{Size}
use Rattle.model.specs.Outcome.{Outcome}
use Rattle.model.specs.Outcome.{Repairs, Fatal}
use Rattle.model.specs.declared.answer.Verdict.{Verdict}
use Rattle.model.specs.declared.answer.Verdict.TheVariants as Found
use Rattle.model.specs.Answers.{verdict_of}
use Rattle.model.proofs.Grid.{rows-below}
use Rattle.model.proofs.Limits.{grid-repairs-bound}
use Rattle.model.proofs.Sheets.{sheet_length}
use Rattle.model.proofs.SheetRow.{sheets_ext, sheets_split}
use Rattle.plan.specs.Drafted.{position_outcome, draft_sheet, draft_sheets}
use Rattle.sheet.proofs.Put.{put_sheet, put_length, put_own, put_other}

-- ---- one position
module _ (L : Layout) (e : ℕ → Bool) where
  -- The sheet of a position has its length.
  draft-length : (k : ℕ) → length (draft_sheet L narrow e k) ≡ 98
  unfolding draft_sheet
  draft-length k =
      by_cases (λ (b : Bool). length (cond b (sheet_of narrow 2 (shown_cycle L e)) (sheet_of narrow 1 (take k (repairs L e)))) ≡ 98) (fatal L e)
      (λ h. sheet_length narrow 2 (shown_cycle L e)) (λ h. sheet_length narrow 1 (take k (repairs L e)))

  -- An answer with repairs gives their number, and any other says that the loss is fatal.
  pub repairs_told : (p : ℕ) {number : ℕ} → position_outcome L e p ≡ Repairs number → (fatal L e ≡ false) × (number ≡ length (repairs L e))
  unfolding position_outcome
  repairs_told p {number} h = go (fatal L e) h
    where
      go : (b : Bool) → cond b (Fatal (lost L e) p) (Repairs (length (repairs L e))) ≡ Repairs number
          → (b ≡ false) × (number ≡ length (repairs L e))
      go true h = let z : ◌≡◌ {A = ℕ} 0 1 = cc in absurd (omega arith)
      go false h = (refl, cc)

  fatal-told : (p : ℕ) (answer : Outcome) → answer ≡ position_outcome L e p → ((number : ℕ) → answer ≡ Repairs number → ⊥)
      → fatal L e ≡ true
  unfolding position_outcome
  fatal-told p answer says other = go (fatal L e) says
    where
      go : (b : Bool) → answer ≡ cond b (Fatal (lost L e) p) (Repairs (length (repairs L e))) → b ≡ true
      go true is = refl
      go false is = absurd (other _ is)

-- What code answers in place of repairs is no number of repairs.
pub unrepaired : (v : Verdict) → ((number : ℕ) → v ≡ Found.Repairs number → ⊥) → (number : ℕ) → verdict_of v ≡ Repairs number → ⊥
unfolding verdict_of
unrepaired (Found.Repairs c) other number h = other c refl
unrepaired (Found.Fatal l p) other number h = let z : ◌≡◌ {A = ℕ} 0 1 = cc in omega arith

-- ---- the positions in rising order
module _ (n : ℕ) (L : Layout) (e : ℕ → Bool) where
  -- The repairs at a position, and how many come before them.
  abbrev own : ℕ → List Entry
  own p = repairs L (at_position n p e)

  abbrev pub before : ℕ → ℕ
  before p = length (rising n own p)

  before-next : (p : ℕ) → before (suc p) ≡ before p + length (own p)
  unfolding rising
  before-next p =
      length-append (rising n own p) (map (sector_entry n p) (own p)) ∙ ap (◌+◌ (before p)) (length-map (own p) (sector_entry n p))

  -- The lowest position where the loss is fatal, and where there is none.
  first-fatal : {p : ℕ} → p < n → ((q : ℕ) → q < p → fatal L (at_position n q e) ≡ false) → fatal L (at_position n p e) ≡ true
      → p ≡ fatal_position n L e
  unfolding fatal_position
  first-fatal {p} place fine lossy = lowest_found n (λ q. fatal L (at_position n q e)) p place fine lossy

  none-fatal : ((q : ℕ) → q < n → fatal L (at_position n q e) ≡ false) → n ≡ fatal_position n L e
  unfolding fatal_position
  none-fatal fine = lowest-end n (λ q. fatal L (at_position n q e)) fine

  module _ (limit : ℕ) where
    -- After p positions, none of which is fatal: the count, what is left of the limit, and what the sheets of these positions list.
    pub record Begun (p count left : ℕ) (sheets : List ℕ) : Type 0 where
      pub within : p ≤ n
      pub long : length sheets ≡ 98 * n
      pub fine : (q : ℕ) → q < p → fatal L (at_position n q e) ≡ false
      pub counted : count ≡ before p
      pub rest : left ≡ limit - count
      pub written : (q : ℕ) → q < p → sheet_at narrow q sheets ≡ sheet_of narrow 1 (take (limit - before q) (own q))

    pub begins : (sheets : List ℕ) → length sheets ≡ 98 * n → Begun 0 0 limit sheets
    unfolding rising
    begins sheets long =
        record {
          within = omega arith;
          long = long;
          fine = λ q l. absurd (not-suc-le-zero l);
          counted = refl;
          rest = omega arith;
          written = λ q l. absurd (not-suc-le-zero l);
        }

    -- The answer and the sheets are those of the definitions.
    abbrev pub Ends : Outcome → (after : List ℕ) → Type 0
    Ends answer after = (answer ≡ loss_outcome n L e) × (after ≡ draft_sheets n L narrow e limit)

    -- All positions are done.
    pub ends : {p count left : ℕ} {sheets : List ℕ} → Begun p count left sheets → n ≤ p → Ends (Repairs count) sheets
    unfolding loss_outcome draft_sheets sector_repairs repair_sheets
    ends {p} {count} {left} {sheets} b all =
        let within = b.within in
        let last : p ≡ n = omega arith in
        let none = none-fatal (λ q l. b.fine q (omega arith)) in
        let over : ltb (fatal_position n L e) n ≡ false = le-ltb (fatal_position n L e) n (omega arith) in (
          ap Repairs (b.counted ∙ ap before last) ∙ (rw over),
          sheets_split narrow n sheets b.long
              ∙ sheets_ext n (λ q l.
              b.written q (omega arith) ∙ ap (sheet_of narrow 1) (sym (of_position-take n own limit l)))
              ∙ (rw over),
        )

    -- A position more, whose sheet is written: the loss there is fatal, or it is not.
    module _ {p count left : ℕ} {sheets : List ℕ} (b : Begun p count left sheets) (place : p < n) {answer : Outcome} {sheet : List ℕ}
        (says : answer ≡ position_outcome L (at_position n p e) p) (is : sheet ≡ draft_sheet L narrow (at_position n p e) left) where
      abbrev after : List ℕ
      after = put_sheet p sheet sheets

      size : length sheet ≡ 98
      size = ap length is ∙ draft-length L (at_position n p e) left

      pub after-length : length after ≡ 98 * n
      after-length = put_length n sheets b.long p place sheet size

      after-own : sheet_at narrow p after ≡ draft_sheet L narrow (at_position n p e) left
      after-own = put_own n sheets b.long p place sheet size ∙ is

      pub after-other : (q : ℕ) → (q ≡ p → ⊥) → sheet_at narrow q after ≡ sheet_at narrow q sheets
      after-other = put_other n sheets b.long p place sheet size

      pub goes : {number : ℕ} → answer ≡ Repairs number → {taken : ℕ} → taken ≡ min number left
          → Begun (p + 1) (count + number) (left - taken) after
      unfolding draft_sheet
      goes {number} told {taken} least =
          let (fine, length_is) = repairs_told L (at_position n p e) p (sym says ∙ told) in
          let next = before-next p in
          let counted = b.counted in
          let rest = b.rest in
          record {
            within = omega arith;
            long = after-length;
            fine = λ q l. below_suc (λ q. fatal L (at_position n q e) ≡ false) p b.fine fine q (omega arith);
            counted = ap₂ ◌+◌ counted length_is ∙ sym next ∙ ap before (sym (add-one p));
            rest = omega arith;
            written = λ q l.
                below_suc (λ q. sheet_at narrow q after ≡ sheet_of narrow 1 (take (limit - before q) (own q))) p
                (λ q h. after-other q (λ same. omega arith) ∙ b.written q h)
                (after-own ∙ (rw fine) ∙ ap (λ (k : ℕ). sheet_of narrow 1 (take k (own p))) (rest ∙ ap (◌-◌ limit) counted))
                q (omega arith);
          }

      pub stops : ((number : ℕ) → answer ≡ Repairs number → ⊥)
          → {zeroed : List ℕ} → zeroed ≡ sheets_of n (λ q. cond (eqb q p) (sheet_at narrow p after) (blank_sheet narrow))
          → Ends answer zeroed
      unfolding position_outcome draft_sheet loss_outcome draft_sheets cycle_sheets
      stops other zeroes =
          let lossy = fatal-told L (at_position n p e) p answer says other in
          let told : answer ≡ Fatal (lost L (at_position n p e)) p = says ∙ (rw lossy) in
          let shown : sheet_at narrow p after ≡ sheet_of narrow 2 (shown_cycle L (at_position n p e)) = after-own ∙ (rw lossy) in
          let first = first-fatal place b.fine lossy in
          let some = lt-ltb p n place in (
            told ∙ (rw (← first, some)),
            zeroes ∙ ap (λ (s : List ℕ). sheets_of n (λ q. cond (eqb q p) s (blank_sheet narrow))) shown ∙ (rw (← first, some)),
          )

-- ---- how many repairs there are
module _ (z : Size) (size : size_fits z ≡ true) where
  pub own_few : (e : ℕ → Bool) → length (repairs (sheet_layout z) e) < 32
  own_few e = grid-repairs-bound z narrow.base (rows-below z size) size e (repairs (sheet_layout z) e) (repairs_peels (sheet_layout z) e)

  pub before-few : (n : ℕ) (e : ℕ → Bool) (p : ℕ) → before n (sheet_layout z) e p ≤ 32 * p
  unfolding rising
  before-few n e zero = omega arith
  before-few n e (suc p) =
      let next = before-next n (sheet_layout z) e p in
      let here = own_few (at_position n p e) in
      let up = before-few n e p in
      omega arith

  pub all_few : (n : ℕ) (e : ℕ → Bool) → length (sector_repairs n (sheet_layout z) e) ≤ n * 32
  unfolding sector_repairs
  all_few n e = let few = before-few n e n in omega arith
