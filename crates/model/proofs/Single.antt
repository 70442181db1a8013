-- Blocks without sectors: with a single sector of the whole block every call does what it did without sectors.
-- Assumes nothing.
use mathlib.Core.Path.{◌≡◌, refl, sym, ◌∙◌, ap, ap₂, subst}
use mathlib.Core.Bool.{Bool, true, false, cond, ◌&&◌}
use mathlib.Core.List.{List, [], ◌∷◌, ◌++◌}
use Prim.Native.Nat.{ℕ, ◌*◌, ◌/◌, ◌%◌, ◌<◌}
use native.Mathlib.Nat.{add-zero, one-mul, mul-one, le_refl}
use native.Mathlib.Omega.{arith}
use borrow.Author.Tests.{eq-eqb, ne_eqb, eqb-true, eqb-false, ltb-true, le-leb}
use lib.Arith.{digits_div, digits_mod}
use lib.Dec.{eqb, ltb}
use lib.ListN.{length, get_or}
use Rattle.stripes.specs.Fold.{every, count}
use Rattle.stripes.specs.System.{Layout, whole}
use Rattle.stripes.specs.Erased.{erasures}
use Rattle.stripes.specs.Repair.{Entry, repairs, fatal, zeroed}
use Rattle.stripes.specs.Undetermined.{lost, determined, parts_cancel, saved}
use Rattle.stripes.specs.Smallest.{shown_cycle}
use Rattle.stripes.specs.Sectors.{sector_at, sectored, at_position, rising, sector_repairs, fatal_position}
use Rattle.stripes.specs.declared.Stretch.{Stretch}
use Rattle.stripes.proofs.Fold.{by_cases, and_both}
use Rattle.stripes.proofs.Sectors.{one-sector, one_position}
use Rattle.stripes.proofs.Positions.{fine_all, fatal_at, fine-below, fatal-sectors, of_position_lem, one-entries, one_of, one-order, one-fatal}
use Rattle.model.specs.Grid.{layout_of, column_base, disks, size_fits, sector_fits, sectors_fit, map_bytes, map_fits}
use Rattle.model.specs.Refusal.{Test, ◌unless◌, refusal, array_tests, sector_tests, earlier}
use Rattle.model.specs.Sheet.{Format, narrow, sheet_of, repair_sheets, blank_sheet, blank_sheets, sheet_at}
use Rattle.model.specs.Plan.{sheet_tests, plan_tests, sheet_layout, loss_outcome, loss_sheets, cycle_sheets, plan_outcome, plan_sheets, outcome_status}
use Rattle.model.specs.Turn.{loss_told, contradiction, repairs_made, turn_repairs, turn_of}
use Rattle.model.specs.Rebuild.{buffer_tests, buffer_refusal, rebuild_tests, rebuild_refusal, rebuild_turn}
use Rattle.model.specs.Single.{whole_tests, whole_outcome, whole_sheet, PlanAlone, plan_whole, plan_whole_sheet, whole_turn, rebuild_whole, follow_whole_status, follow_whole, follow_whole_array, save_whole_status, save_whole, save_whole_array, can_look_whole}
use Rattle.model.specs.Chain.{clean_tests, clean_refusal, chain_entries}
use Rattle.model.specs.Follow.{sheets_entries, sheets_tests, list_tests, follow_tests, follow_status, follow_outcome, follow_array}
use Rattle.model.specs.Save.{map_tests, save_tests, save_status, save_answer, save_array}
use Rattle.model.specs.Array.{all_present, can_look}
use Rattle.model.specs.declared.Size.{Size}
use Rattle.model.specs.Outcome.{Repairs, Fatal, Refused}
use Rattle.model.specs.Saving.{Saved, Refused as Saving-as-Refused}
use Rattle.model.proofs.Grid.{one_byte, block_fits_lem}
use Rattle.model.proofs.Refusal.{refused_first, refusal-rest, passes, passed, array-fits, array_passed, given-refused}
use Rattle.model.proofs.Accept.{buffers_fit}
use Rattle.model.proofs.Chain.{clean_goes_on}
use Rattle.model.proofs.Follow.{buffers_seven, follow_first, status_is}
use Rattle.model.proofs.SheetRow.{one_sheet, whole_sheet_lem, repair_sheet_at, cycle-sheet_at, no_sheets, sheets-next, sheets_go_on}

-- ---- the sheets of one position
module _ (f : Format) where
  one_list : (v : List Entry) → repair_sheets f 1 v ≡ sheet_of f f.repair_kind v
  unfolding repair_sheets
  one_list v = one_sheet _ ∙ ap (sheet_of f f.repair_kind) (one_of v)

  one-blank : blank_sheets f 1 ≡ blank_sheet f
  unfolding blank_sheets
  one-blank = one_sheet _

  one-cycle : (v : List Entry) → cycle_sheets f 1 0 v ≡ sheet_of f f.loop_kind v
  unfolding cycle_sheets
  one-cycle v = one_sheet _

-- ---- a loss
module _ (L : Layout) (e : ℕ → Bool) where
  pub loss_single : loss_outcome 1 L e ≡ whole_outcome L e
  unfolding loss_outcome whole_outcome
  loss_single = rw (one-fatal L e, one-order L e) (go (fatal L e))
    where
      go : (t : Bool) → cond (ltb (cond t 0 1) 1) (Fatal (lost L (at_position 1 (cond t 0 1) e)) (cond t 0 1)) (Repairs (length (repairs L e)))
          ≡ cond t (Fatal (lost L e) 0) (Repairs (length (repairs L e)))
      go true = ap (λ (c : ℕ → Bool). Fatal (lost L c) 0) (one_position e)
      go false = refl

  pub sheets_single : (f : Format) → loss_sheets 1 L f e ≡ whole_sheet L f e
  unfolding loss_sheets whole_sheet
  sheets_single f = rw (one-fatal L e, one-order L e) (go (fatal L e))
    where
      go : (t : Bool) → cond (ltb (cond t 0 1) 1) (cycle_sheets f 1 (cond t 0 1) (shown_cycle L (at_position 1 (cond t 0 1) e))) (repair_sheets f 1 (repairs L e))
          ≡ cond t (sheet_of f f.loop_kind (shown_cycle L e)) (sheet_of f f.repair_kind (repairs L e))
      go true = one-cycle f (shown_cycle L (at_position 1 0 e)) ∙ ap (λ (c : ℕ → Bool). sheet_of f f.loop_kind (shown_cycle L c)) (one_position e)
      go false = one_list f (repairs L e)

-- ---- plan
tests_single : (z : Size) (m : List ℕ) (len : ℕ) → sheet_tests z 1 m len ≡ whole_tests z m len
unfolding sheet_tests whole_tests
tests_single z m len = ap (λ (k : ℕ). 4 unless map_fits k m ∷ 5 unless eqb len 98 ∷ []) (one_byte z)

plan_tests_single : (z : Size) (m : List ℕ) (len : ℕ) → refusal (plan_tests z 1 m len) ≡ refusal (1 unless size_fits z ∷ whole_tests z m len)
unfolding plan_tests refusal sectors_fit
plan_tests_single z m len = ap (λ (ts : List Test). refusal (1 unless size_fits z ∷ ts)) (tests_single z m len)

pub plan_single : (z : Size) (m s : List ℕ) → (plan_outcome z 1 m s ≡ plan_whole z m s) × (plan_sheets z 1 m s ≡ plan_whole_sheet z m s)
unfolding plan_outcome plan_sheets plan_whole plan_whole_sheet
plan_single z m s =
    rw (plan_tests_single z m (length s), loss_single (sheet_layout z) (erasures m), sheets_single (sheet_layout z) (erasures m) narrow) (refl, refl)

-- ---- each position by itself
module _ (n : ℕ) (L : Layout) (f : Format) (e : ℕ → Bool) where
  abbrev there : ℕ → ℕ → Bool
  there p = at_position n p e

  -- What a position has alone.
  alone-fatal : (p : ℕ) → fatal L (there p) ≡ true
      → (whole_outcome L (there p) ≡ Fatal (lost L (there p)) 0) × (whole_sheet L f (there p) ≡ sheet_of f f.loop_kind (shown_cycle L (there p)))
  unfolding whole_outcome whole_sheet
  alone-fatal p lossy = (rw lossy refl, rw lossy refl)

  alone-fine : (p : ℕ) → fatal L (there p) ≡ false
      → (outcome_status (whole_outcome L (there p)) ≡ 0) × (whole_sheet L f (there p) ≡ sheet_of f f.repair_kind (repairs L (there p)))
  unfolding whole_outcome whole_sheet outcome_status
  alone-fine p fine = (rw fine refl, rw fine refl)

  -- A plan for all of them.
  named-alone : (p : ℕ) → p ≡ fatal_position n L e → p < n
      → PlanAlone n L f e (Fatal (lost L (there p)) p) (cycle_sheets f n p (shown_cycle L (there p)))
  unfolding outcome_status
  named-alone p is inside =
      let (answer, sheet) = alone-fatal p (fatal_at n L e is inside) in
      record {
        listed = λ none. absurd (omega arith);
        named = λ number q same.
            let here : p ≡ q = cc in
            let counted : lost L (there p) ≡ number = cc in
            subst
            (λ (q : ℕ).
            (q < n) × (whole_outcome L (there q) ≡ Fatal number 0)
            × (sheet_at f q (cycle_sheets f n p (shown_cycle L (there p))) ≡ whole_sheet L f (there q))
            × ((r : ℕ) → r < q → outcome_status (whole_outcome L (there r)) ≡ 0)
            × ((r : ℕ) → r < n → (r ≡ q → ⊥) → sheet_at f r (cycle_sheets f n p (shown_cycle L (there p))) ≡ blank_sheet f))
            here (
              inside,
              answer ∙ ap (λ (c : ℕ). Fatal c 0) counted,
              cycle-sheet_at f n p (shown_cycle L (there p)) p inside ∙ (rw (eq-eqb p p refl) (sym sheet)),
              λ r below. (alone-fine r (fine-below n L e (omega arith))).0,
              λ r l other. cycle-sheet_at f n p (shown_cycle L (there p)) r l ∙ (rw (ne_eqb r p other) refl),
            );
      }

  listed-alone : fatal (sectored n L) e ≡ false
      → PlanAlone n L f e (Repairs (length (sector_repairs n L e))) (repair_sheets f n (sector_repairs n L e))
  unfolding sector_repairs
  listed-alone fine =
      record {
        listed = λ none p l.
            let (answer, sheet) = alone-fine p (fine_all n L e fine l) in (
              answer,
              repair_sheet_at f n (sector_repairs n L e) p l
                  ∙ ap (sheet_of f f.repair_kind) (of_position_lem n (λ p. repairs L (there p)) n (le_refl n) l) ∙ sym sheet,
            );
        named = λ number q same. let z : ◌≡◌ {A = ℕ} 0 1 = cc in absurd (omega arith);
      }

  pub loss_alone : PlanAlone n L f e (loss_outcome n L e) (loss_sheets n L f e)
  unfolding loss_outcome loss_sheets
  loss_alone = go (fatal (sectored n L) e) refl
    where
      go : (b : Bool) → fatal (sectored n L) e ≡ b → PlanAlone n L f e (loss_outcome n L e) (loss_sheets n L f e)
      go true q =
          let found = sym (fatal-sectors n L e) ∙ q in rw found (named-alone (fatal_position n L e) refl (ltb-true (fatal_position n L e) n found))
      go false q = rw (sym (fatal-sectors n L e) ∙ q) (listed-alone q)

pub plan-alone : (z : Size) (n : ℕ) (m s : List ℕ) → refusal (plan_tests z n m (length s)) ≡ 0
    → PlanAlone n (sheet_layout z) narrow (erasures m) (plan_outcome z n m s) (plan_sheets z n m s)
unfolding plan_outcome plan_sheets
plan-alone z n m s ok = rw ok (loss_alone n (sheet_layout z) narrow (erasures m))

-- ---- a turn
pub turn_single : (L : Layout) (f : Format) (x : Stretch) (k : ℕ) (a m : List ℕ) → turn_of 1 L f x k a m ≡ whole_turn L f x k a m
unfolding turn_of whole_turn loss_told contradiction repairs_made turn_repairs
turn_single L f x k a m =
    rw (one-sector L, one-order L (erasures m), loss_single L (erasures m), sheets_single L (erasures m) f, one-blank f, one_list f) refl

-- ---- blocks of one sector

-- The block is its own single sector.
module _ (B : ℕ) (some : 0 < B) where
  one_number : B / B ≡ 1
  one_number = ap (λ (k : ℕ). k / B) (sym (add-zero (1 * B) ∙ one-mul B)) ∙ digits_div 1 some

  one-divides : sector_fits B B ≡ true
  unfolding sector_fits
  one-divides =
      and_both (le-leb 1 B some) (eq-eqb (B % B) 0 (ap (λ (k : ℕ). k % B) (sym (add-zero (1 * B) ∙ one-mul B)) ∙ digits_mod 1 some))

-- What holds where the array and its block fit, with the sector 1 of 1, and where the tests of the array refuse, holds.
module _ (z : Size) (B len : ℕ) where
  by-array : (P : Type 0) → (refusal (array_tests z B len) ≡ 0 → (B / B ≡ 1) → (sector_fits B B ≡ true) → P)
      → ((refusal (array_tests z B len) ≡ 0 → ⊥) → P) → P
  by-array P fits refused =
      by_cases (λ (t : Bool). P) (eqb (refusal (array_tests z B len)) 0)
      (λ e.
      let ok = eqb-true (refusal (array_tests z B len)) 0 e in
      let some = (block_fits_lem B (array-fits z B len ok).block).low in
      fits ok (one_number B some) (one-divides B some))
      (λ e. refused (eqb-false (refusal (array_tests z B len)) 0 e))

  -- So the tests of the sectors change nothing, whatever tests follow.
  sector-single : (n : ℕ → List Test) → refusal (sector_tests z B len B ++ n (B / B)) ≡ refusal (array_tests z B len ++ n 1)
  unfolding sector_tests array_tests
  sector-single n =
      by-array (refusal (sector_tests z B len B ++ n (B / B)) ≡ refusal (array_tests z B len ++ n 1))
      (λ ok one divides.
      let array = array-fits z B len ok in
      array_passed z B len array _ ∙ passes 16 (sector_fits B B) _ divides ∙ ap (λ (k : ℕ). refusal (n k)) one ∙ sym (array_passed z B len array (n 1)))
      (λ refused. refused_first (array_tests z B len) _ refused ∙ sym (refused_first (array_tests z B len) (n 1) refused))

  -- And a call that gives y of its refusal, and else x of the number of sectors, gives the same.
  given-single : {A : Type 0} (n : ℕ → List Test) (x : ℕ → A) (y : ℕ → A)
      → cond (eqb (refusal (sector_tests z B len B ++ n (B / B))) 0) (x (B / B)) (y (refusal (sector_tests z B len B ++ n (B / B))))
      ≡ cond (eqb (refusal (array_tests z B len ++ n 1)) 0) (x 1) (y (refusal (array_tests z B len ++ n 1)))
  given-single {A} n x y =
      ap (λ (k : ℕ). cond (eqb k 0) (x (B / B)) (y k)) (sector-single n)
      ∙ by-array (cond (eqb (refusal (array_tests z B len ++ n 1)) 0) (x (B / B)) (y (refusal (array_tests z B len ++ n 1)))
      ≡ cond (eqb (refusal (array_tests z B len ++ n 1)) 0) (x 1) (y (refusal (array_tests z B len ++ n 1))))
      (λ ok one divides. ap (λ (k : ℕ). cond (eqb (refusal (array_tests z B len ++ n 1)) 0) (x k) (y (refusal (array_tests z B len ++ n 1)))) one)
      (λ refused.
      let some : refusal (array_tests z B len ++ n 1) ≡ 0 → ⊥ = λ q. refused (sym (refused_first (array_tests z B len) (n 1) refused) ∙ q) in
      given-refused _ (x (B / B)) _ some ∙ sym (given-refused _ (x 1) _ some))

-- The single sector of a disk is present if the disk is.
one-present : (m : List ℕ) (d : ℕ) → all_present 1 m d ≡ eqb (get_or m d 0) 0
unfolding all_present every sector_at
one-present m d = ap (λ (k : ℕ). eqb (get_or m k 0) 0) (add-zero (d * 1) ∙ mul-one d)

-- The single sheet of a buffer is the buffer: it gets its own number, and lists what it lists.
module _ (s : List ℕ) (long : length s ≡ 98) where
  one-number-sheet : refusal (sheets_tests narrow 1 s) ≡ clean_refusal narrow s
  unfolding earlier
  one-number-sheet =
      sheets-next narrow s 0 ∙ ap₂ earlier (no_sheets narrow s) (ap (clean_refusal narrow) (whole_sheet_lem narrow s long))

  one-entries-sheet : sheets_entries narrow 1 s ≡ chain_entries narrow s
  unfolding sheets_entries rising
  one-entries-sheet = one-entries _ ∙ ap (chain_entries narrow) (whole_sheet_lem narrow s long)

  -- So the tests of the sheets come to those of the sheet, whatever tests follow.
  sheet-single : (ts : List Test) → refusal (sheets_tests narrow 1 s ++ ts) ≡ refusal (clean_tests narrow s ++ ts)
  unfolding clean_refusal
  sheet-single ts =
      by_cases (λ (t : Bool). refusal (sheets_tests narrow 1 s ++ ts) ≡ refusal (clean_tests narrow s ++ ts)) (eqb (clean_refusal narrow s) 0)
      (λ e.
      let clean = eqb-true (clean_refusal narrow s) 0 e in
      sheets_go_on narrow 1 s (one-number-sheet ∙ clean) ts ∙ sym (clean_goes_on narrow s clean ts))
      (λ e.
      let some = eqb-false (clean_refusal narrow s) 0 e in
      refused_first (sheets_tests narrow 1 s) ts (λ q. some (sym one-number-sheet ∙ q)) ∙ one-number-sheet
      ∙ sym (refused_first (clean_tests narrow s) ts some))

-- Where the tests of a map and a sheet are passed, the sheet is as long as a sheet.
whole_long : (z : Size) (m s : List ℕ) → refusal (whole_tests z m (length s)) ≡ 0 → length s ≡ 98
unfolding whole_tests
whole_long z m s e =
    let (map, e₂) = passed 4 (map_fits (disks z) m) _ (omega arith) e in
    eqb-true (length s) 98 (passed 5 (eqb (length s) 98) [] (omega arith) e₂).0

-- ---- the calls on an array
module _ (z : Size) (B : ℕ) (a m : List ℕ) where
  pub rebuild_single : (s : List ℕ) (k : ℕ) → rebuild_turn z B B a m s k ≡ rebuild_whole z B a m s k
  unfolding rebuild_turn rebuild_whole rebuild_refusal rebuild_tests buffer_tests sector_tests array_tests
  rebuild_single s k =
      given-single z B (length a) (λ n. sheet_tests z n m (length s) ++ (12 unless ltb 0 k ∷ [])) (λ n. turn_of n (sheet_layout z) narrow (whole B) k a m)
      (λ r. record { answer = Refused r; array = a; map = m; sheets = s })
      ∙ (rw (tests_single z m (length s), turn_single (sheet_layout z) narrow (whole B) k a m) refl)

  -- Save, which takes no sheet.
  pub save_single : (save_answer z B B a m ≡ save_whole z B a m) × (save_array z B B a m ≡ save_whole_array z B a m)
  unfolding save_answer save_array save_status save_tests map_tests sector_tests array_tests save_whole save_whole_array save_whole_status
  save_single =
      let L : Layout = layout_of z (column_base z) in
      let tests : ℕ → List Test = λ n. 4 unless map_fits (map_bytes z n) m ∷ 7 unless parts_cancel (sectored n L) (whole B) (erasures m) a ∷ [] in (
        given-single z B (length a) tests (λ n. Saved (count (sectored n L).disks (determined (sectored n L) (erasures m)))) Saving-as-Refused
            ∙ (rw (one_byte z, one-sector L) refl),
        given-single z B (length a) tests (λ n. saved (sectored n L) (whole B) a (erasures m)) (λ r. cond (eqb r 7) (zeroed (whole B) a (erasures m)) a)
            ∙ (rw (one_byte z, one-sector L) refl),
      )

  -- Look.
  pub look_single : (d : ℕ) → can_look z B B a m d ≡ can_look_whole z B a m d
  unfolding can_look can_look_whole sector_tests array_tests
  look_single d =
      ap (λ (k : ℕ). eqb k 0 && (map_fits (map_bytes z (B / B)) m && (ltb d (disks z) && all_present (B / B) m d))) (sector-single z B (length a) (λ n. []))
      ∙ by-array z B (length a)
      ((eqb (refusal (array_tests z B (length a))) 0 && (map_fits (map_bytes z (B / B)) m && (ltb d (disks z) && all_present (B / B) m d)))
      ≡ (eqb (refusal (array_tests z B (length a))) 0 && (map_fits (disks z) m && (ltb d (disks z) && eqb (get_or m d 0) 0))))
      (λ ok one divides. rw (one, one_byte z, one-present m d) refl)
      (λ refused. rw (ne_eqb (refusal (array_tests z B (length a))) 0 refused) refl)

  module _ (s : List ℕ) where
    -- What follow tests behind the array.
    follow-tests : let L : Layout = sheet_layout z in
        refusal (sheet_tests z 1 m (length s) ++ (sheets_tests narrow 1 s ++ list_tests (sectored 1 L) (whole B) a m (sheets_entries narrow 1 s)))
        ≡ refusal (whole_tests z m (length s) ++ (clean_tests narrow s ++ list_tests L (whole B) a m (chain_entries narrow s)))
    follow-tests =
        let L : Layout = sheet_layout z in
        let tests : List Test = whole_tests z m (length s) in
        let rest : List Test = sheets_tests narrow 1 s ++ list_tests L (whole B) a m (sheets_entries narrow 1 s) in
        (rw (tests_single z m (length s), one-sector L) refl)
        ∙ by_cases
        (λ (t : Bool). refusal (tests ++ rest) ≡ refusal (tests ++ (clean_tests narrow s ++ list_tests L (whole B) a m (chain_entries narrow s))))
        (eqb (refusal tests) 0)
        (λ e.
        let long = whole_long z m s (eqb-true (refusal tests) 0 e) in
        refusal-rest tests rest _ (sheet-single s long _ ∙ ap (λ (v : List Entry). refusal (clean_tests narrow s ++ list_tests L (whole B) a m v)) (one-entries-sheet s long)))
        (λ e.
        let some = eqb-false (refusal tests) 0 e in
        refused_first tests rest some ∙ sym (refused_first tests _ some))

    follow-number : follow_status z B B a m s ≡ follow_whole_status z B a m s
    unfolding follow_status follow_tests buffer_tests sector_tests array_tests follow_whole_status
    follow-number =
        let L : Layout = sheet_layout z in
        sector-single z B (length a) (λ n.
        sheet_tests z n m (length s) ++ (sheets_tests narrow n s ++ list_tests (sectored n L) (whole B) a m (sheets_entries narrow n s)))
        ∙ refusal-rest (array_tests z B (length a)) _ _ follow-tests

    pub follow_single : (follow_outcome z B B a m s ≡ follow_whole z B a m s) × (follow_array z B B a m s ≡ follow_whole_array z B a m s)
    unfolding follow_outcome follow_array follow_whole follow_whole_array outcome_status
    follow_single =
        by_cases (λ (t : Bool). (follow_outcome z B B a m s ≡ follow_whole z B a m s) × (follow_array z B B a m s ≡ follow_whole_array z B a m s))
        (eqb (buffer_refusal z B B a m s) 0)
        (λ e.
        let fit = buffers_fit z B B a m s (eqb-true (buffer_refusal z B B a m s) 0 e) in
        let one : B / B ≡ 1 = one_number B (block_fits_lem B fit.array.block).low in
        let long : length s ≡ 98 = fit.long ∙ ap (λ (k : ℕ). 98 * k) one in
        rw (follow-number, one, one-entries-sheet s long, one-sector (sheet_layout z)) (refl, refl))
        (λ e.
        let refused = eqb-false (buffer_refusal z B B a m s) 0 e in
        let (answer, array) = follow_first z B B a m s refused in
        let number : follow_whole_status z B a m s ≡ buffer_refusal z B B a m s =
        sym follow-number ∙ sym (status_is z B B a m s) ∙ ap outcome_status answer in (
          answer ∙ sym (given-refused _ _ _ (λ q. refused (sym number ∙ q)) ∙ ap Refused number),
          array
              ∙ sym (given-refused (follow_whole_status z B a m s) _ _ (λ q. refused (sym number ∙ q))
              ∙ ap (λ (t : Bool). cond t (zeroed (whole B) a (erasures m)) a) (ne_eqb _ 7 (λ q. buffers_seven z B B a m s (sym number ∙ q)))),
        ))
