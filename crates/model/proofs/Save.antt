-- Save in paper 02's words: which survivors it refuses, what it gives back, and that it does as rebuild where the loss is not fatal.
-- Assumes nothing.
use mathlib.Core.Path.{◌≡◌, refl, sym, ◌∙◌, ap}
use mathlib.Core.Bool.{Bool, true, false, cond, true≢false}
use mathlib.Core.Logic.{◌↔◌}
use mathlib.Core.List.{List, ◌++◌}
use Prim.Native.Nat.{ℕ, ◌*◌, ◌/◌, ◌≤◌, ◌<◌}
use native.Mathlib.Omega.{arith}
use borrow.Author.Tests.{eq-eqb, ne_eqb, eqb-true, eqb-false, lt-ltb, ltb-true, not-true}
use lib.Dec.{eqb, ltb}
use lib.ListN.{length, set}
use Rattle.stripes.specs.Fold.{count}
use Rattle.stripes.specs.System.{Layout, TwoStripes, whole, byte, Codeword, Bytes, consistent}
use Rattle.stripes.specs.Erased.{erasures, without, Agree, Belongs, Ambiguous, AmbiguousIn}
use Rattle.stripes.specs.Repair.{Entry, fatal, rebuilt, zeroed}
use Rattle.stripes.specs.Undetermined.{undetermined, determined, lost, parts_cancel, saved}
use Rattle.stripes.specs.Sectors.{sector_at, sectored, at_position, sector_repairs, fatal_position}
use Rattle.stripes.proofs.Fold.{by_cases, same_test, lowest_found}
use Rattle.stripes.proofs.Bytes.{whole-inside, length-changed}
use Rattle.stripes.proofs.Erased.{erasures-clear}
use Rattle.stripes.proofs.Saved.{determined-not, determined_is, determined-count, all_determined, length-saved, saved_is, saved-whole}
use Rattle.stripes.proofs.Sectors.{two-sectors, without-sector, without_elsewhere}
use Rattle.stripes.proofs.SectorBytes.{codeword_sectors}
use Rattle.stripes.proofs.SectorParts.{determined-sector}
use Rattle.stripes.proofs.Positions.{fatal_at, fine-below, fatal-sectors, length-order}
use Rattle.stripes.proofs.Theorems.{fatal_ambiguous, fatal-lost, told_by_count, undetermined-differ, parts_judged, lost-counted}
use Rattle.model.specs.Grid.{size_fits, block_fits, array_bytes, sector_fits, map_bytes, map_fits, column_base}
use Rattle.model.specs.Refusal.{Test, refusal, array_tests, sector_tests}
use Rattle.model.specs.Edition.{Edition, superparity}
use Rattle.model.specs.Sheet.{Format, narrow, sheets_bytes}
use Rattle.model.specs.Plan.{sheet_tests, loss_outcome, sheet_layout, outcome_status, outcome_count}
use Rattle.model.specs.Turn.{repairs_made, contradiction, whole_rebuild}
use Rattle.model.specs.Rebuild.{buffer_tests, buffer_refusal, rebuild_turn}
use Rattle.model.specs.Save.{save_layout, map_tests, save_tests, save_status, save_answer, save_array, saving_status, saving_count, AsTurn, SaveDemand}
use Rattle.model.specs.declared.Size.{Size}
use Rattle.model.specs.Outcome.{Fatal, Refused as Outcome-as-Refused}
use Rattle.model.specs.Saving.{Saving}
use Rattle.model.specs.Saving.{Saved, Refused}
use Rattle.model.proofs.Refusal.{no_tests, by_test, passed, passes, fails, refused_first, ArrayFits, sector_tests_lem, sector_passed}
use Rattle.model.proofs.Losses.{Lawful, zero_six, zero_seven, order-restored, order_judged}
use Rattle.model.proofs.Demand3.{Cut, array-cut, superparity_lawful, rebuild_whole_lem}

-- ---- over any edition
module _ (E : Edition) (f : Format) (law : Lawful E f) (n w : ℕ) (some : 0 < w) (a m : List ℕ) (small : Bytes a)
    (sized : length a ≡ (sectored n E.layout).disks * w) where
  -- The stripe system of the sectors.
  abbrev L : Layout
  L = sectored n E.layout

  abbrev e : ℕ → Bool
  e = erasures m

  two : TwoStripes L
  two = two-sectors n E.layout law.two

  judged : (parts_cancel L (whole w) e a ≡ true) ↔ Belongs L (whole w) e a
  unfolding whole
  judged = parts_judged L two e (whole w) (whole-inside w) a sized small

  differs : (i : ℕ) → i < L.disks → (undetermined L e i ≡ true) ↔ AmbiguousIn L (whole w) e i
  unfolding whole
  differs = undetermined-differ L two e (whole w) (whole-inside w) some

  -- An array is sealed sector by sector exactly if it is sealed.
  same-words : (b : List ℕ) → Codeword L (whole w) b ↔ Codeword E.layout (whole (n * w)) b
  same-words = codeword_sectors n w (n * w) refl E.layout

  -- Where no two codewords agree on the survivors, the loss is not fatal.
  not-fatal : (Ambiguous L (whole w) e → ⊥) → fatal L e ≡ false
  not-fatal unique =
      by_cases (λ (t : Bool). t ≡ false) (fatal L e) (λ lossy. absurd (unique ((fatal_ambiguous L two e w some).0 lossy))) (λ fine. refl)

  -- Nor is the loss of few disks at each position.
  few-fine : ((p : ℕ) → p < n → count E.layout.disks (at_position n p e) ≤ E.always) → fatal L e ≡ false
  few-fine few =
      fatal-sectors n E.layout e
      ∙ by_cases (λ (t : Bool). t ≡ false) (ltb (fatal_position n E.layout e) n)
      (λ h.
      let place = ltb-true (fatal_position n E.layout e) n h in
      sym (fatal_at n E.layout e refl place) ∙ law.few (at_position n (fatal_position n E.layout e) e) (few _ place))
      (λ h. refl)

  -- Then everything comes back.
  all_restored : fatal L e ≡ false → (b : List ℕ) → Codeword L (whole w) b → Agree L (whole w) e a b
      → (Saved (count L.disks (determined L e)) ≡ Saved (count L.disks e)) × (saved L (whole w) a e ≡ b)
  unfolding whole
  all_restored fine b word agree = (ap Saved (all_determined L two e fine), saved-whole L two e fine w a b sized word agree)

  -- The survivors belong to a sealed array.
  when-saved : parts_cancel L (whole w) e a ≡ true → SaveDemand E n w a m (Saved (count L.disks (determined L e))) (saved L (whole w) a e)
  unfolding saving_status whole
  when-saved fit =
      let belongs = judged.0 fit in
      record {
        sealed = same-words;
        accepted = (λ s. belongs, λ h. refl);
        contradicted = (λ s. absurd (zero_seven s), λ none. absurd (none belongs));
        zeros = λ s. absurd (zero_seven s);
        sized = length-saved L (whole w) a e;
        saved_bytes = λ b word agree i l one q h.
            saved_is L (whole w) (whole-inside w) two e a b sized word agree i q l h
            ∙ ap (λ (t : Bool). cond t (byte (whole w) a i q) (byte (whole w) b i q))
            (by_cases (λ (t : Bool). t ≡ false) (undetermined L e i) (λ u. absurd (one ((differs i l).0 u))) (λ u. refl));
        kept_bytes = λ s i l both q h.
            let (b, word, agree) = belongs in
            saved_is L (whole w) (whole-inside w) two e a b sized word agree i q l h
            ∙ ap (λ (t : Bool). cond t (byte (whole w) a i q) (byte (whole w) b i q)) ((differs i l).1 both);
        number = λ s. (_, lost L e, refl, lost-counted L two e (whole w) (whole-inside w) some, determined-count L e);
        restored = λ unique b word agree. all_restored (not-fatal unique) b word agree;
        few = λ few b word agree. all_restored (few-fine few) b word agree;
      }

  -- They belong to none.
  when-contradicted : parts_cancel L (whole w) e a ≡ false → SaveDemand E n w a m (Refused 7) (zeroed (whole w) a e)
  unfolding saving_status zeroed
  when-contradicted unfit =
      let none : Belongs L (whole w) e a → ⊥ = λ h. true≢false (sym (judged.1 h) ∙ unfit) in
      record {
        sealed = same-words;
        accepted = (λ s. absurd (zero_seven (sym s)), λ h. absurd (none h));
        contradicted = (λ s. none, λ h. refl);
        zeros = λ s. refl;
        sized = length-changed (whole w) a _;
        saved_bytes = λ b word agree. absurd (none (b, word, agree));
        kept_bytes = λ s. absurd (zero_seven (sym s));
        number = λ s. absurd (zero_seven (sym s));
        restored = λ unique b word agree. absurd (none (b, word, agree));
        few = λ few b word agree. absurd (none (b, word, agree));
      }

  pub edition_saves : let fit : Bool = parts_cancel L (whole w) e a in
      SaveDemand E n w a m (cond fit (Saved (count L.disks (determined L e))) (Refused 7))
      (cond fit (saved L (whole w) a e) (zeroed (whole w) a e))
  edition_saves =
      by_cases
      (λ (t : Bool).
      SaveDemand E n w a m (cond t (Saved (count L.disks (determined L e))) (Refused 7))
      (cond t (saved L (whole w) a e) (zeroed (whole w) a e)))
      (parts_cancel L (whole w) e a) when-saved when-contradicted

-- ---- the call

-- Save answers r and leaves the array as b.
abbrev pub Saves : Size → (B w : ℕ) → (a m : List ℕ) → Saving → (b : List ℕ) → Type 0
Saves z B w a m r b = (save_answer z B w a m ≡ r) × (save_array z B w a m ≡ b)

module _ (z : Size) (B w : ℕ) (a m : List ℕ) where
  -- The stripe system of the sectors.
  abbrev system : Layout
  system = save_layout z (B / w)

  -- What save gives where it refuses by k, or where k is 0.
  save-given : (k : ℕ) → save_status z B w a m ≡ k
      → Saves z B w a m (cond (eqb k 0) (Saved (count system.disks (determined system (erasures m)))) (Refused k))
      (cond (eqb k 0) (saved system (whole w) a (erasures m)) (cond (eqb k 7) (zeroed (whole w) a (erasures m)) a))
  unfolding save_answer save_array
  save-given k is = (rw is, rw is)

  -- The tests before 7 refuse by other numbers.
  not-seven : refusal (map_tests z B w (length a) m) ≡ 7 → ⊥
  unfolding map_tests sector_tests array_tests
  not-seven =
      by_test (λ k. k ≡ 7 → ⊥) 1 (size_fits z) _ (λ is. omega arith)
      (by_test (λ k. k ≡ 7 → ⊥) 2 (block_fits B) _ (λ is. omega arith)
      (by_test (λ k. k ≡ 7 → ⊥) 3 (eqb (length a) (array_bytes z B)) _ (λ is. omega arith)
      (by_test (λ k. k ≡ 7 → ⊥) 16 (sector_fits B w) _ (λ is. omega arith)
      (by_test (λ k. k ≡ 7 → ⊥) 4 (map_fits (map_bytes z (B / w)) m) _ (λ is. omega arith) (rw no_tests (λ is. omega arith))))))

  -- Where they are passed, the array fits, and so do the sectors and the map; the tests that follow decide.
  pub record SaveFits : Type 0 where
    pub array : ArrayFits z B (length a)
    pub sector : sector_fits B w ≡ true
    pub map : map_fits (map_bytes z (B / w)) m ≡ true

  pub map_passes : SaveFits → (ts : List Test) → refusal (map_tests z B w (length a) m ++ ts) ≡ refusal ts
  unfolding map_tests sector_tests array_tests
  map_passes fits ts =
      sector_passed z B (length a) w fits.array fits.sector _ ∙ passes 4 (map_fits (map_bytes z (B / w)) m) ts fits.map

  pub map_fits_lem : refusal (map_tests z B w (length a) m) ≡ 0 → SaveFits
  unfolding map_tests
  map_fits_lem ok =
      let (array, sector, rest) = sector_tests_lem z B (length a) w _ ok in
      record { array = array; sector = sector; map = (passed 4 (map_fits (map_bytes z (B / w)) m) _ (omega arith) rest).0 }

  -- Save: 1, 2, 3, 16, 4, and nothing changes.
  pub save_first : (refusal (map_tests z B w (length a) m) ≡ 0 → ⊥) → Saves z B w a m (Refused (refusal (map_tests z B w (length a) m))) a
  unfolding save_status save_tests
  save_first refused =
      let k = refusal (map_tests z B w (length a) m) in
      rw (ne_eqb k 0 refused, ne_eqb k 7 not-seven) at (save-given k (refused_first (map_tests z B w (length a) m) _ refused))

  -- Otherwise the survivors decide.
  pub save_judged : SaveFits
      → let fit : Bool = parts_cancel system (whole w) (erasures m) a in
      Saves z B w a m (cond fit (Saved (count system.disks (determined system (erasures m)))) (Refused 7))
      (cond fit (saved system (whole w) a (erasures m)) (zeroed (whole w) a (erasures m)))
  unfolding save_status save_tests
  save_judged fits = go (parts_cancel system (whole w) (erasures m) a) refl
    where
      go : (t : Bool) → parts_cancel system (whole w) (erasures m) a ≡ t
          → Saves z B w a m (cond t (Saved (count system.disks (determined system (erasures m)))) (Refused 7))
          (cond t (saved system (whole w) a (erasures m)) (zeroed (whole w) a (erasures m)))
      go true fit = save-given 0 (map_passes fits _ ∙ passes 7 _ _ fit ∙ no_tests)
      go false unfit = save-given 7 (map_passes fits _ ∙ fails 7 _ _ unfit)

  -- The promise in the paper's words, for every input that the refusals before 7 let through.
  pub save_demand : refusal (map_tests z B w (length a) m) ≡ 0 → Bytes a
      → SaveDemand (superparity z (column_base z)) (B / w) w a m (save_answer z B w a m) (save_array z B w a m)
  unfolding superparity
  save_demand ok small =
      let fits = map_fits_lem ok in
      let cut = array-cut z B w a fits.array fits.sector in
      let (answer, array) = save_judged fits in
      rw (answer, array)
      (edition_saves (superparity z (column_base z)) narrow (superparity_lawful z cut.size) (B / w) w cut.width a m small cut.long)

  -- ---- beside rebuild

  -- With sheets of the right length, rebuild and save are refused alike before the survivors are looked at.
  refused-alike : (s : List ℕ) → length s ≡ sheets_bytes narrow (B / w) → buffer_refusal z B w a m s ≡ refusal (map_tests z B w (length a) m)
  unfolding buffer_refusal buffer_tests sheet_tests map_tests sector_tests array_tests refusal
  refused-alike s long = rw (long, eq-eqb (98 * (B / w)) (98 * (B / w)) refl)

  -- Where the loss is not fatal, save is a rebuild without turns.
  as-whole-rebuild : SaveFits → Bytes a → fatal system (erasures m) ≡ false
      → AsTurn (save_answer z B w a m) (save_array z B w a m) (whole_rebuild (B / w) (sheet_layout z) narrow (whole w) a m)
  unfolding whole_rebuild repairs_made contradiction saving_status saving_count outcome_status outcome_count whole
  as-whole-rebuild fits small fine = go (parts_cancel system (whole w) e a) refl
    where
      e : ℕ → Bool
      e = erasures m

      v : List Entry
      v = sector_repairs (B / w) (sheet_layout z) e

      cut : Cut z B w a
      cut = array-cut z B w a fits.array fits.sector

      two : TwoStripes system
      two = two-sectors (B / w) (sheet_layout z) cut.two

      belongs : (parts_cancel system (whole w) e a ≡ true) ↔ Belongs system (whole w) e a
      belongs = parts_judged system two e (whole w) (whole-inside w) a cut.long small

      same : parts_cancel system (whole w) e a ≡ consistent system (whole w) (rebuilt system (whole w) a v)
      same =
          let judged = order_judged (B / w) (sheet_layout z) cut.two e fine w a cut.long small in
          same_test (parts_cancel system (whole w) e a) _ (λ h. judged.1 (belongs.0 h)) (λ h. belongs.1 (judged.0 h))

      go : (t : Bool) → parts_cancel system (whole w) e a ≡ t
          → AsTurn (save_answer z B w a m) (save_array z B w a m) (whole_rebuild (B / w) (sheet_layout z) narrow (whole w) a m)
      go true fit =
          let (answer, left) = save_judged fits in
          let all = all_determined system two e fine ∙ sym (length-order (B / w) (sheet_layout z) e fine) in
          let (b, word, agree) = belongs.0 fit in
          let array : saved system (whole w) a e ≡ rebuilt system (whole w) a v =
          saved-whole system two e fine w a b cut.long word agree
          ∙ sym (order-restored (B / w) (sheet_layout z) cut.two e fine w a cut.long b word agree) in
          rw (answer, left, fine, ← same, fit) (refl, λ c. all, array)
      go false unfit =
          let (answer, left) = save_judged fits in
          rw (answer, left, fine, ← same, unfit) (refl, λ c. refl, refl)

  -- So it gives what rebuild gives with a limit that is no less than the number of erased sectors, refusals included.
  pub save_as_rebuild : fatal system (erasures m) ≡ false → Bytes a → (s : List ℕ) → length s ≡ sheets_bytes narrow (B / w)
      → (k : ℕ) → 0 < k → count (map_bytes z (B / w)) (erasures m) ≤ k
      → AsTurn (save_answer z B w a m) (save_array z B w a m) (rebuild_turn z B w a m s k)
  unfolding saving_status saving_count outcome_status outcome_count
  save_as_rebuild fine small s long k some enough =
      rw (rebuild_whole_lem z B w a m s k some enough, refused-alike s long) (go (eqb (refusal (map_tests z B w (length a) m)) 0) refl)
    where
      go : (t : Bool) → eqb (refusal (map_tests z B w (length a) m)) 0 ≡ t
          → AsTurn (save_answer z B w a m) (save_array z B w a m) (cond t (whole_rebuild (B / w) (sheet_layout z) narrow (whole w) a m)
          (record { answer = Outcome-as-Refused (refusal (map_tests z B w (length a) m)); array = a; map = m; sheets = s }))
      go true ok = as-whole-rebuild (map_fits_lem (eqb-true _ 0 ok)) small fine
      go false refused = let (answer, left) = save_first (eqb-false _ 0 refused) in rw (answer, left) (refl, λ c. refl, refl)

-- ---- which sectors are saved, told by plan
module _ (n : ℕ) (L : Layout) (e : ℕ → Bool) where
  -- Of a loss that is fatal first at position p plan tells how many sectors are lost there.
  told_at : {p : ℕ} → p ≡ fatal_position n L e → p < n → loss_outcome n L e ≡ Fatal (lost L (at_position n p e)) p
  unfolding loss_outcome
  told_at {p} is l = rw (← is, lt-ltb p n l)

  -- So the position that it names is the lowest such, and the number is that of the sectors lost there.
  is-told : {number p : ℕ} → loss_outcome n L e ≡ Fatal number p → (fatal_position n L e ≡ p) × (lost L (at_position n p e) ≡ number)
  unfolding loss_outcome outcome_status
  is-told {number} {p} is =
      by_cases (λ (t : Bool). (fatal_position n L e ≡ p) × (lost L (at_position n p e) ≡ number)) (ltb (fatal_position n L e) n)
      (λ h.
      let answer = sym (told_at refl (ltb-true (fatal_position n L e) n h)) ∙ is in
      let position : fatal_position n L e ≡ p = cc in
      let count : lost L (at_position n (fatal_position n L e) e) ≡ number = cc in
      (position, ap (λ (q : ℕ). lost L (at_position n q e)) (sym position) ∙ count))
      (λ h. absurd (zero_six (ap outcome_status (rw h at is))))

module _ (n : ℕ) (L : Layout) (two : TwoStripes L) (m : List ℕ) (lossy : fatal (sectored n L) (erasures m) ≡ true) where
  -- The position that plan names, and the disks erased there.
  abbrev named : ℕ
  named = fatal_position n L (erasures m)

  abbrev there : ℕ → Bool
  there = at_position n named (erasures m)

  place : named < n
  place = ltb-true named n (sym (fatal-sectors n L (erasures m)) ∙ lossy)

  -- Of a fatal loss an erased sector at the position that plan names is determined exactly if plan answers the same for the map in which
  -- that sector alone is present.
  pub told_by_plan : (d : ℕ) → d < L.disks → erasures m (sector_at n named d) ≡ true
      → (loss_outcome n L (erasures (set m (sector_at n named d) 0)) ≡ loss_outcome n L (erasures m))
      ↔ (determined (sectored n L) (erasures m) (sector_at n named d) ≡ true)
  unfolding at_position fatal_position
  told_by_plan d l erased =
      rw (erasures-clear m (sector_at n named d), told_at n L (erasures m) refl place, determined-sector n place L two (erasures m) d l)
      (told, same)
    where
      e : ℕ → Bool
      e = without (erasures m) (sector_at n named d)

      here : at_position n named e ≡ without there d
      here = without-sector n place (erasures m) d

      counts : (lost L (without there d) ≡ lost L there) ↔ (undetermined L there d ≡ false)
      counts = told_by_count L two there d l

      told : loss_outcome n L e ≡ Fatal (lost L there) named → determined L there d ≡ true
      told is = determined_is L there d erased (counts.0 (ap (lost L) (sym here) ∙ (is-told n L e is).1))

      same : determined L there d ≡ true → loss_outcome n L e ≡ Fatal (lost L there) named
      same h =
          let equal = counts.1 (not-true _ (sym (determined-not L there d erased) ∙ h)) in
          let some = (fatal-lost L two there).0 (fatal_at n L (erasures m) refl place) in
          let still : fatal L (at_position n named e) ≡ true = ap (fatal L) here ∙ (fatal-lost L two (without there d)).1 (omega arith) in
          let first : named ≡ fatal_position n L e =
          lowest_found n (λ p. fatal L (at_position n p e)) named place
          (λ q h.
          ap (fatal L) (without_elsewhere n place (omega (arith, place)) (λ is. omega arith) (erasures m) d) ∙ fine-below n L (erasures m) h)
          still in
          told_at n L e first place ∙ ap (λ (k : ℕ). Fatal k named) (ap (lost L) here ∙ equal)
