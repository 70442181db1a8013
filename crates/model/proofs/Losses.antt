-- What comes of a loss in any edition of the array, and what demand 3 asks of an edition.
-- Assumes nothing.
use mathlib.Core.Path.{◌≡◌, refl, sym, ◌∙◌, ap, subst}
use mathlib.Core.Bool.{Bool, true, false, cond, true≢false}
use mathlib.Core.Logic.{◌↔◌, ⊎_elim}
use mathlib.Core.List.{List, [], ◌∷◌, map}
use Prim.Native.Nat.{ℕ, suc, ◌*◌, ◌-◌, ◌≤◌, ◌<◌}
use native.Mathlib.Nat.{le_refl}
use native.Mathlib.Omega.{arith}
use borrow.Author.Tests.{ltb-true}
use lib.ListN.{length, length-map}
use Rattle.stripes.specs.Fold.{count}
use Rattle.stripes.specs.System.{Layout, TwoStripes, whole, Codeword, Bytes, consistent, Ordered}
use Rattle.stripes.specs.Erased.{erasures, Agree, Belongs}
use Rattle.stripes.specs.Repair.{Entry, Peels, repairs, fatal, rebuilt}
use Rattle.stripes.specs.Undetermined.{undetermined, lost}
use Rattle.stripes.specs.Cycle.{Cycle}
use Rattle.stripes.specs.Smallest.{SmallestOf, Smallest, shown_cycle}
use Rattle.stripes.specs.Sectors.{sectored, at_position, sector_repairs, fatal_position}
use Rattle.model.specs.Sheet.{Format, repair_sheets, blank_sheets}
use Rattle.model.specs.Plan.{loss_outcome, loss_sheets, cycle_sheets, outcome_status}
use Rattle.model.specs.Turn.{Turn, loss_told, contradiction, turn_of, accepted, unfinished, turns_by, turns_of, last_of, repair_count, made_by}
use Rattle.model.specs.Edition.{Edition}
use Rattle.model.specs.Demand3.{SmallestLoop, Planned, Lists, LostAt, InTurns, turns_for, Results, Demand3}
use Rattle.model.specs.Outcome.{Outcome}
use Rattle.model.specs.Outcome.{Repairs, Fatal}
use Rattle.stripes.proofs.Fold.{by_cases, lt_or_le}
use Rattle.stripes.proofs.Peel.{repairs_peels, repairs-count}
use Rattle.stripes.proofs.Degree.{two_ordered}
use Rattle.stripes.proofs.Clears.{clears-restored, clears_judged}
use Rattle.stripes.proofs.Sectors.{two-sectors}
use Rattle.stripes.proofs.Positions.{order-clears, length-order, order-rising, of_position_lem, fine_all, fatal_at, fine-below, fatal-sectors}
use Rattle.stripes.proofs.SectorBytes.{codeword_sectors}
use Rattle.stripes.proofs.SectorParts.{lost_at}
use Rattle.stripes.proofs.Theorems.{fatal_ambiguous, fatal-lost, all_unique, shown_is, shown_only}
use Rattle.model.proofs.Turns.{all_clear, Shape, shape, last_made, array-restored, map_cleared, all_made, undone, made-before, turns-number}

-- What is to be shown of an edition, with sheets of a format.
pub record Lawful (E : Edition) (f : Format) : Type 0 where
  -- Every disk lies on two stripes.
  pub two : TwoStripes E.layout
  -- Repairs are no more than the limit, and fit a sheet.
  pub limited : (e : ℕ → Bool) (w : List Entry) → Peels E.layout e w → length w ≤ E.most_repairs
  pub limit_fits : E.most_repairs ≤ f.records
  -- Cycles are what the edition calls loops, and fit a sheet.
  pub loops : (e : ℕ → Bool) (w : List Entry) → Cycle E.layout e w ↔ E.Loops e w
  pub loops_fit : (e : ℕ → Bool) (w : List Entry) → Cycle E.layout e w → length w ≤ f.records
  -- So many disks always come back.
  pub few : (e : ℕ → Bool) → count E.layout.disks e ≤ E.always → fatal E.layout e ≡ false

-- Numbers that are not those of the outcome.
pub zero_six : (◌≡◌ {A = ℕ} 0 6) → ⊥
zero_six e = omega arith

six_zero : (◌≡◌ {A = ℕ} 6 0) → ⊥
six_zero e = omega arith

seven_zero : (◌≡◌ {A = ℕ} 7 0) → ⊥
seven_zero e = omega arith

pub zero_seven : (◌≡◌ {A = ℕ} 0 7) → ⊥
zero_seven e = omega arith

pub six_seven : (◌≡◌ {A = ℕ} 6 7) → ⊥
six_seven e = omega arith

seven_six : (◌≡◌ {A = ℕ} 7 6) → ⊥
seven_six e = omega arith

-- ---- all repairs of a loss that is not fatal
module _ (n : ℕ) (L : Layout) (two : TwoStripes L) (e : ℕ → Bool) (fine : fatal (sectored n L) e ≡ false)
    (w : ℕ) (a : List ℕ) (sized : length a ≡ (sectored n L).disks * w) where
  -- They give back the sealed array that the survivors belong to,
  pub order-restored : (b : List ℕ) → Codeword (sectored n L) (whole w) b → Agree (sectored n L) (whole w) e a b
      → rebuilt (sectored n L) (whole w) a (sector_repairs n L e) ≡ b
  unfolding whole
  order-restored =
      clears-restored (sectored n L) (two_ordered (sectored n L) (two-sectors n L two)).bounded w e a sized (sector_repairs n L e)
      (order-clears n L e fine)

  -- and leave every stripe's sum zero exactly if there is one.
  pub order_judged : Bytes a
      → (consistent (sectored n L) (whole w) (rebuilt (sectored n L) (whole w) a (sector_repairs n L e)) ≡ true)
      ↔ Belongs (sectored n L) (whole w) e a
  unfolding whole
  order_judged =
      clears_judged (sectored n L) (two_ordered (sectored n L) (two-sectors n L two)).bounded w e a sized (sector_repairs n L e)
      (order-clears n L e fine)

-- The stripe system of an edition's sectors.
abbrev sectors : (n : ℕ) → Edition → Layout
sectors n E = sectored n E.layout

-- ---- the smallest loop

-- Of lists that are the same two ways the smallest is the same.
smallest_of : (L : Layout) (P Q : List Entry → Type 0) → ((w : List Entry) → P w ↔ Q w) → (w : List Entry) → SmallestOf L P w → SmallestOf L Q w
smallest_of L P Q same w s =
    record {
      cycle = (same w).0 s.cycle;
      shortest = λ v h. s.shortest v ((same v).1 h);
      first = λ v h. s.first v ((same v).1 h);
    }

-- The cycle that is shown of a fatal loss.
smallest_loop : (E : Edition) (f : Format) → Lawful E f → (e : ℕ → Bool) → fatal E.layout e ≡ true → SmallestLoop E e (shown_cycle E.layout e)
smallest_loop E f law e lossy =
    let L : Layout = E.layout in
    record {
      smallest = smallest_of L (Cycle L e) (E.Loops e) (law.loops e) (shown_cycle L e) (shown_is L law.two e lossy);
      only = λ u s.
          shown_only L law.two e lossy u
          (smallest_of L (E.Loops e) (Cycle L e) (λ w. ((law.loops e w).1, (law.loops e w).0)) u s);
    }

-- ---- plan
module _ (n : ℕ) (E : Edition) (f : Format) (law : Lawful E f) (e : ℕ → Bool) where
  -- So many sectors are lost at a position, and none where the loss there is not fatal.
  lost-there : (p : ℕ) → p < n → (w : ℕ) → 0 < w → LostAt n E.layout w e p (lost E.layout (at_position n p e))
  unfolding lost
  lost-there p place w some = (undetermined E.layout (at_position n p e), refl, lost_at n place E.layout law.two e w some)

  none-lost : (p : ℕ) → fatal E.layout (at_position n p e) ≡ false → lost E.layout (at_position n p e) ≡ 0
  none-lost p fine =
      ⊎_elim (λ some. absurd (true≢false (sym ((fatal-lost E.layout law.two (at_position n p e)).1 some) ∙ fine)))
      (λ none. omega arith) (lt_or_le 0 (lost E.layout (at_position n p e)))

  -- A loss that is fatal is so at the position that plan names, where it is not one of few disks.
  module _ (lossy : fatal (sectors n E) e ≡ true) where
    abbrev position : ℕ
    position = fatal_position n E.layout e

    abbrev there : ℕ → Bool
    there = at_position n position e

    inside : position < n
    inside = ltb-true position n (sym (fatal-sectors n E.layout e) ∙ lossy)

    lossy-there : fatal E.layout there ≡ true
    lossy-there = fatal_at n E.layout e refl inside

    not-few : ((p : ℕ) → p < n → count E.layout.disks (at_position n p e) ≤ E.always) → ⊥
    not-few few = true≢false (sym lossy-there ∙ law.few there (few position inside))

    plan-fatal : Planned n E f e (Fatal (lost E.layout there) position) (cycle_sheets f n position (shown_cycle E.layout there))
    unfolding outcome_status
    plan-fatal =
        let L : Layout = E.layout in
        let shown : Smallest L there (shown_cycle L there) = shown_is L law.two there lossy-there in
        record {
          sealed = λ w. codeword_sectors n w (n * w) refl L;
          fatal = λ w some. (λ s. (fatal_ambiguous (sectors n E) (two-sectors n L law.two) e w some).0 lossy, λ both. refl);
          left = (λ s. lossy, λ h. refl);
          lost = λ s. (
            lost L there,
            position,
            refl,
            inside,
            (fatal-lost L law.two there).0 lossy-there,
            lost-there position inside,
            λ w some q l. subst (LostAt n L w e q) (none-lost q (fine-below n L e l)) (lost-there q (omega (arith, inside)) w some),
            (_, refl, law.loops_fit there _ shown.cycle, smallest_loop E f law there lossy-there),
          );
          repairs = λ no. absurd (no refl);
          few = λ few s. not-few few;
        }

  -- There are no more repairs at a position than the limit.
  few-there : (p : ℕ) → length (repairs E.layout (at_position n p e)) ≤ E.most_repairs
  few-there p =
      let there : ℕ → Bool = at_position n p e in law.limited there (repairs E.layout there) (repairs_peels E.layout there)

  -- Where the loss is not fatal, plan's repairs are listed.
  module _ (fine : fatal (sectors n E) e ≡ false) where
    listed : (sheets : List ℕ) → sheets ≡ repair_sheets f n (sector_repairs n E.layout e)
        → Lists n E.layout f e (sector_repairs n E.layout e) sheets
    unfolding sector_repairs
    listed sheets is = (
      is,
      λ p place.
          let same = ap length (of_position_lem n (λ p. repairs E.layout (at_position n p e)) n (le_refl n) place) in
          let few = few-there p in
          let room = law.limit_fits in
          omega arith,
      length-order n E.layout e fine,
      order-rising n E.layout (two_ordered E.layout law.two) e fine,
    )

    plan-fine : Planned n E f e (Repairs (length (sector_repairs n E.layout e))) (repair_sheets f n (sector_repairs n E.layout e))
    unfolding outcome_status
    plan-fine =
        let L : Layout = E.layout in
        let ordered = two_ordered (sectors n E) (two-sectors n L law.two) in
        record {
          sealed = λ w. codeword_sectors n w (n * w) refl L;
          fatal = λ w some. (λ s. absurd (zero_six s), λ both. absurd (all_unique (sectors n E) e ordered fine w both));
          left = (λ s. absurd (zero_six s), λ h. absurd (true≢false (sym h ∙ fine)));
          lost = λ s. absurd (zero_six s);
          repairs = λ no. (
            ap Repairs (length-order n L e fine),
            λ p place.
                let number = repairs-count L (at_position n p e) (fine_all n L e fine place) in
                let most = few-there p in
                omega arith,
            (sector_repairs n L e, listed _ refl),
          );
          few = λ few s. zero_six s;
        }

  pub planned : Planned n E f e (loss_outcome n E.layout e) (loss_sheets n E.layout f e)
  unfolding loss_outcome loss_sheets
  planned = go (fatal (sectors n E) e) refl
    where
      go : (b : Bool) → fatal (sectors n E) e ≡ b → Planned n E f e (loss_outcome n E.layout e) (loss_sheets n E.layout f e)
      go true q = rw (sym (fatal-sectors n E.layout e) ∙ q) (plan-fatal q)
      go false q = rw (sym (fatal-sectors n E.layout e) ∙ q) (plan-fine q)

-- ---- plan and rebuild's turns

-- What they give for a loss where nothing is refused: plan, and turns of k repairs with sheets for each.
unfoldable pub results_of : (n : ℕ) → Layout → Format → (w k : ℕ) → (buffers : List (List ℕ)) → (a m : List ℕ) → Results
results_of n L f w k buffers a m =
    let ts : List Turn = turns_of n L f (whole w) k buffers a m in
    let end : Turn = last_of (loss_told n L f a m) ts in
    record {
      planned = loss_outcome n L (erasures m);
      plan_sheets = loss_sheets n L f (erasures m);
      last = end.answer;
      made = made_by ts;
      array = end.array;
      map = end.map;
      sheets = map (λ (t : Turn). t.sheets) ts;
    }

module _ (n : ℕ) (E : Edition) (f : Format) (law : Lawful E f) (w : ℕ) (some : 0 < w) (k : ℕ) (may : 0 < k)
    (s : List ℕ) (ss : List (List ℕ)) (a m : List ℕ) (small : Bytes a) (sized : length a ≡ (sectored n E.layout).disks * w)
    (enough : fatal (sectored n E.layout) (erasures m) ≡ false
    → count (sectored n E.layout).disks (erasures m) ≤ length (s ∷ ss) * k) where
  abbrev e : ℕ → Bool
  e = erasures m

  abbrev v : List Entry
  v = sector_repairs n E.layout e

  abbrev given : Results
  given = results_of n E.layout f w k (s ∷ ss) a m

  two : TwoStripes (sectors n E)
  two = two-sectors n E.layout law.two

  ordered : Ordered (sectors n E)
  ordered = two_ordered (sectors n E) two

  -- A fatal loss is told in the first turn, and there is no second.
  abbrev told : fatal (sectors n E) e ≡ true → Results
  told lossy =
      let p : ℕ = position n E f law e lossy in
      let answer : Outcome = Fatal (lost E.layout (at_position n p e)) p in
      let shows : List ℕ = cycle_sheets f n p (shown_cycle E.layout (at_position n p e)) in
      record {
        planned = answer;
        plan_sheets = shows;
        last = answer;
        made = 0;
        array = a;
        map = m;
        sheets = shows ∷ [];
      }

  is-told : (lossy : fatal (sectors n E) e ≡ true) → given ≡ told lossy
  unfolding results_of turns_by turn_of loss_told loss_outcome loss_sheets unfinished accepted last_of made_by repair_count
  is-told lossy = rw (lossy, sym (fatal-sectors n E.layout e) ∙ lossy) refl

  when-fatal : (lossy : fatal (sectors n E) e ≡ true) → Demand3 n E f w k a m (told lossy)
  unfolding outcome_status
  when-fatal lossy =
      let both = (fatal_ambiguous (sectors n E) two e w some).0 lossy in
      record {
        plan = plan-fatal n E f law e lossy;
        rebuild_fatal = (λ s. both, λ am. refl);
        kept = λ s. (refl, refl, refl, refl);
        restored = λ no b word agree. absurd (no both);
        accepted = (λ s. absurd (six_zero s), λ h. absurd (h.0 both));
        contradicted = (λ s. absurd (six_seven s), λ h. absurd (h.0 both));
        undone = λ s. absurd (six_seven s);
        few = λ few. absurd (not-few n E f law e lossy few);
      }

  -- Otherwise the turns are as they have to be.
  module _ (fine : fatal (sectors n E) e ≡ false) where
    abbrev ts : List Turn
    ts = turns_of n E.layout f (whole w) k (s ∷ ss) a m

    number : length v ≡ count (sectors n E).disks e
    number = length-order n E.layout e fine

    formed : Shape n E.layout f (whole w) k may a m (loss_told n E.layout f a m) ts
    formed =
        let all = number in
        let most = enough fine in
        shape n E.layout f (whole w) k may s ss a m fine (omega arith) (loss_told n E.layout f a m)

    plan-is : Planned n E f e given.planned given.plan_sheets
    unfolding results_of
    plan-is = planned n E f law e

    listing : Lists n E.layout f e v given.plan_sheets
    unfolding results_of loss_sheets
    listing = listed n E f law e fine given.plan_sheets (rw (sym (fatal-sectors n E.layout e) ∙ fine))

    -- How the sheets end depends on the survivors.
    in_turns : (c : Bool) → consistent (sectors n E) (whole w) (rebuilt (sectors n E) (whole w) a v) ≡ c
        → InTurns n f k (λ u. cond c (repair_sheets f n u) (blank_sheets f n)) v given.sheets
    unfolding results_of
    in_turns c q =
        subst (λ (c : Bool). InTurns n f k (λ u. cond c (repair_sheets f n u) (blank_sheets f n)) v (map (λ (t : Turn). t.sheets) ts)) q
        formed.sheets

    -- How many turns came before the last.
    earlier : formed.early ≡ length given.sheets - 1
    unfolding results_of
    earlier =
        let all : length given.sheets ≡ suc formed.early = length-map ts (λ (t : Turn). t.sheets) ∙ formed.number in
        omega arith

    -- The survivors belong to a sealed array.
    when-restored : consistent (sectors n E) (whole w) (rebuilt (sectors n E) (whole w) a v) ≡ true → Demand3 n E f w k a m given
    unfolding results_of loss_outcome outcome_status
    when-restored sealed =
        let belongs = (order_judged n E.layout law.two e fine w a sized small).0 sealed in
        let is : (b : List ℕ) → Codeword (sectors n E) (whole w) b → Agree (sectors n E) (whole w) e a b → given.array ≡ b =
        λ b word agree.
        array-restored n E.layout f (whole w) k may a m fine _ ts formed sealed
        ∙ order-restored n E.layout law.two e fine w a sized b word agree in
        let last = last_made n E.layout f (whole w) k may a m fine _ ts formed sealed in
        let ok : outcome_status given.last ≡ 0 = ap outcome_status last in
        let cleared = map_cleared n E.layout f (whole w) k may a m fine _ ts formed sealed in
        let made = all_made n E.layout f (whole w) k may a m fine _ ts formed sealed in
        record {
          plan = plan-is;
          rebuild_fatal = (λ s. absurd (zero_six (sym ok ∙ s)), λ am. absurd (all_unique (sectors n E) e ordered fine w am));
          kept = λ s. absurd (zero_six (sym ok ∙ s));
          restored = λ no b word agree. (
            v,
            record {
              lists = listing;
              sheets = in_turns true sealed;
              turns =
                  turns-number n f k may (repair_sheets f n) v given.sheets (in_turns true sealed)
                  ∙ ap (λ (i : ℕ). turns_for i k) number;
              last = last ∙ ap (λ (i : ℕ). Repairs (length v - k * i)) earlier;
              made = rw (sym (fatal-sectors n E.layout e) ∙ fine, made);
              array = is b word agree;
              map = cleared;
              clear = ap (λ (l : List ℕ). count (sectors n E).disks (erasures l)) cleared ∙ all_clear n E.layout m fine;
            },
          );
          accepted = (λ s. (all_unique (sectors n E) e ordered fine w, belongs), λ h. ok);
          contradicted = (λ s. absurd (zero_seven (sym ok ∙ s)), λ h. absurd (h.1 belongs));
          undone = λ s. absurd (zero_seven (sym ok ∙ s));
          few = λ few b word agree. (ok, made ∙ number, is b word agree);
        }

    -- They belong to none.
    when-contradicted : consistent (sectors n E) (whole w) (rebuilt (sectors n E) (whole w) a v) ≡ false → Demand3 n E f w k a m given
    unfolding results_of contradiction outcome_status
    when-contradicted unsealed =
        let judged = order_judged n E.layout law.two e fine w a sized small in
        let none : Belongs (sectors n E) (whole w) e a → ⊥ = λ h. true≢false (sym (judged.1 h) ∙ unsealed) in
        let end = undone n E.layout f (whole w) k may a m fine _ ts formed unsealed in
        let made = made-before n E.layout f (whole w) k may a m fine _ ts formed unsealed in
        let seven : outcome_status given.last ≡ 7 = ap (λ (t : Turn). outcome_status t.answer) end in
        record {
          plan = plan-is;
          rebuild_fatal = (λ s. absurd (seven_six (sym seven ∙ s)), λ am. absurd (all_unique (sectors n E) e ordered fine w am));
          kept = λ s. absurd (seven_six (sym seven ∙ s));
          restored = λ no b word agree. absurd (none (b, word, agree));
          accepted = (λ s. absurd (seven_zero (sym seven ∙ s)), λ h. absurd (none h.1));
          contradicted = (λ s. (all_unique (sectors n E) e ordered fine w, none), λ h. seven);
          undone = λ s. (
            v,
            record {
              lists = listing;
              sheets = in_turns false unsealed;
              made = made ∙ ap (λ (i : ℕ). k * i) earlier;
              map = rw made (ap (λ (t : Turn). t.map) end);
              array = rw (made, ap (λ (t : Turn). t.map) end) (ap (λ (t : Turn). t.array) end);
            },
          );
          few = λ few b word agree. absurd (none (b, word, agree));
        }

  pub edition_demand3 : Demand3 n E f w k a m given
  edition_demand3 = go (fatal (sectors n E) e) refl
    where
      go : (b : Bool) → fatal (sectors n E) e ≡ b → Demand3 n E f w k a m given
      go true p = subst (Demand3 n E f w k a m) (sym (is-told p)) (when-fatal p)
      go false p =
          by_cases (λ (c : Bool). Demand3 n E f w k a m given) (consistent (sectors n E) (whole w) (rebuilt (sectors n E) (whole w) a v))
          (when-restored p) (when-contradicted p)
