-- Turns one after another, over any stripe system and number of sectors: what the last one leaves, and what the sheets list.
-- Assumes nothing.
use mathlib.Core.Path.{◌≡◌, refl, sym, ◌∙◌, ap, ap₂, subst}
use mathlib.Core.Bool.{Bool, true, false, cond, not, ◌&&◌}
use mathlib.Core.Logic.{⊎_elim}
use mathlib.Core.List.{List, [], ◌∷◌, ◌++◌, map}
use Prim.Native.Nat.{ℕ, suc, ◌+◌, ◌*◌, ◌-◌, ◌/◌, ◌≤◌, ◌<◌}
use native.Mathlib.Nat.{mul-zero, mul-suc, suc-mul, zero-mul}
use native.Mathlib.Omega.{arith}
use borrow.Author.Tests.{eq-eqb, ne_eqb, eqb-true, eqb-false}
use lib.Arith.{digits_div}
use lib.Dec.{eqb, leb}
use lib.ListN.{length, get_or, set, take, drop, take-append-drop, length-drop, length-set}
use lib.Seq.{take_all, take-length, length-take-le, take-add, get_or-set_other}
use Rattle.stripes.specs.Fold.{count}
use Rattle.stripes.specs.System.{Layout, consistent}
use Rattle.stripes.specs.Erased.{erasures}
use Rattle.stripes.specs.Repair.{Entry, Peels, map_after, fatal, rebuilt, zeroed}
use Rattle.stripes.specs.Sectors.{sectored, sector_repairs}
use Rattle.stripes.specs.declared.Stretch.{Stretch}
use Rattle.model.specs.Grid.{map_fits}
use Rattle.model.specs.Sheet.{Format, repair_sheets, blank_sheets}
use Rattle.model.specs.Turn.{Turn, clear, loss_told, contradiction, repairs_made, turn_repairs, contradicts, turn_of, accepted, unfinished, turns_by, turns_of, last_of, repair_count, made_by, whole_rebuild}
use Rattle.model.specs.Demand3.{InTurns, turns_for}
use Rattle.model.specs.Outcome.{Repairs}
use Rattle.stripes.proofs.Fold.{by_cases, lt_or_le, and_left, and_right, and_both, every_at, every_all}
use Rattle.stripes.proofs.Bytes.{length-changed}
use Rattle.stripes.proofs.Erased.{zero-set}
use Rattle.stripes.proofs.Restore.{length-rebuilt}
use Rattle.stripes.proofs.Peel.{peel-count}
use Rattle.stripes.proofs.Split.{peels_take, rebuilt_append, map_after_append, erasures-after, fatal-after}
use Rattle.stripes.proofs.Positions.{order_peels, length-order, order-rest}

-- ---- one turn
module _ (n : ℕ) (L : Layout) (m : List ℕ) where
  -- Plan's repairs of the sectors that the map has as erased. Each of the first k is allowed at its step.
  abbrev plan_of : List Entry
  plan_of = sector_repairs n L (erasures m)

  pub first_peels : (k : ℕ) → Peels (sectored n L) (erasures m) (take k plan_of)
  first_peels k = peels_take (sectored n L) (erasures m) k plan_of (order_peels n L (erasures m))

  left : (k : ℕ) → fatal (sectored n L) (erasures m) ≡ false
      → length (take k plan_of) + count (sectored n L).disks (erasures (map_after m (take k plan_of))) ≡ length plan_of
  left k fine =
      ap (λ (e : ℕ → Bool). length (take k plan_of) + count (sectored n L).disks e) (erasures-after m (take k plan_of))
      ∙ peel-count (sectored n L) (erasures m) (take k plan_of) (first_peels k)
      ∙ sym (length-order n L (erasures m) fine)

  -- The turn clears the map exactly if it may make all repairs.
  pub clears-last : (k : ℕ) → fatal (sectored n L) (erasures m) ≡ false → length plan_of ≤ k
      → clear (sectored n L) (map_after m (take k plan_of)) ≡ true
  unfolding clear
  clears-last k fine few =
      let all = left k fine in
      let same = ap length (take_all k plan_of few) in
      eq-eqb (count (sectored n L).disks (erasures (map_after m (take k plan_of)))) 0 (omega arith)

  pub clears-not : (k : ℕ) → fatal (sectored n L) (erasures m) ≡ false → k < length plan_of
      → clear (sectored n L) (map_after m (take k plan_of)) ≡ false
  unfolding clear
  clears-not k fine many =
      let all = left k fine in
      let same = length-take-le k plan_of (omega arith) in
      ne_eqb (count (sectored n L).disks (erasures (map_after m (take k plan_of)))) 0 (λ e. omega arith)

  -- All repairs clear it.
  pub all_clear : fatal (sectored n L) (erasures m) ≡ false → count (sectored n L).disks (erasures (map_after m plan_of)) ≡ 0
  all_clear fine =
      let all = left (length plan_of) fine in
      let full : take (length plan_of) plan_of ≡ plan_of = take-length plan_of in
      let rest : length plan_of + count (sectored n L).disks (erasures (map_after m plan_of)) ≡ length plan_of = rw full at all in
      omega arith

  -- There are no more repairs than erased sectors.
  pub few-repairs : length plan_of ≤ count (sectored n L).disks (erasures m)
  few-repairs = let all = peel-count (sectored n L) (erasures m) plan_of (order_peels n L (erasures m)) in omega arith

-- A map that fits still fits after repairs.
set-fits : (len : ℕ) (m : List ℕ) (d : ℕ) → map_fits len m ≡ true → map_fits len (set m d 0) ≡ true
unfolding map_fits
set-fits len m d h =
    let long = and_left (eqb (length m) len) _ h in
    let bits = every_at (length m) (λ i. leb (get_or m i 0) 1) (and_right (eqb (length m) len) _ h) in
    rw (length-set m d 0)
    (and_both long
    (every_all (length m)
    (λ i l.
    by_cases (λ (b : Bool). leb (get_or (set m d 0) i 0) 1 ≡ true) (eqb i d)
    (λ q. rw (eqb-true i d q, zero-set m d) refl)
    (λ q. rw (get_or-set_other m d i 0 0 (eqb-false i d q)) (bits i l)))))

pub map_after-fits : (len : ℕ) (m : List ℕ) (w : List Entry) → map_fits len m ≡ true → map_fits len (map_after m w) ≡ true
unfolding map_after
map_after-fits len m [] h = h
map_after-fits len m (r ∷ rs) h = map_after-fits len (set m r.disk 0) rs (set-fits len m r.disk h)

module _ (n : ℕ) (L : Layout) (f : Format) (x : Stretch) (k : ℕ) (a m : List ℕ) where
  -- What holds of each of its ends holds of a turn.
  by-ends : (P : Turn → Type 0) → P (loss_told n L f a m) → P (contradiction n f x a m)
      → ((w : List Entry) → P (repairs_made n L f x a m w))
      → P (turn_of n L f x k a m)
  unfolding turn_of
  by-ends P fatally undoes makes =
      go (fatal (sectored n L) (erasures m)) (contradicts (sectored n L) x a m (turn_repairs n L k m))
    where
      go : (s t : Bool) → P (cond s (loss_told n L f a m) (cond t (contradiction n f x a m) (repairs_made n L f x a m (turn_repairs n L k m))))
      go true t = fatally
      go false true = undoes
      go false false = makes (turn_repairs n L k m)

  -- The array keeps its length, and the map still fits.
  pub turn_length : length (turn_of n L f x k a m).array ≡ length a
  unfolding loss_told contradiction repairs_made zeroed
  turn_length = by-ends (λ (t : Turn). length t.array ≡ length a) refl (length-changed x a _) (λ w. length-rebuilt (sectored n L) x a w)

  pub turn_map : (len : ℕ) → map_fits len m ≡ true → map_fits len (turn_of n L f x k a m).map ≡ true
  unfolding loss_told contradiction repairs_made
  turn_map len fits = by-ends (λ (t : Turn). map_fits len t.map ≡ true) fits fits (λ w. map_after-fits len m w fits)

  -- The turn that may make all repairs is a rebuild without turns,
  pub last_turn : length (plan_of n L m) ≤ k → turn_of n L f x k a m ≡ whole_rebuild n L f x a m
  unfolding turn_of whole_rebuild turn_repairs contradicts
  last_turn few = go (fatal (sectored n L) (erasures m)) refl
    where
      w : List Entry
      w = plan_of n L m

      -- There the test for a contradiction is that of all sums.
      flip : (s : Bool)
          → cond (true && not s) (contradiction n f x a m) (repairs_made n L f x a m w)
          ≡ cond s (repairs_made n L f x a m w) (contradiction n f x a m)
      flip true = refl
      flip false = refl

      go : (t : Bool) → fatal (sectored n L) (erasures m) ≡ t → turn_of n L f x k a m ≡ whole_rebuild n L f x a m
      go true q = rw q refl
      go false q =
          let full : take k w ≡ w = take_all k w few in
          let done : clear (sectored n L) (map_after m w) ≡ true =
          ap (λ (v : List Entry). clear (sectored n L) (map_after m v)) (sym full) ∙ clears-last n L m k q few in
          rw (q, full, done) (flip (consistent (sectored n L) x (rebuilt (sectored n L) x a w)))

  -- so that the old rebuild is the turn whose limit is no less than the number of erased sectors.
  pub whole_turn_lem : count (sectored n L).disks (erasures m) ≤ k → turn_of n L f x k a m ≡ whole_rebuild n L f x a m
  whole_turn_lem enough = let few = few-repairs n L m in last_turn (omega arith)

  -- A turn that may not make all of them makes as many as it may, and tests nothing.
  pub early_turn : fatal (sectored n L) (erasures m) ≡ false → k < length (plan_of n L m)
      → (turn_of n L f x k a m ≡ repairs_made n L f x a m (take k (plan_of n L m))) × (unfinished (sectored n L) (turn_of n L f x k a m) ≡ true)
  unfolding turn_of turn_repairs contradicts repairs_made unfinished accepted
  early_turn fine many =
      let more = clears-not n L m k fine many in
      (rw (fine, more), rw (fine, more, more))

  -- Where the survivors fit, a turn makes its repairs, whatever its limit is.
  pub fitting_turn : fatal (sectored n L) (erasures m) ≡ false
      → consistent (sectored n L) x (rebuilt (sectored n L) x a (plan_of n L m)) ≡ true
      → turn_of n L f x k a m ≡ repairs_made n L f x a m (take k (plan_of n L m))
  unfolding whole_rebuild
  fitting_turn fine fits =
      ⊎_elim (λ (many : k < length (plan_of n L m)). (early_turn fine many).0)
      (λ few. last_turn few ∙ (rw (fine, fits, take_all k (plan_of n L m) few) refl)) (lt_or_le k (length (plan_of n L m)))

-- ---- turns one after another
module _ (n : ℕ) (L : Layout) (f : Format) (x : Stretch) (k : ℕ) (some : 0 < k) where
  -- How the sheets end: with a list, or with zeros.
  abbrev endingOf : Bool → List Entry → List ℕ
  endingOf c u = cond c (repair_sheets f n u) (blank_sheets f n)

  -- What the turns come to: all but the last make k repairs each, the last does what is left as a rebuild without turns.
  pub record Shape (a m : List ℕ) (before : Turn) (ts : List Turn) : Type 0 where
    pub early : ℕ
    pub number : length ts ≡ suc early
    pub room : k * early ≤ length (plan_of n L m)
    pub sheets : InTurns n f k (endingOf (consistent (sectored n L) x (rebuilt (sectored n L) x a (plan_of n L m)))) (plan_of n L m)
        (map (λ (t : Turn). t.sheets) ts)
    pub last : last_of before ts
        ≡ whole_rebuild n L f x (rebuilt (sectored n L) x a (take (k * early) (plan_of n L m))) (map_after m (take (k * early) (plan_of n L m)))
    pub made : made_by ts ≡ k * early + repair_count (last_of before ts).answer

  module _ (a m : List ℕ) (fine : fatal (sectored n L) (erasures m) ≡ false) where
    abbrev w : List Entry
    w = plan_of n L m

    -- Whether the survivors fit decides how a rebuild without turns ends.
    restoring : consistent (sectored n L) x (rebuilt (sectored n L) x a w) ≡ true → whole_rebuild n L f x a m ≡ repairs_made n L f x a m w
    unfolding whole_rebuild
    restoring fits = rw (fine, fits)

    undoing : consistent (sectored n L) x (rebuilt (sectored n L) x a w) ≡ false → whole_rebuild n L f x a m ≡ contradiction n f x a m
    unfolding whole_rebuild
    undoing unfit = rw (fine, unfit)

    last-sheet : (c : Bool) → consistent (sectored n L) x (rebuilt (sectored n L) x a w) ≡ c
        → (whole_rebuild n L f x a m).sheets ≡ endingOf c w
    unfolding repairs_made contradiction
    last-sheet true q = ap (λ (t : Turn). t.sheets) (restoring q)
    last-sheet false q = ap (λ (t : Turn). t.sheets) (undoing q)

    -- The last turn, and no turn after it.
    ends : (c : Bool) → consistent (sectored n L) x (rebuilt (sectored n L) x a w) ≡ c
        → unfinished (sectored n L) (whole_rebuild n L f x a m) ≡ false
    unfolding repairs_made contradiction unfinished accepted clear
    ends true q = rw (restoring q, eq-eqb (count (sectored n L).disks (erasures (map_after m w))) 0 (all_clear n L m fine))
    ends false q = rw (undoing q)

    one : (s : List ℕ) (ss : List (List ℕ)) (before : Turn) → length w ≤ k → Shape a m before (turns_of n L f x k (s ∷ ss) a m)
    unfolding turns_by last_of made_by rebuilt map_after
    one s ss before few =
        rw (last_turn n L f x k a m few, ends (consistent (sectored n L) x (rebuilt (sectored n L) x a w)) refl)
        (record {
          early = 0;
          number = refl;
          room = omega arith;
          sheets = (last-sheet (consistent (sectored n L) x (rebuilt (sectored n L) x a w)) refl, few);
          last = rw (mul-zero k);
          made = omega arith;
        })

    -- After the first i repairs plan's order goes on with the rest of them.
    abbrev array_at : ℕ → List ℕ
    array_at i = rebuilt (sectored n L) x a (take i w)

    abbrev mapAt : ℕ → List ℕ
    mapAt i = map_after m (take i w)

    rest : (i : ℕ) → plan_of n L (mapAt i) ≡ drop i w
    rest i = ap (sector_repairs n L) (erasures-after m (take i w)) ∙ order-rest n L (erasures m) i

    still-fine : (i : ℕ) → fatal (sectored n L) (erasures (mapAt i)) ≡ false
    still-fine i =
        ap (fatal (sectored n L)) (erasures-after m (take i w))
        ∙ fatal-after (sectored n L) (erasures m) (take i w) (first_peels n L m i) ∙ fine

    same-array : (i : ℕ) → rebuilt (sectored n L) x (array_at i) (drop i w) ≡ rebuilt (sectored n L) x a w
    same-array i = sym (rebuilt_append (sectored n L) x a (take i w) (drop i w)) ∙ ap (rebuilt (sectored n L) x a) (take-append-drop i w)

    same_map : (i : ℕ) → map_after (mapAt i) (drop i w) ≡ map_after m w
    same_map i = sym (map_after_append m (take i w) (drop i w)) ∙ ap (map_after m) (take-append-drop i w)

    same_end : (i : ℕ) → rebuilt (sectored n L) x (array_at i) (plan_of n L (mapAt i)) ≡ rebuilt (sectored n L) x a w
    same_end i = ap (rebuilt (sectored n L) x (array_at i)) (rest i) ∙ same-array i

    -- One turn before others.
    more : (s t : List ℕ) (ss : List (List ℕ)) (before : Turn) → k < length w
        → Shape (array_at k) (mapAt k) (repairs_made n L f x a m (take k w)) (turns_of n L f x k (t ∷ ss) (array_at k) (mapAt k))
        → Shape a m before (turns_of n L f x k (s ∷ (t ∷ ss)) a m)
    unfolding turns_by last_of made_by repairs_made repair_count
    more s t ss before many up =
        let (is, goes_on) = early_turn n L f x k a m fine many in
        let j = up.early in
        let more : k * suc j ≡ k + k * j = omega (arith, mul-suc k j) in
        let both : take (k * suc j) w ≡ take k w ++ take (k * j) (plan_of n L (mapAt k)) =
        ap (λ (i : ℕ). take i w) more ∙ take-add k (k * j) w ∙ ap (λ (v : List Entry). take k w ++ take (k * j) v) (sym (rest k)) in
        let sum : (c : ℕ) → k + (k * j + c) ≡ k * suc j + c = λ c. omega arith in
        let others : List Turn = turns_of n L f x k (t ∷ ss) (array_at k) (mapAt k) in
        let fits : List ℕ → Bool = consistent (sectored n L) x in
        rw (goes_on, is)
        (record {
          early = suc j;
          number = ap suc up.number;
          room =
              let few = up.room in
              let less : length (plan_of n L (mapAt k)) ≡ length w - k = ap length (rest k) ∙ length-drop k w in
              omega arith;
          sheets = (
            refl,
            many,
            subst
                (λ (v : List Entry). InTurns n f k (endingOf (fits (rebuilt (sectored n L) x a w))) v (map (λ (t : Turn). t.sheets) others))
                (rest k)
                (subst
                (λ (b : List ℕ). InTurns n f k (endingOf (fits b)) (plan_of n L (mapAt k)) (map (λ (t : Turn). t.sheets) others))
                (same_end k) up.sheets),
          );
          last =
              up.last
              ∙ ap₂ (whole_rebuild n L f x)
              (sym (rebuilt_append (sectored n L) x a (take k w) _) ∙ ap (rebuilt (sectored n L) x a) (sym both))
              (sym (map_after_append m (take k w) _) ∙ ap (map_after m) (sym both));
          made =
              ap₂ (λ (p q : ℕ). p + q) (length-take-le k w (omega arith)) up.made
              ∙ sum (repair_count (last_of (repairs_made n L f x a m (take k w)) others).answer);
        })

  -- So it is where the turns are enough.
  pub shape : (s : List ℕ) (ss : List (List ℕ)) (a m : List ℕ) → fatal (sectored n L) (erasures m) ≡ false
      → length (plan_of n L m) ≤ length (s ∷ ss) * k
      → (before : Turn) → Shape a m before (turns_of n L f x k (s ∷ ss) a m)
  shape s [] a m fine enough before = one a m fine s [] before (omega arith)
  shape s (t ∷ ss) a m fine enough before =
      ⊎_elim
      (λ (l : k < length (plan_of n L m)).
      more a m fine s t ss before l
      (shape t ss (array_at a m fine k) (mapAt a m fine k) (still-fine a m fine k)
      (let less : length (plan_of n L (mapAt a m fine k)) ≡ length (plan_of n L m) - k =
      ap length (rest a m fine k) ∙ length-drop k (plan_of n L m) in
      omega (arith, suc-mul (suc (length ss)) k)) _))
      (λ l. one a m fine s (t ∷ ss) before l) (lt_or_le k (length (plan_of n L m)))

  -- ---- how the turns end
  module _ (a m : List ℕ) (fine : fatal (sectored n L) (erasures m) ≡ false)
      (before : Turn) (ts : List Turn) (s : Shape a m before ts) where
    abbrev done : ℕ
    done = k * s.early

    -- The survivors fit: the last turn makes what is left of the repairs.
    module _ (fits : consistent (sectored n L) x (rebuilt (sectored n L) x a (plan_of n L m)) ≡ true) where
      at_last : last_of before ts ≡ repairs_made n L f x (array_at a m fine done) (mapAt a m fine done) (drop done (plan_of n L m))
      at_last =
          s.last
          ∙ restoring (array_at a m fine done) (mapAt a m fine done) (still-fine a m fine done)
          (ap (consistent (sectored n L) x) (same_end a m fine done) ∙ fits)
          ∙ ap (repairs_made n L f x (array_at a m fine done) (mapAt a m fine done)) (rest a m fine done)

      pub last_made : (last_of before ts).answer ≡ Repairs (length (plan_of n L m) - done)
      unfolding repairs_made
      last_made = ap (λ (t : Turn). t.answer) at_last ∙ ap Repairs (length-drop done (plan_of n L m))

      pub array-restored : (last_of before ts).array ≡ rebuilt (sectored n L) x a (plan_of n L m)
      unfolding repairs_made
      array-restored = ap (λ (t : Turn). t.array) at_last ∙ same-array a m fine done

      pub map_cleared : (last_of before ts).map ≡ map_after m (plan_of n L m)
      unfolding repairs_made
      map_cleared = ap (λ (t : Turn). t.map) at_last ∙ same_map a m fine done

      -- That is what a rebuild without turns leaves.
      pub as_whole : ((last_of before ts).array ≡ (whole_rebuild n L f x a m).array) × ((last_of before ts).map ≡ (whole_rebuild n L f x a m).map)
      unfolding repairs_made
      as_whole = (
        array-restored ∙ sym (ap (λ (t : Turn). t.array) (restoring a m fine fits)),
        map_cleared ∙ sym (ap (λ (t : Turn). t.map) (restoring a m fine fits)),
      )

      pub all_made : made_by ts ≡ length (plan_of n L m)
      unfolding repairs_made repair_count
      all_made =
          let room = s.room in
          let rest : repair_count (last_of before ts).answer ≡ length (plan_of n L m) - done =
          ap (λ (t : Turn). repair_count t.answer) at_last ∙ length-drop done (plan_of n L m) in
          let made = s.made in
          omega arith

    -- They contradict each other: the last turn undoes itself.
    module _ (unfit : consistent (sectored n L) x (rebuilt (sectored n L) x a (plan_of n L m)) ≡ false) where
      pub undone : last_of before ts ≡ contradiction n f x (array_at a m fine done) (mapAt a m fine done)
      undone =
          s.last
          ∙ undoing (array_at a m fine done) (mapAt a m fine done) (still-fine a m fine done)
          (ap (consistent (sectored n L) x) (same_end a m fine done) ∙ unfit)

      pub made-before : made_by ts ≡ done
      unfolding contradiction repair_count
      made-before =
          let none : repair_count (last_of before ts).answer ≡ 0 = ap (λ (t : Turn). repair_count t.answer) undone in
          let made = s.made in
          omega arith

-- ---- how many turns

-- n is j times k and at least one and at most k more: rounded up, n / k is j + 1.
rounded_up : (n k j : ℕ) → j * k < n → n ≤ j * k + k → turns_for n k ≡ suc j
unfolding turns_for
rounded_up n k j above below =
    let split : n + (k - 1) ≡ suc j * k + (n - j * k - 1) = omega (arith, suc-mul j k) in
    let small : n - j * k - 1 < k = omega arith in
    rw (ne_eqb n 0 (λ e. omega arith)) (ap (λ (i : ℕ). i / k) split ∙ digits_div (suc j) small)

module _ (n : ℕ) (f : Format) (k : ℕ) (some : 0 < k) (ending : List Entry → List ℕ) where
  turns-between : (w : List Entry) (ss : List (List ℕ)) → InTurns n f k ending w ss → 0 < length w
      → (j : ℕ) × (length ss ≡ suc j) × (j * k < length w) × (length w ≤ j * k + k)
  turns-between w [] h l = absurd h
  turns-between w (s ∷ []) h l = let few = h.1 in (0, refl, omega (arith, zero-mul k), omega (arith, zero-mul k))
  turns-between w (s ∷ (t ∷ ss)) (is, many, h) l =
      let less : length (drop k w) ≡ length w - k = length-drop k w in
      let (j, number, above, below) = turns-between (drop k w) (t ∷ ss) h (omega arith) in
      (suc j, ap suc number, omega (arith, suc-mul j k), omega (arith, suc-mul j k))

  -- An empty list takes one turn.
  turns-none : (w : List Entry) (ss : List (List ℕ)) → InTurns n f k ending w ss → length w ≡ 0 → length ss ≡ 1
  turns-none w [] h e = absurd h
  turns-none w (s ∷ []) h e = refl
  turns-none w (s ∷ (t ∷ ss)) (is, many, h) e = absurd (omega arith)

  -- So many turns are made: as many as the repairs take.
  pub turns-number : (w : List Entry) (ss : List (List ℕ)) → InTurns n f k ending w ss → length ss ≡ turns_for (length w) k
  unfolding turns_for
  turns-number w ss h =
      ⊎_elim
      (λ (l : 0 < length w). let (j, number, above, below) = turns-between w ss h l in number ∙ sym (rounded_up (length w) k j above below))
      (λ l. let none : length w ≡ 0 = omega arith in turns-none w ss h none ∙ (rw none)) (lt_or_le 0 (length w))
