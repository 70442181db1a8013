-- The laws of notes: how a disk more is noted, and how the disks that are noted are marked in a map.
-- Assumes nothing.
use mathlib.Core.Path.{◌≡◌, sym, ◌∙◌, ap, subst, fun_ext}
use mathlib.Core.Bool.{Bool, true, false, cond, ◌&&◌, and-false, true≢false}
use mathlib.Core.Logic.{⊎_elim}
use mathlib.Core.List.{List}
use Prim.Native.Nat.{ℕ, zero, suc, ◌+◌, ◌*◌, ◌/◌, ◌%◌, ◌≤◌, ◌<◌}
use native.Mathlib.Nat.{not-suc-le-zero, mod-lt, div-lt_iff_lt-mul}
use native.Mathlib.Numerals.{add-one}
use native.Mathlib.Omega.{arith}
use borrow.Author.Tests.{eq-eqb, eqb-true, eqb-false, lt-ltb, le-ltb, ltb-true, ltb-false, le-leb}
use lib.Dec.{eqb, ltb}
use lib.ListN.{length, get_or, set, length-set, get_or-eq_default}
use lib.Seq.{get_or-set_same, get_or-set_other}
use Rattle.stripes.specs.Fold.{bit, count, tabulate}
use Rattle.stripes.specs.Erased.{erasures, without, below}
use Rattle.stripes.specs.Sectors.{sector_at, at_position}
use Rattle.stripes.proofs.Fold.{by_cases, lt_or_le, below_suc, same_test, fails_with, and_left, and_right, and_both, every_all, count_ext, count_none, count_over, length-tabulate}
use Rattle.stripes.proofs.Bytes.{block-before}
use Rattle.stripes.proofs.Erased.{is_erased, is_present, past_end, below_is, is_below, below-not, below_over, below_all, below_last, is_inside, count_less}
use Rattle.stripes.proofs.Peel.{without_at, without_other, without_sub}
use Rattle.stripes.proofs.Sectors.{sector_is, without-sector, without_elsewhere}
use Rattle.model.specs.Grid.{map_fits}
use Rattle.model.specs.Sheet.{narrow, sheet_at, blank_sheet, blank_sheets}
use Rattle.model.proofs.SheetRow.{sheet_at_lem, length-sheet_at}
use Rattle.tally.specs.Tally.{Passed}
use Rattle.zeros.specs.Stored.{stored}
use Rattle.zeros.proofs.Stored.{length-stored, get_or-stored}
use Rattle.notes.specs.Notes.{Notes, EachNotes, noted, Loads}
use Rattle.sheet.proofs.Put.{put_sheet, put_own, put_other}

-- ---- the place of a disk among those of a set: how many are below it
module _ (e : ℕ → Bool) where
  place-less : (N d : ℕ) → d < N → e d ≡ true → count d e < count N e
  unfolding count bit
  place-less zero d l = absurd (not-suc-le-zero l)
  place-less (suc N) d l =
      below_suc (λ d. e d ≡ true → count d e < count (suc N) e) N
      (λ d h held. let up = place-less N d h held in omega arith)
      (λ held. let here = ap bit held in omega arith)
      d l

  place_same : (j k : ℕ) → e j ≡ true → e k ≡ true → count j e ≡ count k e → j ≡ k
  place_same j k here there same =
      ⊎_elim (λ (l : j < k). let less = place-less k j l here in absurd (omega arith))
      (λ (l : k ≤ j).
      ⊎_elim (λ (h : k < j). let less = place-less j k h there in absurd (omega arith)) (λ (h : j ≤ k). omega arith) (lt_or_le k j))
      (lt_or_le j k)

  -- Each place has its disk.
  placed : (N k : ℕ) → k < count N e → (d : ℕ) × (d < N) × (e d ≡ true) × (count d e ≡ k)
  unfolding count bit
  placed zero k l = absurd (not-suc-le-zero l)
  placed (suc N) k l =
      ⊎_elim (λ h. let (d, low, held, at) = placed N k h in (d, omega arith, held, at))
      (λ h.
      by_cases (λ (b : Bool). (d : ℕ) × (d < suc N) × (e d ≡ true) × (count d e ≡ k)) (e N)
      (λ held. (N, omega arith, held, let here = ap bit held in omega arith))
      (λ none. let here = ap bit none in absurd (omega arith)))
      (lt_or_le k (count N e))

-- ---- noting
module _ (N : ℕ) (e : ℕ → Bool) (s : List ℕ) where
  pub notes_none : ((d : ℕ) → e d ≡ false) → get_or s 0 0 ≡ 0 → Notes N e s
  notes_none none first =
      record {
        number = let zero = count_none N {t = e} (λ d l. none d) in omega arith;
        disk = λ d l held few. absurd (true≢false (sym held ∙ none d));
      }

  -- The highest disk of a set is noted behind the others.
  module _ (d : ℕ) (inside : d < N) (here : e d ≡ true) (last : (i : ℕ) → d < i → e i ≡ false) (size : length s ≡ 98)
      (notes : Notes N (without e d) s) where
    one_more : count N (without e d) + 1 ≡ count N e
    one_more = count_less N e d inside here

    -- The disks up to it have the same places as before.
    same_place : (i : ℕ) → i ≤ d → count i e ≡ count i (without e d)
    same_place i l = count_ext i (λ j h. sym (without_other e d j (λ q. omega arith)))

    own-place : count d e ≡ count N (without e d)
    own-place =
        same_place d (omega arith)
        ∙ sym (count_over (without e d) d N (omega arith)
        (λ i low high.
        ⊎_elim (λ (h : d < i). fails_with (without e d i) (e i) (without_sub e d i) (last i h))
        (λ (h : i ≤ d). let same : d ≡ i = omega arith in ap (without e d) (sym same) ∙ without_at e d)
        (lt_or_le d i)))

    earlier : (i : ℕ) → i < d → e i ≡ true → count i e < 97 → (get_or s (suc (count i e)) 0 ≡ i) × (count i e < count N (without e d))
    earlier i l held few =
        let other : without e d i ≡ true = without_other e d i (λ q. omega arith) ∙ held in
        let same = same_place i (omega arith) in
        let less = place-less (without e d) N i (omega arith) other in (
          ap (λ (k : ℕ). get_or s (suc k) 0) same ∙ notes.disk i (omega arith) other (omega arith),
          omega arith,
        )

    -- A disk of the set is an earlier one or the last.
    up-to : (i : ℕ) → e i ≡ true → i ≤ d
    up-to i held = ⊎_elim (λ (h : d < i). absurd (true≢false (sym held ∙ last i h))) (λ (h : i ≤ d). h) (lt_or_le d i)

    pub notes_next : Notes N e (noted s d)
    unfolding noted
    notes_next =
        by_cases
        (λ (b : Bool).
        Notes N e (cond b (set (set s (get_or s 0 0 + 1) d) 0 (get_or s 0 0 + 1)) (set s 0 98)))
        (ltb (get_or s 0 0) 97)
        (λ q.
        let room = ltb-true (get_or s 0 0) 97 q in
        let c : ℕ = get_or s 0 0 in
        let number = notes.number in
        let more = one_more in
        let own = own-place in
        let is : c ≡ count d e = omega arith in
        let t : List ℕ = set s (c + 1) d in
        record {
          number = get_or-set_same t 0 (c + 1) 0 (let same = length-set s (c + 1) d in omega arith) ∙ (omega arith);
          disk = λ i l held few.
              get_or-set_other t 0 (suc (count i e)) (c + 1) 0 (λ z. omega arith)
              ∙ ⊎_elim
              (λ (h : i < d).
              let (at, less) = earlier i h held few in
              get_or-set_other s (c + 1) (suc (count i e)) d 0 (λ z. omega arith) ∙ at)
              (λ (h : d ≤ i).
              let most = up-to i held in
              let same : d ≡ i = omega arith in
              let place : c + 1 ≡ suc (count i e) = omega (arith, ap (λ (j : ℕ). count j e) same) in
              ap (λ (k : ℕ). get_or t k 0) (sym place) ∙ get_or-set_same s (c + 1) d 0 (omega arith) ∙ same)
              (lt_or_le i d);
        })
        (λ q.
        let full = ltb-false (get_or s 0 0) 97 q in
        let number = notes.number in
        let more = one_more in
        let own = own-place in
        record {
          number = get_or-set_same s 0 98 0 (omega arith) ∙ (omega arith);
          disk = λ i l held few.
              get_or-set_other s 0 (suc (count i e)) 98 0 (λ z. omega arith)
              ∙ ⊎_elim (λ (h : i < d). (earlier i h held few).0)
              (λ (h : d ≤ i).
              let most = up-to i held in
              let same : d ≡ i = omega arith in
              absurd (omega (arith, ap (λ (j : ℕ). count j e) same)))
              (lt_or_le i d);
        })

-- ---- noting every sector of a map

-- The sheets note the sectors below i that are erased in a map with n bytes for each disk.
abbrev pub NotedTo : (n : ℕ) → (map sheets : List ℕ) → (i : ℕ) → Type 0
NotedTo n map sheets i = (N : ℕ) → length map ≡ N * n → EachNotes N n (below i (erasures map)) sheets

module _ (n : ℕ) (map : List ℕ) where
  pub noted-none : {sheets : List ℕ} → sheets ≡ blank_sheets narrow n → NotedTo n map sheets 0
  unfolding blank_sheets blank_sheet tabulate at_position
  noted-none {sheets} blank N all p place =
      notes_none N _ _ (λ d. below-not 0 (erasures map) (sector_at n p d) (omega arith))
      (ap (λ (s : List ℕ). get_or (sheet_at narrow p s) 0 0) blank
      ∙ ap (λ (s : List ℕ). get_or s 0 0) (sheet_at_lem narrow n (λ q. blank_sheet narrow) (λ q l. length-tabulate 98 (λ i. 0)) p place))

  -- Sectors that are present are passed over.
  pub noted_over : (sheets : List ℕ) {from i : ℕ} → NotedTo n map sheets from → Passed map from i → NotedTo n map sheets i
  noted_over sheets {from} {i} notes passed N all p place =
      rw (below_over from i (erasures map) passed.after passed.none) (notes N all p place)

  pub noted_all : (sheets : List ℕ) {i : ℕ} → NotedTo n map sheets i → length map ≤ i
      → (N : ℕ) → length map ≡ N * n → EachNotes N n (erasures map) sheets
  noted_all sheets {i} notes end N all p place =
      subst (λ (e : ℕ → Bool). Notes N (at_position n p e) (sheet_at narrow p sheets))
      (below_all i (erasures map) (λ d l. past_end map d (omega arith))) (notes N all p place)

  -- An erased sector is noted in the sheet of its position.
  module _ (some : 0 < n) (sheets : List ℕ) (long : length sheets ≡ 98 * n) (i : ℕ) (here : erasures map i ≡ true) (t : List ℕ)
      (is : t ≡ noted (sheet_at narrow (i % n) sheets) (i / n)) (size : length t ≡ 98) (notes : NotedTo n map sheets i) where
    at : i % n < n
    at = mod-lt i some

    -- The sectors at a position that are erased and not above this one.
    up_to : ℕ → ℕ → Bool
    up_to p = at_position n p (below (i + 1) (erasures map))

    own-before : at_position n (i % n) (below i (erasures map)) ≡ without (up_to (i % n)) (i / n)
    unfolding up_to
    own-before =
        ap (at_position n (i % n)) (below_last i (erasures map))
        ∙ ap (λ (j : ℕ). at_position n (i % n) (without (below (i + 1) (erasures map)) j)) (sym (sector_is n i))
        ∙ without-sector n at (below (i + 1) (erasures map)) (i / n)

    other-before : {p : ℕ} → p < n → (p ≡ i % n → ⊥) → at_position n p (below i (erasures map)) ≡ up_to p
    unfolding up_to
    other-before {p} place differ =
        ap (at_position n p) (below_last i (erasures map))
        ∙ ap (λ (j : ℕ). at_position n p (without (below (i + 1) (erasures map)) j)) (sym (sector_is n i))
        ∙ without_elsewhere n at place differ (below (i + 1) (erasures map)) (i / n)

    own-here : up_to (i % n) (i / n) ≡ true
    unfolding up_to at_position
    own-here = ap (below (i + 1) (erasures map)) (sector_is n i) ∙ below_is (i + 1) (erasures map) i (omega arith) here

    own-last : (d : ℕ) → i / n < d → up_to (i % n) d ≡ false
    unfolding up_to at_position sector_at
    own-last d l =
        let sector = sector_is n i in
        let later = block-before n l in
        below-not (i + 1) (erasures map) (d * n + i % n) (omega arith)

    pub noted-next : NotedTo n map (put_sheet (i % n) t sheets) (i + 1)
    unfolding up_to
    noted-next N all p place =
        by_cases (λ (b : Bool). Notes N (up_to p) (sheet_at narrow p (put_sheet (i % n) t sheets))) (eqb p (i % n))
        (λ same.
        rw (eqb-true p (i % n) same, put_own n sheets long (i % n) at t size, is)
        (notes_next N (up_to (i % n)) (sheet_at narrow (i % n) sheets) (i / n) inside own-here own-last
        (length-sheet_at narrow n sheets long (i % n) at) (rw own-before at (notes N all (i % n) at))))
        (λ same.
        let other = eqb-false p (i % n) same in
        rw (put_other n sheets long (i % n) at t size p other, ← other-before place other) (notes N all p place))
      where
        inside : i / n < N
        inside = (div-lt_iff_lt-mul some).1 (let l = is_inside (length map) (erasures map) (past_end map) i here in omega arith)

-- ---- marking

-- The first k disks that a sheet notes, and no others, are marked in a map.
abbrev pub Marked : (N : ℕ) (s map : List ℕ) (k : ℕ) → Type 0
Marked N s map k = (e : ℕ → Bool) → Notes N e s → (i : ℕ) → erasures map i ≡ (below N e i && ltb (count i e) k)

-- Its bytes are 0 or 1.
abbrev pub Binary : List ℕ → Type 0
Binary map = (i : ℕ) → get_or map i 0 ≤ 1

module _ (N : ℕ) (s : List ℕ) where
  -- The disk that is noted at a place.
  found : {e : ℕ → Bool} → Notes N e s → get_or s 0 0 ≤ 97 → (k : ℕ) → k < get_or s 0 0
      → let d : ℕ = get_or s (k + 1) 0 in (d < N) × (e d ≡ true) × (count d e ≡ k)
  found {e} notes few k l =
      let number = notes.number in
      let (d, low, held, at) = placed e N k (omega arith) in
      let is : get_or s (k + 1) 0 ≡ d = ap (λ (j : ℕ). get_or s j 0) (add-one k ∙ ap suc (sym at)) ∙ notes.disk d low held (omega arith) in
      subst (λ (d : ℕ). (d < N) × (e d ≡ true) × (count d e ≡ k)) (sym is) (low, held, at)

  pub noted-inside : {e : ℕ → Bool} → Notes N e s → get_or s 0 0 ≤ 97 → (k : ℕ) → k < get_or s 0 0 → get_or s (k + 1) 0 < N
  noted-inside notes few k l = (found notes few k l).0

pub binary_set : (map : List ℕ) (d : ℕ) → d < length map → Binary map → Binary (set map d 1)
binary_set map d l binary i =
    by_cases (λ (b : Bool). get_or (set map d 1) i 0 ≤ 1) (eqb i d)
    (λ h. let is = ap (λ (j : ℕ). get_or (set map d 1) j 0) (eqb-true i d h) ∙ get_or-set_same map d 1 0 l in omega arith)
    (λ h. let is = get_or-set_other map d i 1 0 (eqb-false i d h) in let small = binary i in omega arith)

-- At first a map of zeros.
module _ (m : List ℕ) {work : List ℕ} (zeros : work ≡ stored m 0 (length m) (λ j. 0)) where
  zero-at : (i : ℕ) → get_or work i 0 ≡ 0
  zero-at i =
      ap (λ (l : List ℕ). get_or l i 0) zeros
      ∙ ⊎_elim (λ l. get_or-stored m 0 (length m) (λ j. 0) i l (omega arith) (omega arith))
      (λ l.
      let same = length-stored m 0 (length m) (λ j. 0) in
      get_or-eq_default (stored m 0 (length m) (λ j. 0)) 0 {n = i} (omega arith))
      (lt_or_le i (length m))

  pub binary_none : Binary work
  binary_none i = let none = zero-at i in omega arith

  pub marked-none : (N : ℕ) (s : List ℕ) → Marked N s work 0
  marked-none N s e notes i =
      is_present work i (λ one. let none = zero-at i in omega arith)
      ∙ sym (ap (λ (b : Bool). below N e i && b) (le-ltb (count i e) 0 (omega arith)) ∙ and-false (below N e i))

module _ (N : ℕ) (s map : List ℕ) (long : length map ≡ N) (few : get_or s 0 0 ≤ 97) (k : ℕ) (marked : Marked N s map k) where
  -- One disk more.
  pub marked_next : k < get_or s 0 0 → Marked N s (set map (get_or s (k + 1) 0) 1) (k + 1)
  unfolding erasures
  marked_next l e notes i =
      by_cases (λ (b : Bool). erasures (set map d 1) i ≡ (below N e i && ltb (count i e) (k + 1))) (eqb i d)
      (λ h.
      let same = eqb-true i d h in
      let place = ap (λ (j : ℕ). count j e) same in
      is_erased (set map d 1) i (ap (λ (j : ℕ). get_or (set map d 1) j 0) same ∙ get_or-set_same map d 1 0 (omega (arith, inside)))
      ∙ sym (and_both (ap (below N e) same ∙ below_is N e d inside held) (lt-ltb (count i e) (k + 1) (omega (arith, at)))))
      (λ h.
      let other = eqb-false i d h in
      ap (λ (x : ℕ). eqb x 1) (get_or-set_other map d i 1 0 other) ∙ marked e notes i
      ∙ same_test (below N e i && ltb (count i e) k) (below N e i && ltb (count i e) (k + 1))
      (λ h.
      let less = ltb-true (count i e) k (and_right (below N e i) _ h) in
      and_both (and_left (below N e i) _ h) (lt-ltb (count i e) (k + 1) (omega arith)))
      (λ h.
      let own = and_left (below N e i) _ h in
      let less = ltb-true (count i e) (k + 1) (and_right (below N e i) _ h) in
      ⊎_elim (λ (w : count i e < k). and_both own (lt-ltb (count i e) k w))
      (λ (w : k ≤ count i e).
      let here : count i e ≡ count d e = omega (arith, at) in
      absurd (other (place_same e i d (is_below N e i own).1 held here)))
      (lt_or_le (count i e) k)))
    where
      d : ℕ
      d = get_or s (k + 1) 0

      inside : d < N
      inside = (found N s notes few k l).0

      held : e d ≡ true
      held = (found N s notes few k l).1

      at : count d e ≡ k
      at = (found N s notes few k l).2

  -- All of them.
  pub marked_all : Binary map → get_or s 0 0 ≤ k → Loads N s map
  unfolding map_fits
  marked_all binary end =
      record {
        fits = and_both (eq-eqb (length map) N long) (every_all (length map) (λ d l. le-leb (get_or map d 0) 1 (binary d)));
        erased = λ e notes.
            fun_ext (λ i.
            marked e notes i
            ∙ same_test (below N e i && ltb (count i e) k) (below N e i) (λ h. and_left (below N e i) _ h)
            (λ h.
            let (low, held) = is_below N e i h in
            let less = place-less e N i low held in
            let number = notes.number in
            and_both h (lt-ltb (count i e) k (omega arith))));
      }
