-- Sheets that stand one after another, one for each position: where each lies, what it lists, and which number all of them get.
-- Assumes nothing.
use mathlib.Core.Path.{◌≡◌, refl, sym, ◌∙◌, ap, ap₂}
use mathlib.Core.Bool.{Bool, true, false, cond, ◌&&◌, true≢false}
use mathlib.Core.Logic.{◌↔◌, ⊎_elim}
use mathlib.Core.List.{List, [], ◌∷◌, ◌++◌, append_assoc, append-nil}
use Prim.Native.Nat.{ℕ, zero, suc, ◌+◌, ◌*◌, ◌-◌, ◌/◌, ◌%◌, ◌≤◌, ◌<◌}
use native.Mathlib.Nat.{add-zero, mul-zero, mul-suc, mul-add, mul-le-mul_left, le_step, lt-suc_self, not-suc-le-zero, mod-lt}
use native.Mathlib.Omega.{arith}
use borrow.Author.Tests.{eq-eqb, ne_eqb, eqb-true, eqb-false}
use lib.Dec.{eqb}
use lib.ListN.{length, get_or, take, drop, length-append, length-take, length-drop, take-append-drop}
use lib.Seq.{take_all, take_at, take-append-le, drop-append-le, drop-append-add, drop-drop, take-add, length-take-le, get_or-take, get_or-drop}
use Rattle.stripes.specs.System.{Layout, on, Bytes}
use Rattle.stripes.specs.Erased.{without}
use Rattle.stripes.specs.Repair.{Entry, allowed, Peels, after, clears}
use Rattle.stripes.specs.Fold.{every}
use Rattle.stripes.specs.Sectors.{sector_at, sectored, at_position, rising, of_position}
use Rattle.stripes.proofs.Fold.{by_cases, below_suc, lt_or_le, and_both, every_fails, every-not, count_none, length-tabulate}
use Rattle.stripes.proofs.Peel.{allowed_is}
use Rattle.stripes.proofs.Clears.{peels_all_allowed, clears_peels, clears-left}
use Rattle.stripes.proofs.Sectors.{sector-below, sector_is, on-other, without-sector, without_elsewhere}
use Rattle.stripes.proofs.Positions.{allowed-sector, rising_ext}
use Rattle.model.specs.Grid.{size_fits}
use Rattle.model.specs.Refusal.{Test, ◌unless◌, refusal, earlier}
use Rattle.model.specs.Sheet.{Format, narrow, sheet_bytes, sheet_of, blank_sheet, sheets_of, sheet_at, repair_sheets, blank_sheets}
use Rattle.model.specs.Chain.{kind_of, chain_tests, chain_refusal, no_leftovers, Leftover, clean_tests, clean_refusal, chain_entries}
use Rattle.model.specs.Plan.{cycle_sheets, sheet_layout}
use Rattle.model.specs.Follow.{sheets_entries, chains_tests, sheets_tests}
use Rattle.model.specs.declared.Size.{Size}
use Rattle.model.proofs.Refusal.{no_tests, fails, passes, passed, by_test, first-accepted}
use Rattle.model.proofs.Sheets.{Fitting, sheet_length, sheet_kind}
use Rattle.model.proofs.Limits.{peels_fitting}
use Rattle.model.proofs.Chain.{leftovers_exact, written_chain}

-- ---- where each lies

-- Only the sheets of the positions that are taken matter.
pub sheets_ext : (n : ℕ) {g h : ℕ → List ℕ} → ((p : ℕ) → p < n → g p ≡ h p) → sheets_of n g ≡ sheets_of n h
unfolding sheets_of
sheets_ext zero same = refl
sheets_ext (suc n) same = ap₂ ◌++◌ (sheets_ext n (λ p l. same p (le_step l))) (same n (lt-suc_self n))

-- One sheet is just that one.
pub one_sheet : (g : ℕ → List ℕ) → sheets_of 1 g ≡ g 0
unfolding sheets_of
one_sheet g = refl

module _ (f : Format) where
  -- The sheet of a position does not change where others come behind it, and counts from the end of those that come before.
  at_front : (p : ℕ) (s t : List ℕ) → sheet_bytes f * suc p ≤ length s → sheet_at f p (s ++ t) ≡ sheet_at f p s
  unfolding sheet_at
  at_front p s t within =
      let next = mul-suc (sheet_bytes f) p in
      let rest = length-drop (sheet_bytes f * p) s in
      ap (take (sheet_bytes f)) (drop-append-le (sheet_bytes f * p) s t (omega arith))
      ∙ take-append-le (sheet_bytes f) (drop (sheet_bytes f * p) s) t (omega arith)

  at-behind : (r p : ℕ) (s t : List ℕ) → length s ≡ sheet_bytes f * r → sheet_at f (r + p) (s ++ t) ≡ sheet_at f p t
  unfolding sheet_at
  at-behind r p s t long =
      let start : sheet_bytes f * (r + p) ≡ length s + sheet_bytes f * p = let sum = mul-add (sheet_bytes f) r p in omega arith in
      ap (λ (i : ℕ). take (sheet_bytes f) (drop i (s ++ t))) start
      ∙ ap (take (sheet_bytes f)) (drop-append-add s t (sheet_bytes f * p))

  at-dropped : (r p : ℕ) (s : List ℕ) → sheet_at f p (drop (sheet_bytes f * r) s) ≡ sheet_at f (r + p) s
  unfolding sheet_at
  at-dropped r p s =
      let sum = mul-add (sheet_bytes f) r p in
      ap (take (sheet_bytes f)) (drop-drop (sheet_bytes f * p) (sheet_bytes f * r) s ∙ ap (λ (i : ℕ). drop i s) (sym sum))

  at_first : (s t : List ℕ) → length s ≡ sheet_bytes f → sheet_at f 0 (s ++ t) ≡ s
  unfolding sheet_at
  at_first s t long = rw (mul-zero (sheet_bytes f)) (take_at s t (sheet_bytes f) long)

  -- Its numbers are bytes where those of all are.
  pub bytes_at : (p : ℕ) (s : List ℕ) → Bytes s → Bytes (sheet_at f p s)
  unfolding sheet_at
  bytes_at p s bytes i l =
      let long = length-take (sheet_bytes f) (drop (sheet_bytes f * p) s) in
      let rest = length-drop (sheet_bytes f * p) s in
      let is : get_or (take (sheet_bytes f) (drop (sheet_bytes f * p) s)) i 0 ≡ get_or s (sheet_bytes f * p + i) 0 =
      get_or-take (sheet_bytes f) (drop (sheet_bytes f * p) s) i 0 (omega arith) ∙ get_or-drop (sheet_bytes f * p) s i 0 in
      let small = bytes (sheet_bytes f * p + i) (omega arith) in
      omega arith

  -- A list that is as long as a sheet is the sheet of position 0.
  pub whole_sheet_lem : (s : List ℕ) → length s ≡ sheet_bytes f → sheet_at f 0 s ≡ s
  whole_sheet_lem s long = ap (sheet_at f 0) (sym (append-nil s)) ∙ at_first s [] long

  -- Sheets of the right length: their length, and each of them.
  pub length-sheets : (n : ℕ) (g : ℕ → List ℕ) → ((p : ℕ) → p < n → length (g p) ≡ sheet_bytes f) → length (sheets_of n g) ≡ sheet_bytes f * n
  unfolding sheets_of
  length-sheets zero g long = sym (mul-zero (sheet_bytes f))
  length-sheets (suc n) g long =
      length-append (sheets_of n g) (g n)
      ∙ ap₂ ◌+◌ (length-sheets n g (λ p l. long p (le_step l))) (long n (lt-suc_self n)) ∙ sym (mul-suc (sheet_bytes f) n)

  pub sheet_at_lem : (n : ℕ) (g : ℕ → List ℕ) → ((p : ℕ) → p < n → length (g p) ≡ sheet_bytes f)
      → (p : ℕ) → p < n → sheet_at f p (sheets_of n g) ≡ g p
  unfolding sheets_of
  sheet_at_lem zero g long p l = absurd (not-suc-le-zero l)
  sheet_at_lem (suc n) g long p l =
      let all = length-sheets n g (λ p l. long p (le_step l)) in
      below_suc (λ p. sheet_at f p (sheets_of n g ++ g n) ≡ g p) n
      (λ p h.
      let most = mul-le-mul_left (sheet_bytes f) h in
      at_front p (sheets_of n g) (g n) (omega arith) ∙ sheet_at_lem n g (λ p l. long p (le_step l)) p h)
      (ap (λ (q : ℕ). sheet_at f q (sheets_of n g ++ g n)) (sym (add-zero n)) ∙ at-behind n 0 (sheets_of n g) (g n) all
      ∙ whole_sheet_lem (g n) (long n (lt-suc_self n)))
      p l

  -- A list that is as long as n sheets is n sheets.
  take-sheets : (k : ℕ) (s : List ℕ) → take (sheet_bytes f * k) s ≡ sheets_of k (λ p. sheet_at f p s)
  unfolding sheets_of sheet_at
  take-sheets zero s = rw mul-zero
  take-sheets (suc k) s =
      ap (λ (i : ℕ). take i s) (mul-suc (sheet_bytes f) k) ∙ take-add (sheet_bytes f * k) (sheet_bytes f) s
      ∙ ap (λ (t : List ℕ). t ++ sheet_at f k s) (take-sheets k s)

  -- Sheets with t as that of position p.
  abbrev pub withSheet : (p : ℕ) → (t s : List ℕ) → List ℕ
  withSheet p t s = take (sheet_bytes f * p) s ++ (t ++ drop (sheet_bytes f * (p + 1)) s)

  module _ (n : ℕ) (s : List ℕ) (long : length s ≡ sheet_bytes f * n) where
    pub sheets_split : s ≡ sheets_of n (λ p. sheet_at f p s)
    sheets_split = sym (take_all (sheet_bytes f * n) s (omega arith)) ∙ take-sheets n s

    pub length-sheet_at : (p : ℕ) → p < n → length (sheet_at f p s) ≡ sheet_bytes f
    unfolding sheet_at
    length-sheet_at p l =
        let most = mul-le-mul_left (sheet_bytes f) l in
        let next = mul-suc (sheet_bytes f) p in
        let rest = length-drop (sheet_bytes f * p) s in
        length-take-le (sheet_bytes f) (drop (sheet_bytes f * p) s) (omega arith)

    -- Another such list is equal if its sheets are.
    pub sheets_equal : (t : List ℕ) → length t ≡ length s → ((p : ℕ) → p < n → sheet_at f p t ≡ sheet_at f p s) → t ≡ s
    sheets_equal t same each =
        sym (take_all (sheet_bytes f * n) t (omega arith)) ∙ take-sheets n t ∙ sheets_ext n each ∙ sym sheets_split

    -- Writing one of them gives that one, and leaves the others.
    module _ (p : ℕ) (place : p < n) (t : List ℕ) (size : length t ≡ sheet_bytes f) where
      length_before : length (take (sheet_bytes f * p) s) ≡ sheet_bytes f * p
      length_before =
          let most = mul-le-mul_left (sheet_bytes f) place in
          let next = mul-suc (sheet_bytes f) p in
          length-take-le (sheet_bytes f * p) s (omega arith)

      through-written : length (take (sheet_bytes f * p) s ++ t) ≡ sheet_bytes f * (p + 1)
      through-written =
          let next = mul-suc (sheet_bytes f) p in
          let before = length_before in
          length-append (take (sheet_bytes f * p) s) t ∙ omega arith

      pub length-written : length (withSheet p t s) ≡ length s
      length-written =
          let most = mul-le-mul_left (sheet_bytes f) place in
          let rest = length-drop (sheet_bytes f * (p + 1)) s in
          let through = through-written in
          ap length (sym (append_assoc (take (sheet_bytes f * p) s) t _)) ∙ length-append (take (sheet_bytes f * p) s ++ t) _ ∙ omega arith

      pub sheet_written : sheet_at f p (withSheet p t s) ≡ t
      sheet_written =
          ap (λ (q : ℕ). sheet_at f q (withSheet p t s)) (sym (add-zero p))
          ∙ at-behind p 0 (take (sheet_bytes f * p) s) _ length_before ∙ at_first t _ size

      pub sheet_kept : (q : ℕ) → (q ≡ p → ⊥) → sheet_at f q (withSheet p t s) ≡ sheet_at f q s
      sheet_kept q other =
          ⊎_elim
          (λ (before : q < p).
          let first : List ℕ = take (sheet_bytes f * p) s in
          let most = mul-le-mul_left (sheet_bytes f) before in
          let long = length_before in
          at_front q first _ (omega arith) ∙ sym (at_front q first (drop (sheet_bytes f * p) s) (omega arith))
          ∙ ap (sheet_at f q) (take-append-drop (sheet_bytes f * p) s))
          (λ h.
          let first : List ℕ = take (sheet_bytes f * p) s ++ t in
          let k : ℕ = q - (p + 1) in
          let is : (p + 1) + k ≡ q = omega arith in
          ap₂ (sheet_at f) (sym is) (sym (append_assoc (take (sheet_bytes f * p) s) t _))
          ∙ at-behind (p + 1) k first (drop (sheet_bytes f * (p + 1)) s) through-written
          ∙ at-dropped (p + 1) k s ∙ ap (λ (q : ℕ). sheet_at f q s) is)
          (lt_or_le q p)

-- ---- the repairs of a list at a position, wherever they stand in it
module _ (n : ℕ) {p : ℕ} (place : p < n) where
  -- What a list leaves erased at a position is what those at this position leave.
  without-own : (e : ℕ → Bool) (d : ℕ) → d % n ≡ p → at_position n p (without e d) ≡ without (at_position n p e) (d / n)
  without-own e d at =
      ap (λ (i : ℕ). at_position n p (without e i)) (sym (sector_is n d) ∙ ap (λ (q : ℕ). sector_at n q (d / n)) at)
      ∙ without-sector n place e (d / n)

  without_other : (e : ℕ → Bool) (d : ℕ) → (d % n ≡ p → ⊥) → at_position n p (without e d) ≡ at_position n p e
  without_other e d off =
      ap (λ (i : ℕ). at_position n p (without e i)) (sym (sector_is n d))
      ∙ without_elsewhere n (mod-lt d (omega arith)) place (λ at. off (sym at)) e (d / n)

  pub after_of : (e : ℕ → Bool) (v : List Entry) → at_position n p (after e v) ≡ after (at_position n p e) (of_position n p v)
  unfolding after of_position
  after_of e [] = refl
  after_of e (r ∷ rs) =
      after_of (without e r.disk) rs
      ∙ by_cases
      (λ (b : Bool).
      after (at_position n p (without e r.disk)) (of_position n p rs)
      ≡ after (at_position n p e)
      (cond b (record { disk = r.disk / n; stripe = r.stripe / n } ∷ of_position n p rs) (of_position n p rs)))
      (eqb (r.disk % n) p)
      (λ h. ap (λ (c : ℕ → Bool). after c (of_position n p rs)) (without-own e r.disk (eqb-true (r.disk % n) p h)))
      (λ h. ap (λ (c : ℕ → Bool). after c (of_position n p rs)) (without_other e r.disk (eqb-false (r.disk % n) p h)))

  module _ (L : Layout) where
    -- A repair is allowed only by a stripe at its own position, and then there.
    allowed-of-sector : (e : ℕ → Bool) (d s : ℕ) → d % n ≡ p → allowed (sectored n L) e d s ≡ true
        → allowed L (at_position n p e) (d / n) (s / n) ≡ true
    allowed-of-sector e d s at h =
        let own : d ≡ sector_at n p (d / n) = sym (sector_is n d) ∙ ap (λ (q : ℕ). sector_at n q (d / n)) at in
        let same : s % n ≡ p =
        by_cases (λ (b : Bool). s % n ≡ p) (eqb (s % n) p) (λ q. eqb-true (s % n) p q)
        (λ q.
        absurd (true≢false (sym (allowed_is (sectored n L) e d s h).here
        ∙ ap₂ (on (sectored n L)) own (sym (sector_is n s))
        ∙ on-other n place L (mod-lt s (omega arith)) (eqb-false (s % n) p q) (d / n) (s / n)))) in
        sym (allowed-sector n place L e (d / n) (s / n))
        ∙ ap₂ (allowed (sectored n L) e) (sym own) (ap (λ (q : ℕ). sector_at n q (s / n)) (sym same) ∙ sector_is n s) ∙ h

    -- So where all are allowed at their steps, and where they leave nothing erased, it is so at each position.
    pub peels_of : (e : ℕ → Bool) (v : List Entry) → Peels (sectored n L) e v → Peels L (at_position n p e) (of_position n p v)
    unfolding of_position
    peels_of e [] peels = tt
    peels_of e (r ∷ rs) (here, rest) =
        let up = peels_of (without e r.disk) rs rest in
        by_cases
        (λ (b : Bool).
        Peels L (at_position n p e)
        (cond b (record { disk = r.disk / n; stripe = r.stripe / n } ∷ of_position n p rs) (of_position n p rs)))
        (eqb (r.disk % n) p)
        (λ h.
        let at = eqb-true (r.disk % n) p h in
        (allowed-of-sector e r.disk r.stripe at here, rw (without-own e r.disk at) at up))
        (λ h. rw (without_other e r.disk (eqb-false (r.disk % n) p h)) at up)

    pub clears_of : (e : ℕ → Bool) (v : List Entry) → clears (sectored n L) e v ≡ true
        → clears L (at_position n p e) (of_position n p v) ≡ true
    unfolding clears at_position sectored
    clears_of e v h =
        and_both (peels_all_allowed L (at_position n p e) (of_position n p v) (peels_of e v (clears_peels (sectored n L) e v h)))
        (eq-eqb _ 0 (count_none L.disks (λ d l.
        ap (λ (c : ℕ → Bool). c d) (sym (after_of e v)) ∙ clears-left (sectored n L) e v h (sector_at n p d) (sector-below n place l))))

-- ---- the sheets that the library writes
module _ (f : Format) (n : ℕ) where
  pub length-repair_sheets : (v : List Entry) → length (repair_sheets f n v) ≡ sheet_bytes f * n
  unfolding repair_sheets
  length-repair_sheets v = length-sheets f n _ (λ p l. sheet_length f f.repair_kind (of_position n p v))

  pub repair_sheet_at : (v : List Entry) (p : ℕ) → p < n → sheet_at f p (repair_sheets f n v) ≡ sheet_of f f.repair_kind (of_position n p v)
  unfolding repair_sheets
  repair_sheet_at v = sheet_at_lem f n _ (λ p l. sheet_length f f.repair_kind (of_position n p v))

  blank-length : length (blank_sheet f) ≡ sheet_bytes f
  unfolding blank_sheet
  blank-length = length-tabulate (sheet_bytes f) _

  pub length-blank_sheets : length (blank_sheets f n) ≡ sheet_bytes f * n
  unfolding blank_sheets
  length-blank_sheets = length-sheets f n _ (λ p l. blank-length)

  pub blank_sheet_at : (p : ℕ) → p < n → sheet_at f p (blank_sheets f n) ≡ blank_sheet f
  unfolding blank_sheets
  blank_sheet_at = sheet_at_lem f n _ (λ p l. blank-length)

  module _ (k : ℕ) (w : List Entry) where
    cycle-length : (p : ℕ) → p < n → length (cond (eqb p k) (sheet_of f f.loop_kind w) (blank_sheet f)) ≡ sheet_bytes f
    cycle-length p l =
        by_cases (λ (b : Bool). length (cond b (sheet_of f f.loop_kind w) (blank_sheet f)) ≡ sheet_bytes f) (eqb p k)
        (λ h. sheet_length f f.loop_kind w) (λ h. blank-length)

    pub length-cycle_sheets : length (cycle_sheets f n k w) ≡ sheet_bytes f * n
    unfolding cycle_sheets
    length-cycle_sheets = length-sheets f n _ cycle-length

    pub cycle-sheet_at : (p : ℕ) → p < n
        → sheet_at f p (cycle_sheets f n k w) ≡ cond (eqb p k) (sheet_of f f.loop_kind w) (blank_sheet f)
    unfolding cycle_sheets
    cycle-sheet_at = sheet_at_lem f n _ cycle-length

  -- Where the repairs at each position have room, each sheet lists those at its own, and 10, 13 and 14 let it through.
  module _ (v : List Entry) (kind : f.repair_kind < 256) (fits : (p : ℕ) → p < n → Fitting f (of_position n p v)) where
    pub sheet_clean : (p : ℕ) → p < n → clean_refusal f (sheet_at f p (repair_sheets f n v)) ≡ 0
    sheet_clean p l = ap (clean_refusal f) (repair_sheet_at v p l) ∙ (written_chain f (of_position n p v) kind (fits p l)).0

    pub sheet_lists : (p : ℕ) → p < n → chain_entries f (sheet_at f p (repair_sheets f n v)) ≡ of_position n p v
    sheet_lists p l = ap (chain_entries f) (repair_sheet_at v p l) ∙ (written_chain f (of_position n p v) kind (fits p l)).1

    -- All of them list the repairs in rising order of position.
    pub sheets-list : sheets_entries f n (repair_sheets f n v) ≡ rising n (λ p. of_position n p v) n
    unfolding sheets_entries
    sheets-list = rising_ext n n sheet_lists

-- Repairs of sectors, each of them allowed at its step, have room in the sheets of paper 01.
pub sectors_fitting : (z : Size) → size_fits z ≡ true → (n : ℕ) (e : ℕ → Bool) (v : List Entry) → Peels (sectored n (sheet_layout z)) e v
    → (p : ℕ) → p < n → Fitting narrow (of_position n p v)
sectors_fitting z size n e v peels p l =
    peels_fitting z size (at_position n p e) (of_position n p v) (peels_of n l (sheet_layout z) e v peels)

-- ---- the number that they get

-- Number k is the earlier one, beside a later number j or none.
abbrev First : (k j : ℕ) → Type 0
First k j = (earlier k j ≡ k) × (earlier j k ≡ k)

-- Where two things are to pass one test each, and then others, both together get the earlier number if they do so of the others, which have
-- later numbers.
both_pass : (k : ℕ) (a b : Bool) (ts us vs : List Test) → earlier k k ≡ k → First k (refusal ts) → First k (refusal us)
    → refusal vs ≡ earlier (refusal ts) (refusal us)
    → refusal (k unless (a && b) ∷ vs) ≡ earlier (refusal (k unless a ∷ ts)) (refusal (k unless b ∷ us))
unfolding refusal
both_pass k true true ts us vs own x y rest = rest
both_pass k true false ts us vs own x y rest = sym x.1
both_pass k false true ts us vs own x y rest = sym y.0
both_pass k false false ts us vs own x y rest = sym own

-- Two tests with one number are one.
one_number : (k : ℕ) (a b : Bool) (ts : List Test) → refusal (k unless (a && b) ∷ ts) ≡ refusal (k unless a ∷ k unless b ∷ ts)
unfolding refusal
one_number k true b ts = refl
one_number k false b ts = refl

-- Behind 10 and 13 there is no number, or a later one.
abbrev Behind : List Test → Type 0
Behind ts = First 10 (refusal ts) × First 13 (refusal ts)

none-behind : Behind []
unfolding refusal earlier
none-behind = ((refl, refl), (refl, refl))

fourteen_behind : (a : Bool) → Behind (14 unless a ∷ [])
unfolding earlier
fourteen_behind a =
    by_test (λ k. First 10 k × First 13 k) 14 a [] ((refl, refl), (refl, refl)) none-behind

none_more : refusal [] ≡ earlier (refusal []) (refusal [])
unfolding refusal earlier
none_more = refl

fourteen_more : (a b : Bool) → refusal (14 unless (a && b) ∷ []) ≡ earlier (refusal (14 unless a ∷ [])) (refusal (14 unless b ∷ []))
unfolding refusal earlier
fourteen_more a b = both_pass 14 a b [] [] [] refl (refl, refl) (refl, refl) none_more

-- The tests of some chains and of one more.
chains_more : (a b x y v : Bool) (ts us vs : List Test) → Behind ts → Behind us → refusal vs ≡ earlier (refusal ts) (refusal us)
    → refusal (10 unless (a && (x && y)) ∷ 13 unless (b && v) ∷ vs)
    ≡ earlier (refusal (10 unless a ∷ 13 unless b ∷ ts)) (refusal (10 unless x ∷ 10 unless y ∷ 13 unless v ∷ us))
unfolding earlier
chains_more a b x y v ts us vs before after same =
    both_pass 10 a (x && y) (13 unless b ∷ ts) (13 unless v ∷ us) (13 unless (b && v) ∷ vs) refl
    (by_test (First 10) 13 b ts (refl, refl) before.0) (by_test (First 10) 13 v us (refl, refl) after.0)
    (both_pass 13 b v ts us vs refl before.1 after.1 same)
    ∙ ap (earlier (refusal (10 unless a ∷ 13 unless b ∷ ts))) (one_number 10 x y (13 unless v ∷ us))

module _ (f : Format) (s : List ℕ) where
  -- No sheets get none, and one sheet more gets its own, unless those before it get an earlier one.
  pub no_chains : refusal (chains_tests f 0 s) ≡ 0
  unfolding refusal chains_tests every
  no_chains = refl

  pub chains_next : (k : ℕ) → refusal (chains_tests f (suc k) s) ≡ earlier (refusal (chains_tests f k s)) (chain_refusal f (sheet_at f k s))
  unfolding chains_tests every chain_refusal chain_tests
  chains_next k = chains_more _ _ _ _ _ [] [] [] none-behind none-behind none_more

  pub no_sheets : refusal (sheets_tests f 0 s) ≡ 0
  unfolding refusal sheets_tests chains_tests every
  no_sheets = refl

  pub sheets-next : (k : ℕ) → refusal (sheets_tests f (suc k) s) ≡ earlier (refusal (sheets_tests f k s)) (clean_refusal f (sheet_at f k s))
  unfolding sheets_tests chains_tests every clean_refusal clean_tests chain_tests
  sheets-next k =
      chains_more _ _ _ _ _ (14 unless _ ∷ []) (14 unless _ ∷ []) (14 unless _ ∷ []) (fourteen_behind _) (fourteen_behind _)
      (fourteen_more _ _)

-- So nothing is refused exactly if no single one is.
none_refused : (all one : ℕ → ℕ) → all 0 ≡ 0 → ((k : ℕ) → all (suc k) ≡ earlier (all k) (one k))
    → (n : ℕ) → (all n ≡ 0) ↔ ((p : ℕ) → p < n → one p ≡ 0)
unfolding earlier
none_refused all one start next n = (to n, of n)
  where
    both : (j k : ℕ) → earlier j k ≡ 0 → (j ≡ 0) × (k ≡ 0)
    both zero k e = (refl, e)
    both (suc j) zero e = absurd (omega arith)
    both (suc j) (suc k) e = absurd (omega arith)

    to : (n : ℕ) → all n ≡ 0 → (p : ℕ) → p < n → one p ≡ 0
    to zero e p l = absurd (not-suc-le-zero l)
    to (suc n) e p l =
        let (before, here) = both (all n) (one n) (sym (next n) ∙ e) in below_suc (λ p. one p ≡ 0) n (to n before) here p l

    of : (n : ℕ) → ((p : ℕ) → p < n → one p ≡ 0) → all n ≡ 0
    of zero each = start
    of (suc n) each = next n ∙ ap₂ earlier (of n (λ p l. each p (le_step l))) (each n (lt-suc_self n))

-- 14 is given in one case only.
fourteen_only : (a b c : Bool) → refusal (10 unless a ∷ 13 unless b ∷ 14 unless c ∷ []) ≡ 14 → (a ≡ true) × (b ≡ true) × (c ≡ false)
unfolding refusal
fourteen_only true true true e = absurd (omega arith)
fourteen_only true true false e = (refl, refl, refl)
fourteen_only true false c e = absurd (omega arith)
fourteen_only false b c e = absurd (omega arith)

module _ (f : Format) (n : ℕ) (s : List ℕ) where
  pub chains_accepted : (refusal (chains_tests f n s) ≡ 0) ↔ ((p : ℕ) → p < n → chain_refusal f (sheet_at f p s) ≡ 0)
  chains_accepted =
      none_refused (λ k. refusal (chains_tests f k s)) (λ p. chain_refusal f (sheet_at f p s)) (no_chains f s) (chains_next f s) n

  pub sheets-accepted : (refusal (sheets_tests f n s) ≡ 0) ↔ ((p : ℕ) → p < n → clean_refusal f (sheet_at f p s) ≡ 0)
  sheets-accepted =
      none_refused (λ k. refusal (sheets_tests f k s)) (λ p. clean_refusal f (sheet_at f p s)) (no_sheets f s) (sheets-next f s) n

  -- Where each sheet of t is refused by the number that the chain of the one of s gets, so are all.
  pub same_numbers : (t : List ℕ) → ((p : ℕ) → p < n → clean_refusal f (sheet_at f p t) ≡ chain_refusal f (sheet_at f p s))
      → refusal (sheets_tests f n t) ≡ refusal (chains_tests f n s)
  same_numbers t = go n
    where
      go : (k : ℕ) → ((p : ℕ) → p < k → clean_refusal f (sheet_at f p t) ≡ chain_refusal f (sheet_at f p s))
          → refusal (sheets_tests f k t) ≡ refusal (chains_tests f k s)
      go zero same = no_sheets f t ∙ sym (no_chains f s)
      go (suc k) same =
          sheets-next f t k ∙ ap₂ earlier (go k (λ p l. same p (le_step l))) (same k (lt-suc_self k)) ∙ sym (chains_next f s k)

  -- They are refused by 10, 13 or 14.
  pub sheets_numbers : (P : ℕ → Type 0) → P 0 → P 10 → P 13 → P 14 → P (refusal (sheets_tests f n s))
  unfolding sheets_tests chains_tests
  sheets_numbers P none ten thirteen fourteen =
      by_test P 10 _ _ ten (by_test P 13 _ _ thirteen (by_test P 14 _ _ fourteen (rw no_tests none)))

  -- Tests that follow are reached where nothing is refused.
  pub chains_go_on : refusal (chains_tests f n s) ≡ 0 → (ts : List Test) → refusal (chains_tests f n s ++ ts) ≡ refusal ts
  unfolding chains_tests
  chains_go_on e ts =
      let (ten, e₂) = passed 10 _ _ (omega arith) e in
      let (thirteen, e₃) = passed 13 _ [] (omega arith) e₂ in
      passes 10 _ _ ten ∙ passes 13 _ ts thirteen

  pub sheets_go_on : refusal (sheets_tests f n s) ≡ 0 → (ts : List Test) → refusal (sheets_tests f n s ++ ts) ≡ refusal ts
  unfolding sheets_tests
  sheets_go_on e ts =
      let fit = first-accepted (chains_tests f n s) _ e in
      let (fourteen, e₂) = passed 14 (every n (λ p. no_leftovers f (sheet_at f p s))) [] (omega arith) (sym (chains_go_on fit _) ∙ e) in
      ap refusal (append_assoc (chains_tests f n s) _ ts) ∙ chains_go_on fit _ ∙ passes 14 _ ts fourteen

  -- By 14 exactly if 10 and 13 let every sheet through, and on some sheet a byte is left over.
  pub sheets_fourteen : (refusal (sheets_tests f n s) ≡ 14)
      ↔ (((p : ℕ) → p < n → chain_refusal f (sheet_at f p s) ≡ 0) × ((p : ℕ) × (p < n) × ((i : ℕ) × Leftover f (sheet_at f p s) i)))
  unfolding sheets_tests chains_tests
  sheets_fourteen = (
    λ e.
        let (ten, thirteen, left) = fourteen_only _ _ _ e in
        let (p, place, some) = every_fails n (λ p. no_leftovers f (sheet_at f p s)) left in
        (chains_accepted.0 (passes 10 _ _ ten ∙ passes 13 _ [] thirteen ∙ no_tests), (p, place, (leftovers_exact f (sheet_at f p s)).0 some)),
    λ (fit, (p, place, some)).
        chains_go_on (chains_accepted.1 fit) _
        ∙ fails 14 _ [] (every-not n (λ p. no_leftovers f (sheet_at f p s)) p place ((leftovers_exact f (sheet_at f p s)).1 some)),
  )

-- A sheet of another kind is refused, whatever the others are: so are the sheets that show a cycle.
kind_ten : (f : Format) (n : ℕ) (s : List ℕ) (p : ℕ) → p < n → (kind_of (sheet_at f p s) ≡ f.repair_kind → ⊥)
    → refusal (sheets_tests f n s) ≡ 10
unfolding sheets_tests chains_tests
kind_ten f n s p place other =
    fails 10 _ _ (every-not n _ p place (rw (ne_eqb (kind_of (sheet_at f p s)) f.repair_kind other)))

pub cycle_ten : (f : Format) (n p : ℕ) (w : List Entry) → p < n → (f.loop_kind ≡ f.repair_kind → ⊥)
    → refusal (sheets_tests f n (cycle_sheets f n p w)) ≡ 10
cycle_ten f n p w place other =
    kind_ten f n (cycle_sheets f n p w) p place (λ e.
    let shown : sheet_at f p (cycle_sheets f n p w) ≡ sheet_of f f.loop_kind w =
    cycle-sheet_at f n p w p place ∙ ap (λ (b : Bool). cond b (sheet_of f f.loop_kind w) (blank_sheet f)) (eq-eqb p p refl) in
    other (sym (sheet_kind f f.loop_kind w) ∙ ap kind_of (sym shown) ∙ e))
