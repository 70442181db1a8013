-- The laws of the chain of a sheet from elsewhere: its tests, how to read it record by record, what it lists, and what stands off it.
-- Assumes nothing.
use mathlib.Core.Path.{◌≡◌, refl, sym, ◌∙◌, ap, ap₂, subst}
use mathlib.Core.Bool.{Bool, true, false, cond, ◌||◌, or-true, true≢false}
use mathlib.Core.Logic.{◌↔◌, ⊎_elim}
use mathlib.Core.List.{List, [], ◌∷◌, ◌++◌, append-nil, append_assoc}
use Prim.Native.Nat.{ℕ, zero, suc, ◌+◌, ◌*◌, ◌-◌, ◌/◌, ◌≤◌, ◌<◌, zero-le}
use native.Mathlib.Nat.{le_refl, le_of_suc-le-suc, not-suc-le-zero, pos_of_ne-zero, sub-zero, eq-or-lt_of_le, div-lt_iff_lt-mul, div-add-mod, mod-lt, mul_comm}
use native.Mathlib.Numerals.{add-one}
use native.Mathlib.Omega.{arith}
use borrow.Author.Tests.{eq-eqb, ne_eqb, eqb-true, eqb-false, le-leb, lt-leb, lt-ltb, le-ltb}
use lib.Arith.{digits_div}
use lib.Dec.{eqb, ltb}
use lib.ListN.{length, get_or, take, length-append}
use lib.Seq.{append_snoc, take-suc, take-length}
use Rattle.stripes.specs.System.{among}
use Rattle.stripes.specs.Repair.{Entry, disk_of, stripe_of}
use Rattle.stripes.proofs.Fold.{and_both, or_left, or_right, by_cases, lt_or_le, every_all, every_fails, every-not}
use Rattle.model.specs.Refusal.{Test, ◌unless◌, refusal}
use Rattle.model.specs.Sheet.{Format, record_bytes, record_at, sheet_bytes, sheet_of, SheetBytes}
use Rattle.model.specs.Chain.{entry_at, next_number, visited, chain_numbers, within, different, chain_tests, chain_refusal, record_number, on_chain, no_leftovers, Leftover, clean_tests, clean_refusal, entries_at, chain_entries}
use Rattle.model.proofs.Refusal.{no_tests, fails, passes, by_test, passed, refused_first, first-accepted}
use Rattle.model.proofs.Sheets.{Fitting, number_same, sheet_bytes_lem}
use Rattle.model.proofs.Visited.{among-here, among_there, among_snoc, within_append, few, entries-length, entries_append, visited_cases, visited-next, visited-end, visited-none, visited-zero, visited-different}

-- ---- the tests
module _ (f : Format) (s : List ℕ) where
  -- What is refused by which number: another kind,
  pub kind_refused : (get_or s 0 0 ≡ f.repair_kind → ⊥) → chain_refusal f s ≡ 10
  unfolding chain_refusal chain_tests
  kind_refused other = fails 10 (eqb (get_or s 0 0) f.repair_kind) _ (ne_eqb (get_or s 0 0) f.repair_kind other)

  -- a number that no record has,
  pub outside_refused : within f.records (chain_numbers f s) ≡ false → chain_refusal f s ≡ 10
  unfolding chain_refusal chain_tests
  outside_refused out =
      by_test (λ k. k ≡ 10) 10 (eqb (get_or s 0 0) f.repair_kind) _ refl (fails 10 (within f.records (chain_numbers f s)) _ out)

  -- a record that is reached twice,
  pub ring_refused : get_or s 0 0 ≡ f.repair_kind → within f.records (chain_numbers f s) ≡ true → different (chain_numbers f s) ≡ false
      → chain_refusal f s ≡ 13
  unfolding chain_refusal chain_tests
  ring_refused kind inside twice =
      passes 10 (eqb (get_or s 0 0) f.repair_kind) _ (eq-eqb (get_or s 0 0) f.repair_kind kind)
      ∙ passes 10 (within f.records (chain_numbers f s)) _ inside ∙ fails 13 (different (chain_numbers f s)) _ twice

  -- and what is known where nothing is refused.
  chain-passed : chain_refusal f s ≡ 0
      → (get_or s 0 0 ≡ f.repair_kind) × (within f.records (chain_numbers f s) ≡ true) × (different (chain_numbers f s) ≡ true)
  unfolding chain_refusal chain_tests
  chain-passed e =
      let (kind, e₂) = passed 10 (eqb (get_or s 0 0) f.repair_kind) _ (omega arith) e in
      let (inside, e₃) = passed 10 (within f.records (chain_numbers f s)) _ (omega arith) e₂ in
      (eqb-true (get_or s 0 0) f.repair_kind kind, inside, (passed 13 (different (chain_numbers f s)) _ (omega arith) e₃).0)

  -- Tests that follow are reached where all three hold,
  chain-on : get_or s 0 0 ≡ f.repair_kind → within f.records (chain_numbers f s) ≡ true → different (chain_numbers f s) ≡ true
      → (ts : List Test) → refusal (chain_tests f s ++ ts) ≡ refusal ts
  unfolding chain_tests
  chain-on kind inside apart ts =
      passes 10 (eqb (get_or s 0 0) f.repair_kind) _ (eq-eqb (get_or s 0 0) f.repair_kind kind)
      ∙ passes 10 (within f.records (chain_numbers f s)) _ inside ∙ passes 13 (different (chain_numbers f s)) ts apart

  chain-accepted : get_or s 0 0 ≡ f.repair_kind → within f.records (chain_numbers f s) ≡ true → different (chain_numbers f s) ≡ true
      → chain_refusal f s ≡ 0
  unfolding chain_refusal
  chain-accepted kind inside apart = ap refusal (sym (append-nil (chain_tests f s))) ∙ chain-on kind inside apart [] ∙ no_tests

  pub chain_goes_on : chain_refusal f s ≡ 0 → (ts : List Test) → refusal (chain_tests f s ++ ts) ≡ refusal ts
  chain_goes_on e = let (kind, inside, apart) = chain-passed e in chain-on kind inside apart

  -- 14 among them,
  pub chain_clean : chain_refusal f s ≡ 0 → clean_refusal f s ≡ cond (no_leftovers f s) 0 14
  unfolding clean_refusal clean_tests refusal
  chain_clean fit = chain_goes_on fit _

  -- and otherwise not.
  pub clean-first : (chain_refusal f s ≡ 0 → ⊥) → clean_refusal f s ≡ chain_refusal f s
  unfolding clean_refusal clean_tests chain_refusal
  clean-first = refused_first (chain_tests f s) _

  pub clean_exact : (clean_refusal f s ≡ 0) ↔ ((chain_refusal f s ≡ 0) × (no_leftovers f s ≡ true))
  unfolding clean_refusal clean_tests chain_refusal
  clean_exact = (
    λ e.
        let fit : chain_refusal f s ≡ 0 = first-accepted (chain_tests f s) _ e in
        (fit, (passed 14 (no_leftovers f s) [] (omega arith) (sym (chain_goes_on fit _) ∙ e)).0),
    λ (fit, clean). chain_goes_on fit _ ∙ passes 14 (no_leftovers f s) [] clean ∙ no_tests,
  )

  pub clean_goes_on : clean_refusal f s ≡ 0 → (ts : List Test) → refusal (clean_tests f s ++ ts) ≡ refusal ts
  unfolding clean_tests
  clean_goes_on e ts =
      let (fit, clean) = clean_exact.0 e in
      ap refusal (append_assoc (chain_tests f s) _ ts) ∙ chain_goes_on fit _ ∙ passes 14 (no_leftovers f s) ts clean

  -- A chain that has ended within its steps fits if no number is too large.
  ended-fits : get_or s 0 0 ≡ f.repair_kind → length (chain_numbers f s) ≤ f.records → within f.records (chain_numbers f s) ≡ true
      → chain_refusal f s ≡ 0
  unfolding chain_numbers
  ended-fits e l inside =
      chain-accepted e inside (visited-different f s (suc f.records) (get_or s 1 0) (omega arith))

  fits-few : chain_refusal f s ≡ 0 → length (chain_numbers f s) ≤ f.records
  unfolding chain_numbers
  fits-few e =
      let (kind, inside, apart) = chain-passed e in
      few f.records (chain_numbers f s) inside apart (visited-zero f s (suc f.records) (get_or s 1 0))

  pub chain_few : chain_refusal f s ≡ 0 → length (chain_entries f s) ≤ f.records
  unfolding chain_entries
  chain_few e = let most = fits-few e in let same = entries-length f s (chain_numbers f s) in omega arith

  -- ---- bytes off the chain

  -- The first two bytes are on the chain.
  first-on-chain : (i : ℕ) → i < 2 → on_chain f s i ≡ true
  unfolding on_chain
  first-on-chain i l = ap (λ (b : Bool). b || among (record_number f i) (chain_numbers f s)) (lt-ltb i 2 l)

  -- A byte behind the first two is on the chain exactly if it is one of a record that the chain visits.
  pub on_chain_exact : (i : ℕ) → 2 ≤ i
      → (on_chain f s i ≡ true)
      ↔ ((k : ℕ) × (among k (chain_numbers f s) ≡ true) × (record_at f k ≤ i) × (i < record_at f k + record_bytes f))
  unfolding on_chain chain_numbers
  on_chain_exact i h =
      let n : ℕ = record_bytes f in
      let whole = div-add-mod (i - 2) n in
      let part = mod-lt (i - 2) {m = n} (omega arith) in
      let back : record_number f i - 1 ≡ (i - 2) / n = omega arith in
      let same = ap (λ (k : ℕ). n * k) back in (
        λ e. (record_number f i, rw (le-ltb i 2 h) at e, omega arith, omega arith),
        λ (k, on, low, high).
            let some : 0 < k = pos_of_ne-zero (λ z.
            true≢false (sym on ∙ ap (λ (j : ℕ). among j (chain_numbers f s)) z ∙ visited-zero f s (suc f.records) (get_or s 1 0))) in
            let turned = mul_comm n (k - 1) in
            let split : i - 2 ≡ (k - 1) * n + (i - record_at f k) = omega arith in
            let is : (i - 2) / n ≡ k - 1 = ap (λ (j : ℕ). j / n) split ∙ digits_div (k - 1) (omega arith) in
            let number : record_number f i ≡ k = omega arith in
            ap (λ (j : ℕ). ltb i 2 || among j (chain_numbers f s)) number ∙ (rw (on, or-true)),
      )

  -- What refusal 14 finds is a byte that is left over.
  pub leftovers_exact : (no_leftovers f s ≡ false) ↔ ((i : ℕ) × Leftover f s i)
  unfolding no_leftovers
  leftovers_exact = (
    λ e.
        let (i, inside, fails) = every_fails (sheet_bytes f) (λ i. on_chain f s i || eqb (get_or s i 0) 0) e in
        let off = or_left (on_chain f s i) (eqb (get_or s i 0) 0) fails in
        let behind : 2 ≤ i =
        ⊎_elim (λ l. absurd (true≢false (sym (first-on-chain i l) ∙ off))) (λ l. l) (lt_or_le i 2) in (
          i,
          record {
            behind = behind;
            inside = inside;
            off = λ k on low high. true≢false (sym ((on_chain_exact i behind).1 (k, on, low, high)) ∙ off);
            some = eqb-false (get_or s i 0) 0 (or_right (on_chain f s i) (eqb (get_or s i 0) 0) fails);
          },
        ),
    λ (i, p).
        let off : on_chain f s i ≡ false =
        by_cases (λ (b : Bool). b ≡ false) (on_chain f s i)
        (λ e. let (k, on, low, high) = (on_chain_exact i p.behind).0 e in absurd (p.off k on low high)) (λ e. refl) in
        every-not (sheet_bytes f) _ i p.inside (rw (off, ne_eqb (get_or s i 0) 0 p.some)),
  )

-- ---- reading record by record

-- The numbers that are still to be visited from `number` on, where k records are read.
abbrev unread : Format → List ℕ → (k number : ℕ) → List ℕ
unread f s k number = visited f s (suc (f.records - k)) number

-- The records ks of a chain are read, its first ones, and `number` comes next.
pub record Walked (f : Format) (s : List ℕ) (number : ℕ) (ks : List ℕ) : Type 0 where
  pub numbers : chain_numbers f s ≡ ks ++ unread f s (length ks) number
  pub inside : within f.records ks ≡ true
  pub most : length ks ≤ f.records

pub walked-first : (f : Format) (s : List ℕ) → Walked f s (get_or s 1 0) []
unfolding chain_numbers within
walked-first f s = record { numbers = rw sub-zero; inside = refl; most = zero-le }

pub walked_next : (f : Format) (s : List ℕ) (number : ℕ) (ks : List ℕ) → Walked f s number ks
    → length ks < f.records → 0 < number → number ≤ f.records → Walked f s (next_number f s number) (ks ++ (number ∷ []))
unfolding within
walked_next f s number ks p more some most =
    let k : ℕ = length ks in
    let long : length (ks ++ (number ∷ [])) ≡ suc k = length-append ks (number ∷ []) ∙ add-one k in
    let steps : f.records - k ≡ suc (f.records - suc k) = omega arith in
    let on : unread f s k number ≡ number ∷ unread f s (suc k) (next_number f s number) =
    visited-next f s (f.records - k) number some ∙ ap (λ (n : ℕ). number ∷ visited f s n (next_number f s number)) steps in
    record {
      numbers = p.numbers ∙ ap (λ (js : List ℕ). ks ++ js) on
          ∙ ap (λ (n : ℕ). ks ++ (number ∷ unread f s n (next_number f s number))) (sym long) ∙ sym (append_snoc ks number _);
      inside = within_append f.records ks (number ∷ []) ∙ and_both p.inside (and_both (le-leb number f.records most) refl);
      most = omega arith;
    }

module _ {f : Format} {s : List ℕ} {number : ℕ} {ks : List ℕ} (p : Walked f s number ks) where
  -- Where another number comes next, the chain goes on with it.
  walked_on : 0 < number → chain_numbers f s ≡ ks ++ (number ∷ visited f s (f.records - length ks) (next_number f s number))
  walked_on some = p.numbers ∙ ap (λ (js : List ℕ). ks ++ js) (visited-next f s (f.records - length ks) number some)

  -- A chain that ends fits: a record reached twice would be reached again and again.
  pub walked_end : number ≡ 0 → get_or s 0 0 ≡ f.repair_kind → (chain_refusal f s ≡ 0) × (chain_numbers f s ≡ ks)
  walked_end z kind =
      let none : unread f s (length ks) number ≡ [] =
      ap (visited f s (suc (f.records - length ks))) z ∙ visited-end f s (suc (f.records - length ks)) in
      let is : chain_numbers f s ≡ ks = p.numbers ∙ ap (λ (js : List ℕ). ks ++ js) none ∙ append-nil ks in
      let long = ap length is in
      let most = p.most in
      (ended-fits f s kind (omega arith) (ap (within f.records) is ∙ p.inside), is)

  -- The next number is too large: 10.
  pub walked_outside : f.records < number → chain_refusal f s ≡ 10
  unfolding within
  walked_outside h =
      outside_refused f s
      (ap (within f.records) (walked_on (omega arith)) ∙ within_append f.records ks _ ∙ (rw (p.inside, lt-leb number f.records h)))

  -- All records are read, and another one comes next: 13.
  pub walked_ring : get_or s 0 0 ≡ f.repair_kind → f.records ≤ length ks → 0 < number → number ≤ f.records → chain_refusal f s ≡ 13
  unfolding within
  walked_ring kind all some most =
      let none : f.records - length ks ≡ 0 = omega arith in
      let is : chain_numbers f s ≡ ks ++ (number ∷ []) =
      walked_on some ∙ ap (λ (n : ℕ). ks ++ (number ∷ visited f s n (next_number f s number))) none ∙ (rw visited-none) in
      let inside : within f.records (chain_numbers f s) ≡ true =
      ap (within f.records) is ∙ within_append f.records ks (number ∷ []) ∙ and_both p.inside (and_both (le-leb number f.records most) refl) in
      let long = ap length is ∙ length-append ks (number ∷ []) in
      ring_refused f s kind inside
      (by_cases (λ (b : Bool). b ≡ false) (different (chain_numbers f s))
      (λ e. let few = fits-few f s (chain-accepted f s kind inside e) in absurd (omega arith)) (λ e. refl))

-- ---- the sheets that the library writes

-- The numbers from 1 to n.
unfoldable up_to : ℕ → List ℕ
up_to zero = []
up_to (suc n) = up_to n ++ (suc n ∷ [])

up_to_length : (n : ℕ) → length (up_to n) ≡ n
unfolding up_to
up_to_length zero = refl
up_to_length (suc n) = let up = up_to_length n in length-append (up_to n) (suc n ∷ []) ∙ omega arith

up_to_among : (n k : ℕ) → 0 < k → k ≤ n → among k (up_to n) ≡ true
unfolding up_to
up_to_among zero k some most = absurd (omega arith)
up_to_among (suc n) k some most =
    among_snoc k (up_to n) (suc n)
    ∙ ⊎_elim (λ (e : k ≡ suc n). rw (eq-eqb k (suc n) e)) (λ (l : k < suc n). rw (up_to_among n k some (le_of_suc-le-suc l), or-true))
    (eq-or-lt_of_le most)

module _ (f : Format) (w : List Entry) (byte : f.repair_kind < 256) (fits : Fitting f w) where
  abbrev sheet : List ℕ
  sheet = sheet_of f f.repair_kind w

  abbrev bytes : SheetBytes f f.repair_kind w sheet
  bytes = sheet_bytes_lem f f.repair_kind w byte fits

  written_entry : (k : ℕ) → k < length w → entry_at f sheet (suc k) ≡ get_or w k (record { disk = 0; stripe = 0 })
  unfolding entry_at disk_of stripe_of
  written_entry k h =
      let back : suc k - 1 ≡ k = omega arith in
      ap₂ (λ (d t : ℕ). record { disk = d; stripe = t }) (bytes.disk (suc k) (omega arith) h) (bytes.stripe (suc k) (omega arith) h)
      ∙ ap (λ (i : ℕ). get_or w i (record { disk = 0; stripe = 0 })) back

  -- Its first k records are the first k entries of the list; record number k + 1 comes next, if there is one.
  written-walked : (k : ℕ) → k ≤ length w
      → (number : ℕ) × Walked f sheet number (up_to k) × (entries_at f sheet (up_to k) ≡ take k w)
      × (k < length w → number ≡ suc k) × (k ≡ length w → number ≡ 0)
  unfolding next_number up_to entries_at
  written-walked zero h = (get_or sheet 1 0, walked-first f sheet, refl, λ l. bytes.first_record l, λ e. bytes.no_record (sym e))
  written-walked (suc k) h =
      let (number, walked, lists, on, _) = written-walked k (omega arith) in
      let room = fits.room in
      let long = up_to_length k in
      let is : number ≡ suc k = on h in (
        next_number f sheet number,
        subst (λ (n : ℕ). Walked f sheet (next_number f sheet number) (up_to k ++ (n ∷ []))) is
            (walked_next f sheet number (up_to k) walked (omega arith) (omega arith) (omega arith)),
        entries_append f sheet (up_to k) (suc k ∷ []) ∙ ap₂ (λ (v u : List Entry). v ++ u) lists (ap (λ (r : Entry). r ∷ []) (written_entry k h))
            ∙ sym (take-suc w k (record { disk = 0; stripe = 0 }) h),
        λ l. ap (next_number f sheet) is ∙ bytes.next (suc k) (omega arith) l ∙ add-one (suc k),
        λ e. ap (next_number f sheet) is ∙ bytes.last (suc k) (omega arith) e,
      )

  written-numbers : (chain_refusal f sheet ≡ 0) × (chain_numbers f sheet ≡ up_to (length w)) × (entries_at f sheet (up_to (length w)) ≡ w)
  written-numbers =
      let (number, walked, lists, _, end) = written-walked (length w) (le_refl (length w)) in
      let (fit, is) = walked_end walked (end refl) bytes.kind_first in
      (fit, is, lists ∙ take-length w)

  -- Nothing is left over: the chain visits the first records, and behind them stand zeros.
  written-clean : no_leftovers f sheet ≡ true
  unfolding no_leftovers on_chain
  written-clean =
      every_all (sheet_bytes f)
      (λ i b.
      ⊎_elim (λ l. rw (first-on-chain f sheet i l))
      (λ h.
      ⊎_elim
      (λ l.
      let turned = mul_comm (record_bytes f) (length w) in
      let most : record_number f i ≤ length w = (div-lt_iff_lt-mul (omega arith)).1 (omega arith) in
      let on : among (record_number f i) (chain_numbers f sheet) ≡ true =
      ap (among (record_number f i)) written-numbers.1 ∙ up_to_among (length w) (record_number f i) (omega arith) most in
      rw (on, or-true))
      (λ l.
      let same = ap (λ (n : ℕ). record_bytes f * n) (let back : length w + 1 - 1 ≡ length w = omega arith in back) in
      let zero : get_or sheet i 0 ≡ 0 = bytes.zeros i (omega arith) b in
      rw (eq-eqb (get_or sheet i 0) 0 zero, or-true))
      (lt_or_le i (2 + record_bytes f * length w)))
      (lt_or_le i 2))

  -- So the list of repairs is read back as it was meant.
  pub written_chain : (clean_refusal f sheet ≡ 0) × (chain_entries f sheet ≡ w)
  unfolding chain_entries
  written_chain = let (fit, is, lists) = written-numbers in ((clean_exact f sheet).1 (fit, written-clean), ap (entries_at f sheet) is ∙ lists)

-- ---- chains that visit any records in any order

-- From number k on the chain visits the records ks, which list w, and ends.
pub data Linked (f : Format) (s : List ℕ) : ℕ → List ℕ → List Entry → Type 0 where
  ends : Linked f s 0 [] []
  goes : {k : ℕ} {ks : List ℕ} {w : List Entry} → 0 < k → Linked f s (next_number f s k) ks w → Linked f s k (k ∷ ks) (entry_at f s k ∷ w)

module _ (f : Format) (s : List ℕ) where
  linked-visits : (n : ℕ) {k : ℕ} {ks : List ℕ} {w : List Entry} → Linked f s k ks w → length ks ≤ n → visited f s n k ≡ ks
  linked-visits n ends l = visited-end f s n
  linked-visits zero (goes p up) l = absurd (not-suc-le-zero l)
  linked-visits (suc n) (goes {k} p up) l = visited-next f s n k p ∙ ap (λ (ks : List ℕ). k ∷ ks) (linked-visits n up (le_of_suc-le-suc l))

  linked-lists : {k : ℕ} {ks : List ℕ} {w : List Entry} → Linked f s k ks w → entries_at f s ks ≡ w
  unfolding entries_at
  linked-lists ends = refl
  linked-lists (goes {k} p up) = ap (λ (w : List Entry). entry_at f s k ∷ w) (linked-lists up)

  -- Such a chain fits if no number is too large. Its records differ, so they are few.
  pub linked_fits : (ks : List ℕ) (w : List Entry) → get_or s 0 0 ≡ f.repair_kind → Linked f s (get_or s 1 0) ks w → within f.records ks ≡ true
      → (chain_refusal f s ≡ 0) × (chain_entries f s ≡ w) × (chain_numbers f s ≡ ks)
  unfolding chain_numbers chain_entries
  linked_fits ks w kind linked inside =
      let first : ℕ = get_or s 1 0 in
      let whole : visited f s (suc (length ks)) first ≡ ks = linked-visits (suc (length ks)) linked (omega arith) in
      let long = ap length whole in
      let most : length ks ≤ f.records =
      few f.records ks inside (ap different (sym whole) ∙ visited-different f s (suc (length ks)) first (omega arith))
      (ap (among 0) (sym whole) ∙ visited-zero f s (suc (length ks)) first) in
      let is : chain_numbers f s ≡ ks = linked-visits (suc f.records) linked (omega arith) in
      let size = ap length is in
      (ended-fits f s kind (omega arith) (ap (within f.records) is ∙ inside), ap (entries_at f s) is ∙ linked-lists linked, is)

  visited-linked : (n k : ℕ) → length (visited f s n k) < n → Linked f s k (visited f s n k) (entries_at f s (visited f s n k))
  unfolding entries_at
  visited-linked zero k = λ h. absurd (not-suc-le-zero h)
  visited-linked (suc n) k =
      visited_cases f s (λ (ks : List ℕ). length ks < suc n → Linked f s k ks (entries_at f s ks)) n k
      (λ e h. subst (λ (k : ℕ). Linked f s k [] []) (sym e) ends) (λ p h. goes p (visited-linked n (next_number f s k) (le_of_suc-le-suc h)))

  -- Conversely a chain that fits ends.
  pub fits_linked : chain_refusal f s ≡ 0 → Linked f s (get_or s 1 0) (chain_numbers f s) (chain_entries f s)
  unfolding chain_numbers chain_entries
  fits_linked e = let most = fits-few f s e in visited-linked (suc f.records) (get_or s 1 0) (omega arith)

  -- What 10 and 13 let through, in one sentence: the kind is that of repairs, and from the first number on the chain visits records of
  -- the sheet and ends.
  pub chain_exact : (chain_refusal f s ≡ 0)
      ↔ ((get_or s 0 0 ≡ f.repair_kind) × ((ks : List ℕ) × (w : List Entry) × Linked f s (get_or s 1 0) ks w × (within f.records ks ≡ true)))
  chain_exact = (
    λ e. let (kind, inside, apart) = chain-passed f s e in (kind, (chain_numbers f s, chain_entries f s, fits_linked e, inside)),
    λ (kind, (ks, w, linked, inside)). (linked_fits ks w kind linked inside).0,
  )

-- ---- bytes off the chain make no difference
module _ (f : Format) (s t : List ℕ) where
  visited-same : (n k : ℕ) → ((j : ℕ) → among j (visited f s n k) ≡ true → next_number f s j ≡ next_number f t j)
      → visited f s n k ≡ visited f t n k
  unfolding visited
  visited-same zero k = λ h. refl
  visited-same (suc n) k =
      let rest : List ℕ = visited f s n (next_number f s k) in
      by_cases
      (λ (b : Bool). ((j : ℕ) → among j (cond b [] (k ∷ rest)) ≡ true → next_number f s j ≡ next_number f t j)
      → cond b [] (k ∷ rest) ≡ cond b [] (k ∷ visited f t n (next_number f t k)))
      (eqb k 0) (λ e h. refl)
      (λ e h.
      ap (λ (ks : List ℕ). k ∷ ks)
      (visited-same n (next_number f s k) (λ j m. h j (among_there j k rest m)) ∙ ap (visited f t n) (h k (among-here k rest))))

  entries-same : (ks : List ℕ) → ((k : ℕ) → among k ks ≡ true → entry_at f s k ≡ entry_at f t k) → entries_at f s ks ≡ entries_at f t ks
  unfolding entries_at
  entries-same [] h = refl
  entries-same (k ∷ ks) h =
      ap₂ (λ (r : Entry) (rs : List Entry). r ∷ rs) (h k (among-here k ks)) (entries-same ks (λ j m. h j (among_there j k ks m)))

  -- Two sheets that agree at every byte on the chain of one of them have the same chain, which lists the same.
  pub off_chain : ((i : ℕ) → on_chain f s i ≡ true → get_or s i 0 ≡ get_or t i 0)
      → (chain_refusal f s ≡ chain_refusal f t) × (chain_entries f s ≡ chain_entries f t)
  unfolding chain_numbers chain_refusal chain_tests chain_entries entry_at next_number
  off_chain agree =
      let steps : ℕ = suc f.records in
      let at : (k m i : ℕ) → among k (chain_numbers f s) ≡ true → m < record_bytes f → i ≡ record_at f k + m → get_or s i 0 ≡ get_or t i 0 =
      λ k m i on h e. agree i ((on_chain_exact f s i (omega arith)).1 (k, on, omega arith, omega arith)) in
      let kind = agree 0 (first-on-chain f s 0 (omega arith)) in
      let first = agree 1 (first-on-chain f s 1 (omega arith)) in
      let same : chain_numbers f s ≡ chain_numbers f t =
      visited-same steps (get_or s 1 0) (λ k on. at k (f.disk_bytes + 1) _ on (omega arith) (omega arith)) ∙ ap (visited f t steps) first in
      let entries : (k : ℕ) → among k (chain_numbers f s) ≡ true → entry_at f s k ≡ entry_at f t k =
      λ k on.
      ap₂ (λ (d t : ℕ). record { disk = d; stripe = t })
      (number_same f.disk_bytes s t (record_at f k) (λ m i h e. at k m i on (omega arith) e)) (at k f.disk_bytes _ on (omega arith) refl) in (
        ap₂
            (λ (k : ℕ) (ks : List ℕ).
            refusal (10 unless eqb k f.repair_kind ∷ 10 unless within f.records ks ∷ 13 unless different ks ∷ []))
            kind same,
        entries-same (chain_numbers f s) entries ∙ ap (entries_at f t) same,
      )
