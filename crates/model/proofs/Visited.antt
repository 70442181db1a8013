-- The numbers that a chain visits: laws of lists of numbers, and how long the chain is and where it ends.
-- Assumes nothing.
use mathlib.Core.Path.{◌≡◌, refl, sym, ◌∙◌, ap}
use mathlib.Core.Bool.{Bool, true, false, cond, not, ◌&&◌, ◌||◌, and_assoc, or-true, true≢false, false≢true}
use mathlib.Core.Logic.{◌⊎◌, inl, inr, ⊎_elim}
use mathlib.Core.List.{List, [], ◌∷◌, ◌++◌}
use Prim.Native.Nat.{ℕ, zero, suc, ◌-◌, ◌≤◌, ◌<◌, zero-le}
use native.Mathlib.Nat.{not-suc-le-zero, pos_of_ne-zero, mul-le-mul_left}
use native.Mathlib.Omega.{arith}
use borrow.Author.Tests.{eq-eqb, ne_eqb, eqb-true, eqb-false, leb-true, le-leb, not-true}
use lib.Dec.{eqb, leb}
use lib.ListN.{length, get_or, get_or-eq_default}
use Rattle.stripes.specs.Fold.{count}
use Rattle.stripes.specs.System.{among}
use Rattle.stripes.specs.Erased.{without}
use Rattle.stripes.specs.Repair.{Entry}
use Rattle.stripes.proofs.Fold.{and_left, and_right, and_both, by_cases, lt_or_le, count_le, count-without}
use Rattle.stripes.proofs.Peel.{without_other}
use Rattle.model.specs.Sheet.{Format, record_bytes, sheet_bytes}
use Rattle.model.specs.Chain.{entry_at, next_number, visited, chain_numbers, within, different, entries_at}

-- ---- lists of numbers
pub among-here : (k : ℕ) (ks : List ℕ) → among k (k ∷ ks) ≡ true
unfolding among
among-here k ks = ap (λ (b : Bool). b || among k ks) (eq-eqb k k refl)

pub among_there : (k j : ℕ) (ks : List ℕ) → among k ks ≡ true → among k (j ∷ ks) ≡ true
unfolding among
among_there k j ks h = ap (λ (b : Bool). eqb k j || b) h ∙ or-true (eqb k j)

pub among_which : (k j : ℕ) (ks : List ℕ) → among k (j ∷ ks) ≡ true → (k ≡ j) ⊎ (among k ks ≡ true)
unfolding among
among_which k j ks =
    by_cases (λ (b : Bool). (b || among k ks) ≡ true → (k ≡ j) ⊎ (among k ks ≡ true)) (eqb k j) (λ e h. inl (eqb-true k j e)) (λ e h. inr h)

or_swap : (a b c : Bool) → (a || (b || c)) ≡ (b || (a || c))
or_swap true b c = sym (or-true b)
or_swap false b c = refl

pub among_snoc : (k : ℕ) (ks : List ℕ) (j : ℕ) → among k (ks ++ (j ∷ [])) ≡ (eqb k j || among k ks)
unfolding among
among_snoc k [] j = refl
among_snoc k (i ∷ ks) j = ap (λ (b : Bool). eqb k i || b) (among_snoc k ks j) ∙ or_swap (eqb k i) (eqb k j) (among k ks)

pub within_append : (n : ℕ) (js ks : List ℕ) → within n (js ++ ks) ≡ (within n js && within n ks)
unfolding within
within_append n [] ks = refl
within_append n (j ∷ js) ks = ap (λ (b : Bool). leb j n && b) (within_append n js ks) ∙ sym (and_assoc (leb j n) (within n js) (within n ks))

-- Different numbers up to n of which a test holds are no more than it counts.
count-listed : (n : ℕ) (t : ℕ → Bool) (ks : List ℕ) → within n ks ≡ true → different ks ≡ true
    → ((k : ℕ) → among k ks ≡ true → t k ≡ true) → length ks ≤ count (suc n) t
unfolding within different without
count-listed n t [] inside apart holds = zero-le
count-listed n t (j ∷ js) inside apart holds =
    let below = leb-true j n (and_left (leb j n) (within n js) inside) in
    let new : among j js ≡ false = not-true (among j js) (and_left (not (among j js)) (different js) apart) in
    let less =
    count-listed n (without t j) js (and_right (leb j n) (within n js) inside) (and_right (not (among j js)) (different js) apart)
    (λ k h. without_other t j k (λ e. true≢false (sym h ∙ ap (λ (i : ℕ). among i js) e ∙ new)) ∙ holds k (among_there k j js h)) in
    let one = count-without (suc n) t j (omega arith) (holds j (among-here j js)) in
    omega arith

-- So different numbers from 1 to n are at most n.
pub few : (n : ℕ) (ks : List ℕ) → within n ks ≡ true → different ks ≡ true → among 0 ks ≡ false → length ks ≤ n
unfolding without
few n ks inside apart none =
    let less = count-listed n (without (λ i. true) 0) ks inside apart
    (λ k h. without_other (λ i. true) 0 k (λ e. true≢false (sym h ∙ ap (λ (i : ℕ). among i ks) e ∙ none))) in
    let one = count-without (suc n) (λ i. true) 0 (omega arith) refl in
    let most = count_le (suc n) (λ i. true) in
    omega arith

-- ---- the records visited
module _ (f : Format) (s : List ℕ) where
  pub entries-length : (ks : List ℕ) → length (entries_at f s ks) ≡ length ks
  unfolding entries_at
  entries-length [] = refl
  entries-length (k ∷ ks) = ap suc (entries-length ks)

  pub entries_append : (js ks : List ℕ) → entries_at f s (js ++ ks) ≡ entries_at f s js ++ entries_at f s ks
  unfolding entries_at
  entries_append [] ks = refl
  entries_append (j ∷ js) ks = ap (λ (w : List Entry). entry_at f s j ∷ w) (entries_append js ks)

  -- What is to be shown of the records visited from number k on, by cases: the chain ends there or goes on.
  pub visited_cases : (P : List ℕ → Type 0) (n k : ℕ) → (k ≡ 0 → P []) → (0 < k → P (k ∷ visited f s n (next_number f s k)))
      → P (visited f s (suc n) k)
  unfolding visited
  visited_cases P n k end on =
      by_cases (λ (b : Bool). P (cond b [] (k ∷ visited f s n (next_number f s k)))) (eqb k 0) (λ e. end (eqb-true k 0 e))
      (λ e. on (pos_of_ne-zero (eqb-false k 0 e)))

  pub visited-next : (n k : ℕ) → 0 < k → visited f s (suc n) k ≡ k ∷ visited f s n (next_number f s k)
  visited-next n k h = visited_cases (λ (ks : List ℕ). ks ≡ k ∷ visited f s n (next_number f s k)) n k (λ e. absurd (omega arith)) (λ h. refl)

  pub visited-end : (n : ℕ) → visited f s n 0 ≡ []
  unfolding visited
  visited-end zero = refl
  visited-end (suc n) = refl

  -- Records are numbered from 1.
  pub visited-zero : (n k : ℕ) → among 0 (visited f s n k) ≡ false
  unfolding visited among
  visited-zero zero k = refl
  visited-zero (suc n) k =
      visited_cases (λ (ks : List ℕ). among 0 ks ≡ false) n k (λ e. refl)
      (λ h. rw (ne_eqb 0 k (λ e. omega arith)) (visited-zero n (next_number f s k)))

  pub visited-none : (k : ℕ) → visited f s 0 k ≡ []
  unfolding visited
  visited-none k = refl

  -- A chain that has ended is the same in more steps.
  visited-more : (n k : ℕ) → length (visited f s n k) < n → visited f s (suc n) k ≡ visited f s n k
  unfolding visited
  visited-more zero k = λ h. absurd (not-suc-le-zero h)
  visited-more (suc n) k =
      by_cases
      (λ (b : Bool). length (cond b [] (k ∷ visited f s n (next_number f s k))) < suc n
      → cond b [] (k ∷ visited f s (suc n) (next_number f s k)) ≡ cond b [] (k ∷ visited f s n (next_number f s k)))
      (eqb k 0) (λ e h. refl) (λ e h. ap (λ (ks : List ℕ). k ∷ ks) (visited-more n (next_number f s k) (omega arith)))

  -- From a record that it visits on it is not longer.
  visited-later : (n k j : ℕ) → length (visited f s n k) < n → among j (visited f s n k) ≡ true
      → length (visited f s n j) ≤ length (visited f s n k)
  unfolding among
  visited-later zero k j = λ h m. absurd (not-suc-le-zero h)
  visited-later (suc n) k j =
      visited_cases (λ (ks : List ℕ). length ks < suc n → among j ks ≡ true → length (visited f s (suc n) j) ≤ length ks) n k
      (λ e h m. absurd (false≢true m))
      (λ p h m.
      ⊎_elim (λ (e : j ≡ k). let here = ap length (ap (visited f s (suc n)) e ∙ visited-next n k p) in omega arith)
      (λ w.
      let up = visited-later n (next_number f s k) j (omega arith) w in
      let same = ap length (visited-more n j (omega arith)) in
      omega arith)
      (among_which j k (visited f s n (next_number f s k)) m))

  -- So it visits no record twice.
  pub visited-different : (n k : ℕ) → length (visited f s n k) < n → different (visited f s n k) ≡ true
  unfolding different
  visited-different zero k = λ h. absurd (not-suc-le-zero h)
  visited-different (suc n) k =
      visited_cases (λ (ks : List ℕ). length ks < suc n → different ks ≡ true) n k (λ e h. refl)
      (λ p h.
      and_both
      (by_cases (λ (b : Bool). not b ≡ true) (among k (visited f s n (next_number f s k)))
      (λ m.
      let up = visited-later n (next_number f s k) k (omega arith) m in
      let same = ap length (sym (visited-more n k (omega arith)) ∙ visited-next n k p) in
      absurd (omega arith))
      (λ m. refl))
      (visited-different n (next_number f s k) (omega arith)))

  -- A chain that leads outside ends there: behind the sheet all bytes count as 0.
  pub outside_ends : length s ≡ sheet_bytes f → (n k : ℕ) → within f.records (visited f s n k) ≡ false → visited f s (suc n) k ≡ visited f s n k
  unfolding within visited next_number
  outside_ends long zero k = λ out. absurd (true≢false out)
  outside_ends long (suc n) k =
      by_cases
      (λ (b : Bool). within f.records (cond b [] (k ∷ visited f s n (next_number f s k))) ≡ false
      → cond b [] (k ∷ visited f s (suc n) (next_number f s k)) ≡ cond b [] (k ∷ visited f s n (next_number f s k)))
      (eqb k 0) (λ e out. refl)
      (λ e out.
      ap (λ (ks : List ℕ). k ∷ ks)
      (⊎_elim
      (λ (l : f.records < k).
      let most = mul-le-mul_left (record_bytes f) (let h : f.records ≤ k - 1 = omega arith in h) in
      let none : next_number f s k ≡ 0 = get_or-eq_default s 0 (omega arith) in
      ap (visited f s (suc n)) none ∙ visited-end (suc n) ∙ sym (ap (visited f s n) none ∙ visited-end n))
      (λ (l : k ≤ f.records). outside_ends long n (next_number f s k) (rw (le-leb k f.records l) at out))
      (lt_or_le f.records k)))

  pub visited-few : (n k : ℕ) → length (visited f s n k) ≤ n
  unfolding visited
  visited-few zero k = zero-le
  visited-few (suc n) k =
      visited_cases (λ (ks : List ℕ). length ks ≤ suc n) n k (λ e. zero-le) (λ p. let up = visited-few n (next_number f s k) in omega arith)

  -- So it does not come back to a record: a chain has not both a number that is too large and a record that is reached twice.
  pub outside_no_ring : length s ≡ sheet_bytes f → within f.records (chain_numbers f s) ≡ false → different (chain_numbers f s) ≡ true
  unfolding chain_numbers
  outside_no_ring long out =
      let steps : ℕ = suc f.records in
      let first : ℕ = get_or s 1 0 in
      let same : visited f s (suc steps) first ≡ visited f s steps first = outside_ends long steps first out in
      let few = visited-few steps first in
      let size = ap length same in
      ap different (sym same) ∙ visited-different (suc steps) first (omega arith)
