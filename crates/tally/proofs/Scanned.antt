-- The laws of the search for the next erased disk, and of a map whose bytes are copied.
-- Assumes nothing.
use mathlib.Core.Path.{◌≡◌, sym, ◌∙◌, ap, subst, fun_ext}
use mathlib.Core.Bool.{Bool, true, false, ◌&&◌, and-false}
use mathlib.Core.Logic.{⊎_elim}
use mathlib.Core.List.{List}
use Prim.Native.Nat.{ℕ, ◌+◌, ◌-◌, ◌≤◌, ◌<◌}
use native.Mathlib.Nat.{le_refl, add-sub_of_le}
use native.Mathlib.Omega.{arith}
use borrow.Author.Count.{below_more}
use borrow.Author.Tests.{eqb-true, le-leb, leb-true, lt-leb}
use lib.Dec.{eqb, leb}
use lib.ListN.{length, get_or, set, get_or-eq_default}
use lib.Seq.{get_or-set_other, get_or-set_same}
use Rattle.stripes.specs.Fold.{every}
use Rattle.stripes.specs.Erased.{erasures}
use Rattle.stripes.proofs.Fold.{and_left, and_right, and_both, lt_or_le, every_at, Lowest, lowest_is, lowest_unique}
use Rattle.stripes.proofs.Erased.{is_present}
use Rattle.std.proofs.Common.{Some}
use Rattle.tally.specs.Tally.{next_erased, Passed, Steps}
use Rattle.zeros.specs.Stored.{stored}
use Rattle.zeros.proofs.Stored.{get_or-before, get_or-stored, length-stored}

-- ---- passing over disks that are present
pub passed_none : (m : List ℕ) (from : ℕ) → from ≤ length m → Passed m from from
passed_none m from h = record { after = le_refl from; within = h; none = λ i a b. absurd (omega arith) }

module _ {m : List ℕ} {from d : ℕ} (p : Passed m from d) where
  passed_to : (k : ℕ) → d ≤ k → k ≤ length m → ((i : ℕ) → d ≤ i → i < k → erasures m i ≡ false) → Passed m from k
  passed_to k more fits clear =
      record {
        after = let h = p.after in omega arith;
        within = fits;
        none = λ i a b. ⊎_elim (λ l. p.none i a l) (λ l. clear i l b) (lt_or_le i d);
      }

  pub passed_next : d < length m → (get_or m d 0 ≡ 1 → ⊥) → Passed m from (d + 1)
  passed_next l present =
      passed_to (d + 1) (omega arith) (omega arith)
      (λ i a b. let here : d ≡ i = omega arith in subst (λ (j : ℕ). erasures m j ≡ false) here (is_present m d present))

  -- A stretch of zeros that begins at d or before.
  pub passed_zeros : (at n k : ℕ) → at + n ≡ k → at ≤ d → d ≤ k → k ≤ length m → every n (λ i. eqb (get_or m (at + i) 0) 0) ≡ true
      → Passed m from k
  passed_zeros at n k end start more fits zeros =
      passed_to k more fits
      (λ i a b.
      let place : at + (i - at) ≡ i = add-sub_of_le (omega arith) in
      let zero : get_or m i 0 ≡ 0 =
      ap (λ (j : ℕ). get_or m j 0) (sym place) ∙ eqb-true _ 0 (every_at n (λ i. eqb (get_or m (at + i) 0) 0) zeros (i - at) (omega arith)) in
      is_present m i (λ e. omega arith))

-- ---- the next erased disk

-- A search that found nothing before d ends there, if d is erased or past the last disk.
pub next_is : (m : List ℕ) (from d : ℕ) → d ≤ length m → ((i : ℕ) → from ≤ i → i < d → erasures m i ≡ false)
    → (d < length m → (from ≤ d) × (erasures m d ≡ true)) → d ≡ next_erased m from
unfolding next_erased
next_is m from d fits clear found =
    lowest_unique (length m) (λ i. leb from i && erasures m i) d _
    (record {
      within = fits;
      none = λ i b.
          ⊎_elim (λ l. ap (λ (x : Bool). x && erasures m i) (lt-leb from i l))
          (λ l. ap (λ (x : Bool). leb from i && x) (clear i l b) ∙ and-false (leb from i)) (lt_or_le i from);
      found = λ l. and_both (le-leb from d (found l).0) (found l).1;
    })
    (lowest_is (length m) (λ i. leb from i && erasures m i))

module _ (m : List ℕ) (from : ℕ) {d : ℕ} (found : d ≡ next_erased m from) where
  next-lowest : Lowest (length m) (λ i. leb from i && erasures m i) d
  unfolding next_erased
  next-lowest = rw found (lowest_is (length m) (λ i. leb from i && erasures m i))

  pub next_erased_lem : d < length m → erasures m d ≡ true
  next_erased_lem l = and_right (leb from d) _ (next-lowest.found l)

  pub next_passed : from ≤ length m → Passed m from d
  next_passed h =
      record {
        after =
            ⊎_elim (λ l. leb-true from _ (and_left (leb from d) _ (next-lowest.found l))) (λ l. omega arith) (lt_or_le d (length m));
        within = next-lowest.within;
        none = λ i a b. ap (λ (x : Bool). x && erasures m i) (sym (le-leb from i a)) ∙ next-lowest.none i b;
      }

-- ---- a scan of the map m, known as n

-- A turn of it, which goes from before disk `from` over disk d.
pub record Turned (m : List ℕ) (from d behind : ℕ) : Type 0 where
  pub passed : Passed m from d
  pub inside : d < length m
  pub erased : erasures m d ≡ true
  pub goes : behind ≡ d + 1

module _ {m n : List ℕ} {from : ℕ} (same : n ≡ m) where
  pub turned : {d behind : ℕ} → Steps n from (Some d) behind → Turned m from d behind
  turned {d = d} {behind = behind} s =
      subst (λ (x : List ℕ). Turned x from d behind) same (record { passed = s.0; inside = s.1; erased = s.2; goes = s.3 })

  pub ended : Passed n from (length n) → Passed m from (length m)
  ended p = subst (λ (x : List ℕ). Passed x from (length x)) same p

-- ---- a map whose bytes are copied

-- The first i bytes of `work` are f 0, f 1, ..
abbrev pub Copied : (f : ℕ → ℕ) (work : List ℕ) → ℕ → Type 0
Copied f work i = (j : ℕ) → j < i → get_or work j 0 ≡ f j

pub copied_next : (f : ℕ → ℕ) (work : List ℕ) (i : ℕ) → i < length work → Copied f work i → Copied f (set work i (f i)) (i + 1)
copied_next f work i l same =
    below_more (λ j. get_or (set work i (f i)) j 0 ≡ f j) i
    (λ j h. get_or-set_other work i j (f i) 0 (λ q. omega arith) ∙ same j h) (get_or-set_same work i (f i) 0 l)

-- Where they are those of a map, with zeros behind them, its disks are erased.
pub copied_all : (map work : List ℕ) → length map ≤ length work → Copied (λ j. get_or map j 0) work (length map)
    → erasures (stored work (length map) (length work - length map) (λ i. 0)) ≡ erasures map
unfolding erasures
copied_all map work fits same = fun_ext (λ d. ap (λ (x : ℕ). eqb x 1) (⊎_elim (copied d) (zeros d) (lt_or_le d (length map))))
  where
    n : ℕ
    n = length map

    stretch : List ℕ
    stretch = stored work n (length work - n) (λ i. 0)

    copied : (d : ℕ) → d < n → get_or stretch d 0 ≡ get_or map d 0
    copied d l = get_or-before work n (length work - n) (λ i. 0) d l ∙ same d l

    zeros : (d : ℕ) → n ≤ d → get_or stretch d 0 ≡ get_or map d 0
    zeros d l =
        ⊎_elim (λ h. get_or-stored work n (length work - n) (λ i. 0) d h l (omega arith))
        (λ h. get_or-eq_default stretch 0 {n = d} (let same = length-stored work n (length work - n) (λ i. 0) in omega arith))
        (lt_or_le d (length work))
        ∙ sym (get_or-eq_default map 0 {n = d} l)
