-- How many disks of a set lie on each stripe, how many stripes the set touches, and what repairs take from that number.
-- Assumes nothing.
use mathlib.Core.Path.{◌≡◌, refl, sym, ◌∙◌, ap, ap₂, subst}
use mathlib.Core.Bool.{Bool, true, false, cond, not, ◌&&◌, ◌||◌, and-true, and-false, or-false, or-true, true≢false, false≢true}
use mathlib.Core.Logic.{◌⊎◌, inl, inr, ⊎_elim}
use mathlib.Core.List.{List, [], ◌∷◌}
use Prim.Native.Nat.{ℕ, zero, suc, ◌+◌, ◌*◌, ◌≤◌, ◌<◌}
use native.Mathlib.Nat.{zero-add, zero-mul, one-mul, mul-zero, mul_comm, mul-add, le_refl, le_of_eq, le_step, le_of_suc-le-suc, lt-suc_self, zero-lt-suc, not-suc-le-zero, eq-or-lt_of_le}
use native.Mathlib.Omega.{arith}
use borrow.Author.Tests.{eq-eqb, ne_eqb, eqb-true, eqb-false, ltb-true, lt-ltb, le-ltb, not-true}
use lib.Dec.{eqb, ltb}
use lib.ListN.{length}
use Rattle.stripes.specs.Fold.{every, bit, count, total}
use Rattle.stripes.specs.System.{Layout, TwoStripes, among, on, other_than, Ordered, Rising}
use Rattle.stripes.specs.Erased.{without}
use Rattle.stripes.specs.Repair.{Entry, allowed, Peels}
use Rattle.stripes.proofs.Fold.{and_left, and_right, and_both, same_test, by_cases, lt_or_le, below_suc, every_at, every_all, count_le, count_mono, count_none, count-some, count_found, count-without, count_but}
use Rattle.stripes.proofs.Peel.{Within, without_at, without_other, without_sub, without-apart, Allowed, allowed_is}

-- ---- sums of numbers

pub total_ext : (n : ℕ) {f g : ℕ → ℕ} → ((i : ℕ) → i < n → f i ≡ g i) → total n f ≡ total n g
unfolding total
total_ext zero h = refl
total_ext (suc n) h = ap₂ (λ (x y : ℕ). x + y) (total_ext n (λ i l. h i (le_step l))) (h n (lt-suc_self n))

pub total-zero : (n : ℕ) {f : ℕ → ℕ} → ((i : ℕ) → i < n → f i ≡ 0) → total n f ≡ 0
unfolding total
total-zero zero h = refl
total-zero (suc n) {f} h =
    let before : total n f ≡ 0 = total-zero n (λ i l. h i (le_step l)) in
    let here : f n ≡ 0 = h n (lt-suc_self n) in
    omega arith

pub total_add : (n : ℕ) (f g : ℕ → ℕ) → total n (λ i. f i + g i) ≡ total n f + total n g
unfolding total
total_add zero f g = refl
total_add (suc n) f g = let before = total_add n f g in omega arith

pub total_times : (n k : ℕ) (f : ℕ → ℕ) → total n (λ i. k * f i) ≡ k * total n f
unfolding total
total_times zero k f = sym (mul-zero k)
total_times (suc n) k f = ap (λ (x : ℕ). x + k * f n) (total_times n k f) ∙ sym (mul-add k (total n f) (f n))

pub total_swap : (m n : ℕ) (f : ℕ → ℕ → ℕ) → total m (λ i. total n (λ j. f i j)) ≡ total n (λ j. total m (λ i. f i j))
unfolding total
total_swap zero n f = sym (total-zero n (λ j h. refl))
total_swap (suc m) n f =
    ap (λ (x : ℕ). x + total n (λ j. f m j)) (total_swap m n f) ∙ sym (total_add n (λ j. total m (λ i. f i j)) (λ j. f m j))

pub total_mono : (n : ℕ) (f g : ℕ → ℕ) → ((i : ℕ) → i < n → f i ≤ g i) → total n f ≤ total n g
unfolding total
total_mono zero f g h = le_refl 0
total_mono (suc n) f g h =
    let before = total_mono n f g (λ i l. h i (le_step l)) in
    let here = h n (lt-suc_self n) in
    omega arith

pub total_upto : (k n : ℕ) (f : ℕ → ℕ) → k ≤ n → total k f ≤ total n f
unfolding total
total_upto k zero f h = let none : k ≡ 0 = omega arith in rw none (le_refl _)
total_upto k (suc n) f h =
    ⊎_elim (λ (e : k ≡ suc n). rw e (le_refl _)) (λ (l : k < suc n). let before = total_upto k n f (omega arith) in omega arith) (eq-or-lt_of_le h)

-- A sum is zero exactly if every part is.
pub total-none : (n : ℕ) (f : ℕ → ℕ) → eqb (total n f) 0 ≡ every n (λ i. eqb (f i) 0)
unfolding total
total-none n f =
    same_test (eqb (total n f) 0) (every n (λ i. eqb (f i) 0))
    (λ h.
    let none = eqb-true (total n f) 0 h in
    every_all n (λ i l. let part = total_upto (suc i) n f l in eq-eqb (f i) 0 (omega arith)))
    (λ h. eq-eqb (total n f) 0 (total-zero n (λ i l. eqb-true (f i) 0 (every_at n (λ i. eqb (f i) 0) h i l))))

-- Where no part is larger and the sum is not smaller, the parts are equal.
pub total_squeeze : (n : ℕ) (f g : ℕ → ℕ) → ((i : ℕ) → i < n → f i ≤ g i) → total n g ≤ total n f → (i : ℕ) → i < n → f i ≡ g i
unfolding total
total_squeeze zero f g h e = λ i l. absurd (not-suc-le-zero l)
total_squeeze (suc n) f g h e =
    let before = total_mono n f g (λ i l. h i (le_step l)) in
    let here = h n (lt-suc_self n) in
    below_suc (λ i. f i ≡ g i) n (total_squeeze n f g (λ i l. h i (le_step l)) (omega arith)) (omega arith)

-- The sum of a function that is zero everywhere but at k.
pub total-only : (n k : ℕ) {f : ℕ → ℕ} → k < n → ((i : ℕ) → i < n → (i ≡ k → ⊥) → f i ≡ 0) → total n f ≡ f k
unfolding total
total-only zero k l h = absurd (not-suc-le-zero l)
total-only (suc n) k {f} l h =
    ⊎_elim
    (λ e.
    let none : total n f ≡ 0 = total-zero n (λ i m. h i (le_step m) (λ q. omega arith)) in
    ap (λ (x : ℕ). x + f n) none ∙ zero-add (f n) ∙ ap f (sym e))
    (λ m.
    let before : total n f ≡ f k = total-only n k m (λ i w. h i (le_step w)) in
    let here : f n ≡ 0 = h n (lt-suc_self n) (λ q. omega arith) in
    omega arith)
    (eq-or-lt_of_le (le_of_suc-le-suc l))

pub count-total : (n : ℕ) (t : ℕ → Bool) → count n t ≡ total n (λ i. bit (t i))
unfolding total count
count-total zero t = refl
count-total (suc n) t = ap (λ (x : ℕ). x + bit (t n)) (count-total n t)

pub count_upto : (k n : ℕ) (t : ℕ → Bool) → k ≤ n → count k t ≤ count n t
count_upto k n t h = rw (count-total, count-total) (total_upto k n (λ i. bit (t i)) h)

-- Just one number equals k.
-- The bit of the number k where the test holds of it, and by itself.
total_at : (n k : ℕ) → k < n → (t : ℕ → Bool) → total n (λ i. bit (t i && eqb i k)) ≡ bit (t k)
unfolding bit
total_at n k l t =
    total-only n k l (λ i w q. ap (λ (b : Bool). bit (t i && b)) (ne_eqb i k q) ∙ ap bit (and-false (t i)))
    ∙ ap (λ (b : Bool). bit (t k && b)) (eq-eqb k k refl) ∙ ap bit (and-true (t k))

total_equal : (n k : ℕ) → k < n → total n (λ s. bit (eqb s k)) ≡ 1
unfolding bit
total_equal n k l = total_at n k l (λ i. true)

-- A count behind a test.
pub count_where : (b : Bool) (n : ℕ) (t : ℕ → Bool) → cond b (count n t) 0 ≡ total n (λ i. bit (b && t i))
unfolding bit
count_where true n t = count-total n t
count_where false n t = sym (total-zero n (λ i l. refl))

-- ---- counts of two

-- Two different numbers count for two.
pub count-two : (n : ℕ) (t : ℕ → Bool) (i j : ℕ) → i < n → t i ≡ true → j < n → t j ≡ true → (j ≡ i → ⊥) → 2 ≤ count n t
count-two n t i j l h m k q =
    let rest = count-without n t i l h in
    let more = count-some n (λ a. t a && not (eqb a i)) j m (and_both k (ap not (ne_eqb j i q))) in
    omega arith

-- Where two are counted, there is just one other.
pub record Other (n : ℕ) (t : ℕ → Bool) (i j : ℕ) : Type 0 where
  pub inside : j < n
  pub holds : t j ≡ true
  pub apart : j ≡ i → ⊥
  pub only : (k : ℕ) → k < n → t k ≡ true → (k ≡ i → ⊥) → k ≡ j

pub count-other : (n : ℕ) (t : ℕ → Bool) (i : ℕ) → count n t ≡ 2 → i < n → t i ≡ true → (j : ℕ) × Other n t i j
count-other n t i e l h =
    let rest = count-without n t i l h in
    let (j, m, k) = count_found n (λ a. t a && not (eqb a i)) (omega arith) in (
      j,
      record {
        inside = m;
        holds = and_left (t j) (not (eqb j i)) k;
        apart = eqb-false j i (not-true (eqb j i) (and_right (t j) (not (eqb j i)) k));
        only = λ a w x q.
            by_cases (λ (b : Bool). a ≡ j) (eqb a j) (eqb-true a j)
            (λ y. let more = count-two n (λ a. t a && not (eqb a i)) j a m k w (and_both x (ap not (ne_eqb a i q))) (eqb-false a j y) in absurd (omega arith));
      },
    )

-- Counted by their values, all numbers below n are counted.
total_values : (n m : ℕ) (f : ℕ → ℕ) → ((i : ℕ) → i < n → f i < m) → total m (λ v. count n (λ j. eqb v (f j))) ≡ n
unfolding count
total_values zero m f below = total-zero m (λ v l. refl)
total_values (suc n) m f below =
    let split = total_add m (λ v. count n (λ j. eqb v (f j))) (λ v. bit (eqb v (f n))) in
    let before = total_values n m f (λ i l. below i (le_step l)) in
    let here = total_equal m (f n) (below n (lt-suc_self n)) in
    omega arith

-- Where f takes each of its values twice, and they are below m, n is at most twice m.
pub two_each : (n m : ℕ) (f : ℕ → ℕ) → ((i : ℕ) → i < n → f i < m) → ((i : ℕ) → i < n → count n (λ j. eqb (f i) (f j)) ≡ 2) → n ≤ 2 * m
unfolding bit
two_each n m f below two =
    let all = total_values n m f below in
    let most = total_mono m (λ v. count n (λ j. eqb v (f j))) (λ v. 2 * bit true) (λ v l. at_most v) in
    let twice = total_times m 2 (λ v. bit true) in
    let values = count-total m (λ v. true) in
    let few = count_le m (λ v. true) in
    omega arith
  where
    at_most : (v : ℕ) → count n (λ j. eqb v (f j)) ≤ 2
    at_most v =
        ⊎_elim
        (λ some.
        let (i, l, h) = count_found n (λ j. eqb v (f j)) some in
        le_of_eq (ap (λ (x : ℕ). count n (λ j. eqb x (f j))) (eqb-true v (f i) h) ∙ two i l))
        (λ none. omega arith)
        (lt_or_le 0 (count n (λ j. eqb v (f j))))

-- ---- disks on a stripe, stripes of a disk

-- How many disks of c lie on stripe s.
unfoldable pub degree : Layout → (ℕ → Bool) → ℕ → ℕ
degree L c s = count L.disks (λ d. c d && on L d s)

-- How many stripes hold a disk of c.
unfoldable pub touched : Layout → (ℕ → Bool) → ℕ
touched L c = count L.stripe_bound (λ s. ltb 0 (degree L c s))

-- A stripe that holds a disk of c, and one that does not.
pub touches : (L : Layout) (c : ℕ → Bool) (d s : ℕ) → d < L.disks → c d ≡ true → on L d s ≡ true → ltb 0 (degree L c s) ≡ true
unfolding degree
touches L c d s l h k = lt-ltb 0 _ (count-some L.disks (λ d. c d && on L d s) d l (and_both h k))

pub untouched : (L : Layout) (c : ℕ → Bool) (s : ℕ) → ((d : ℕ) → d < L.disks → (c d && on L d s) ≡ false) → ltb 0 (degree L c s) ≡ false
unfolding degree
untouched L c s h = le-ltb 0 _ (le_of_eq (count_none L.disks h))

-- A disk of the set counts on its own stripes, and on no other.
pub degree_without : (L : Layout) (c : ℕ → Bool) (d s : ℕ) → d < L.disks → c d ≡ true
    → degree L (without c d) s + bit (on L d s) ≡ degree L c s
unfolding degree
degree_without L c d s l h =
    ap (λ (b : Bool). degree L (without c d) s + bit (b && on L d s)) (sym h)
    ∙ count_but L.disks (λ i. c i && on L i s) (λ i. without c d i && on L i s) d l
    (ap (λ (b : Bool). b && on L d s) (without_at c d)) (λ i q. ap (λ (b : Bool). b && on L i s) (without_other c d i q))

-- The parts of a sum of bits.
bit_and : (a b : Bool) → bit (a && b) ≡ bit a * bit b
unfolding bit
bit_and true b = sym (one-mul (bit b))
bit_and false b = sym (zero-mul (bit b))

bit_or : (a b : Bool) → (a ≡ true → b ≡ false) → bit (a || b) ≡ bit a + bit b
unfolding bit
bit_or true b h = sym (ap (λ (x : Bool). 1 + bit x) (h refl))
bit_or false b h = sym (zero-add (bit b))

-- Which of two numbers is not a given one.
pub other-first : (a b : ℕ) → (b ≡ a → ⊥) → other_than a (a ∷ b ∷ []) ≡ b
unfolding other_than
other-first a b d = ap₂ (λ (p q : Bool). cond p (cond q 0 b) a) (eq-eqb a a refl) (ne_eqb b a d)

pub other_second : (a b : ℕ) → (b ≡ a → ⊥) → other_than b (a ∷ b ∷ []) ≡ a
unfolding other_than
other_second a b d = ap (λ (p : Bool). cond p (cond (eqb b b) 0 b) a) (ne_eqb a b (λ e. d (sym e)))

module _ (L : Layout) (two : TwoStripes L) (d : ℕ) (inside : d < L.disks) where
  pub low-bound : two.low d < L.stripe_bound
  low-bound = let a = two.order d inside in let b = two.bound d inside in omega arith

  -- A disk lies on its two stripes and on no other.
  pub on-two : (s : ℕ) → on L d s ≡ (eqb s (two.low d) || eqb s (two.high d))
  unfolding on among
  on-two s = ap (among s) (two.two d inside) ∙ ap (λ (b : Bool). eqb s (two.low d) || b) (or-false (eqb s (two.high d)))

  pub on-low : on L d (two.low d) ≡ true
  on-low = on-two (two.low d) ∙ ap (λ (b : Bool). b || eqb (two.low d) (two.high d)) (eq-eqb (two.low d) (two.low d) refl)

  pub on-high : on L d (two.high d) ≡ true
  on-high =
      on-two (two.high d) ∙ ap (λ (b : Bool). eqb (two.high d) (two.low d) || b) (eq-eqb (two.high d) (two.high d) refl)
      ∙ or-true (eqb (two.high d) (two.low d))

  pub on_which : (s : ℕ) → on L d s ≡ true → (s ≡ two.low d) ⊎ (s ≡ two.high d)
  on_which s e = go (eqb s (two.low d)) refl
    where
      go : (b : Bool) → eqb s (two.low d) ≡ b → (s ≡ two.low d) ⊎ (s ≡ two.high d)
      go true q = inl (eqb-true s (two.low d) q)
      go false q = inr (eqb-true s (two.high d) (ap (λ (b : Bool). b || eqb s (two.high d)) (sym q) ∙ sym (on-two s) ∙ e))

  pub on-bound : (s : ℕ) → on L d s ≡ true → s < L.stripe_bound
  on-bound s e =
      let a = low-bound in
      let b = two.bound d inside in
      ⊎_elim (λ q. omega arith) (λ q. omega arith) (on_which s e)

  -- As a sum of bits, and summed over the stripes.
  pub on_bits : (s : ℕ) → bit (on L d s) ≡ bit (eqb s (two.low d)) + bit (eqb s (two.high d))
  on_bits s =
      ap bit (on-two s)
      ∙ bit_or (eqb s (two.low d)) (eqb s (two.high d))
      (λ q. let e = eqb-true s (two.low d) q in let a = two.order d inside in ne_eqb s (two.high d) (λ h. omega arith))

  -- As many as are among `some`, and both of them.
  pub on-among : (some : ℕ → Bool) → total L.stripe_bound (λ s. bit (some s && on L d s)) ≡ bit (some (two.low d)) + bit (some (two.high d))
  unfolding bit
  on-among some =
      total_ext L.stripe_bound (λ s b.
      by_cases (λ (t : Bool). bit (t && on L d s) ≡ bit (t && eqb s (two.low d)) + bit (t && eqb s (two.high d))) (some s)
      (λ h. on_bits s) (λ h. refl))
      ∙ total_add L.stripe_bound (λ s. bit (some s && eqb s (two.low d))) (λ s. bit (some s && eqb s (two.high d)))
      ∙ ap₂ (λ (x y : ℕ). x + y) (total_at L.stripe_bound (two.low d) low-bound some)
      (total_at L.stripe_bound (two.high d) (two.bound d inside) some)

  pub on_total : total L.stripe_bound (λ s. bit (on L d s)) ≡ 2
  unfolding bit
  on_total = on-among (λ s. true)

-- Two stripes, the lower first, are listed in rising order.
pub two_ordered : (L : Layout) → TwoStripes L → Ordered L
unfolding among
two_ordered L two =
    record {
      rising = λ d l.
          let order = two.order d l in
          subst Rising (sym (two.two d l))
          (λ t h. let same = eqb-true t (two.high d) (sym (or-false (eqb t (two.high d))) ∙ h) in omega arith, (λ t h. absurd (false≢true h), tt));
      bounded = λ d s l. on-bound L two d l s;
    }

-- Each disk of c counts on two stripes.
pub degrees : (L : Layout) → TwoStripes L → (c : ℕ → Bool) → total L.stripe_bound (degree L c) ≡ 2 * count L.disks c
unfolding degree
degrees L two c =
    total_ext L.stripe_bound (λ s l. count-total L.disks (λ d. c d && on L d s))
    ∙ total_swap L.stripe_bound L.disks (λ s d. bit (c d && on L d s))
    ∙ total_ext L.disks (λ d l.
    total_ext L.stripe_bound (λ s b. bit_and (c d) (on L d s))
    ∙ total_times L.stripe_bound (bit (c d)) (λ s. bit (on L d s))
    ∙ ap (λ (x : ℕ). bit (c d) * x) (on_total L two d l)
    ∙ mul_comm (bit (c d)) 2)
    ∙ total_times L.disks 2 (λ d. bit (c d))
    ∙ ap (λ (x : ℕ). 2 * x) (sym (count-total L.disks c))

-- ---- along a list of repairs

-- A disk of c on a stripe that is touched.
pub touching : (L : Layout) (c : ℕ → Bool) (s : ℕ) → ltb 0 (degree L c s) ≡ true
    → (d : ℕ) × (d < L.disks) × (c d ≡ true) × (on L d s ≡ true)
unfolding degree
touching L c s h =
    let (d, l, k) = count_found L.disks (λ d. c d && on L d s) (ltb-true 0 _ h) in
    (d, l, and_left (c d) (on L d s) k, and_right (c d) (on L d s) k)

-- More disks touch more stripes.
pub touched_mono : (L : Layout) (c e : ℕ → Bool) → Within L c e → touched L c ≤ touched L e
unfolding touched
touched_mono L c e sub =
    count_mono L.stripe_bound (λ s l h. let (d, w, k, m) = touching L c s h in touches L e d s w (sub d w k) m)

module _ (L : Layout) (two : TwoStripes L) where
  -- One disk touches two.
  pub touched_two : (c : ℕ → Bool) (d : ℕ) → d < L.disks → c d ≡ true → 2 ≤ touched L c
  unfolding touched
  touched_two c d l h =
      let order = two.order d l in
      count-two L.stripe_bound (λ s. ltb 0 (degree L c s)) (two.low d) (two.high d)
      (low-bound L two d l) (touches L c d (two.low d) l h (on-low L two d l))
      (two.bound d l) (touches L c d (two.high d) l h (on-high L two d l)) (λ q. omega arith)

  -- A repair frees its stripe.
  pub repair_frees : (e : ℕ → Bool) (d s : ℕ) → allowed L e d s ≡ true → touched L (without e d) + 1 ≤ touched L e
  unfolding touched
  repair_frees e d s h =
      let a : Allowed L e d s = allowed_is L e d s h in
      let one =
      count-without L.stripe_bound (λ i. ltb 0 (degree L e i)) s (on-bound L two d a.disk s a.here)
      (touches L e d s a.disk a.erased a.here) in
      let fewer : count L.stripe_bound (λ i. ltb 0 (degree L (without e d) i)) ≤ count L.stripe_bound (λ i. ltb 0 (degree L e i) && not (eqb i s)) =
      count_mono L.stripe_bound (λ i l k.
      let (j, w, m, n) = touching L (without e d) i k in
      and_both (touches L e j i w (without_sub e d j m) n)
      (ap not (ne_eqb i s (λ q.
      true≢false (sym (ap (on L j) (sym q) ∙ n) ∙ a.only j w (without-apart e d j m) (without_sub e d j m)))))) in
      omega arith

  -- So the repairs are fewer than the stripes that are touched: before the last repair its disk still touches two.
  pub peels_fewer : (e : ℕ → Bool) (w : List Entry) → Peels L e w → 0 < length w → length w + 1 ≤ touched L e
  peels_fewer e [] p h = absurd (not-suc-le-zero h)
  peels_fewer e (r ∷ []) p h =
      let a : Allowed L e r.disk r.stripe = allowed_is L e r.disk r.stripe p.0 in
      touched_two e r.disk a.disk a.erased
  peels_fewer e (r ∷ q ∷ rs) p h =
      let here = repair_frees e r.disk r.stripe p.0 in
      let rest = peels_fewer (without e r.disk) (q ∷ rs) p.1 (zero-lt-suc (length rs)) in
      omega arith
