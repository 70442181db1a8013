-- The prices by which the smallest of several sets of disks is found: a set with fewer disks is cheaper, and of two that are equally large the
-- one whose numbers in ascending order come first.
-- Assumes nothing.
use mathlib.Core.Path.{◌≡◌, refl, sym, ◌∙◌, ap, ap₂, fun_ext}
use mathlib.Core.Bool.{Bool, true, false, cond, ◌&&◌, ◌||◌}
use mathlib.Core.Logic.{⊎_elim}
use mathlib.Core.List.{List, ◌∷◌}
use Prim.Native.Nat.{ℕ, zero, suc, ◌+◌, ◌-◌, ◌*◌, ◌^◌, ◌≤◌, ◌<◌}
use native.Mathlib.Nat.{zero-add, add-zero, one-mul, mul_comm, mul-add, add-mul, mul-le-mul, two-pow-succ, le_refl, le_step, le_of_lt, lt-suc_self, le_of_suc-le-suc, not-suc-le-zero, eq-or-lt_of_le}
use native.Mathlib.Omega.{arith}
use borrow.Author.Tests.{eq-eqb, ne_eqb, ltb-true, ltb-false, lt-ltb, le-ltb}
use lib.Dec.{eqb, ltb}
use Rattle.stripes.specs.Fold.{bit, gate, count, total}
use Rattle.stripes.specs.Smallest.{numbers_from, earlier, price, too_much}
use Rattle.stripes.proofs.Fold.{by_cases, below_suc, bit_le, count_le, count-first}
use Rattle.stripes.proofs.Degree.{total_ext, total_add, total_times, count-total}

-- ---- a set as a number

-- A set of numbers below n as the binary digits of one number, of which number 0 has the highest: of two sets that are equally large the one
-- whose numbers in ascending order come first has the larger number.
unfoldable pub digits : ℕ → (ℕ → Bool) → ℕ
digits zero c = 0
digits (suc n) c = 2 * digits n c + bit (c n)

-- What the number is depends on the set below n only.
digits_ext : (n : ℕ) {c g : ℕ → Bool} → ((i : ℕ) → i < n → c i ≡ g i) → digits n c ≡ digits n g
unfolding digits
digits_ext zero h = refl
digits_ext (suc n) h = ap₂ (λ (x : ℕ) (b : Bool). 2 * x + bit b) (digits_ext n (λ i l. h i (le_step l))) (h n (lt-suc_self n))

-- The empty set is zero.
digits_none : (n : ℕ) {c : ℕ → Bool} → ((i : ℕ) → i < n → c i ≡ false) → digits n c ≡ 0
unfolding digits bit
digits_none zero h = refl
digits_none (suc n) {c} h =
    let up = digits_none n {c = c} (λ i l. h i (le_step l)) in
    let here = ap bit (h n (lt-suc_self n)) in
    omega arith

-- Each further number doubles the bound.
pub digits_below : (n : ℕ) (c : ℕ → Bool) → digits n c < 2 ^ n
unfolding digits
digits_below zero c = omega arith
digits_below (suc n) c =
    let up = digits_below n c in
    let one = bit_le (c n) in
    let twice = two-pow-succ n in
    omega arith

bit-same : (a b : Bool) → bit a ≡ bit b → a ≡ b
unfolding bit
bit-same true true e = refl
bit-same true false e = absurd (omega arith)
bit-same false true e = absurd (omega arith)
bit-same false false e = refl

-- The number tells which set it is: its last digit is that of the last number, and what is left is the set below that.
pub digits_same : (n : ℕ) (c g : ℕ → Bool) → digits n c ≡ digits n g → (i : ℕ) → i < n → c i ≡ g i
unfolding digits
digits_same zero c g e = λ i l. absurd (not-suc-le-zero l)
digits_same (suc n) c g e =
    let a = bit_le (c n) in
    let b = bit_le (g n) in
    below_suc (λ (i : ℕ). c i ≡ g i) n (digits_same n c g (omega arith)) (bit-same (c n) (g n) (omega arith))

-- The first number that is in one of two sets only decides which is larger.
pub digits_first : (n : ℕ) (c g : ℕ → Bool) (d : ℕ) → d < n → ((i : ℕ) → i < d → c i ≡ g i) → c d ≡ true → g d ≡ false → digits n g < digits n c
unfolding digits bit
digits_first zero c g d l same held missing = absurd (not-suc-le-zero l)
digits_first (suc n) c g d l same held missing =
    ⊎_elim
    (λ (e : d ≡ n).
    let up : digits n c ≡ digits n g = digits_ext n (λ i k. same i (omega arith)) in
    let one = ap bit (ap c (sym e) ∙ held) in
    let none = ap bit (ap g (sym e) ∙ missing) in
    omega arith)
    (λ (k : d < n).
    let up = digits_first n c g d k same held missing in
    let one = bit_le (c n) in
    let other = bit_le (g n) in
    omega arith)
    (eq-or-lt_of_le (le_of_suc-le-suc l))

-- By its first digit, which is that of number 0.
digits_lead : (n : ℕ) (c : ℕ → Bool) → digits (suc n) c ≡ bit (c 0) * 2 ^ n + digits n (λ i. c (suc i))
unfolding digits
digits_lead zero c = omega arith
digits_lead (suc n) c =
    let up = digits_lead n c in
    let twice = ap (λ (x : ℕ). bit (c 0) * x) (two-pow-succ n) ∙ mul-add (bit (c 0)) (2 ^ n) (2 ^ n) in
    omega arith

-- What is gated by a test, as a multiple of its bit; and sums and multiples of it.
gate-bit : (b : Bool) (x : ℕ) → gate b x ≡ x * bit b
unfolding gate bit
gate-bit true x = omega arith
gate-bit false x = omega arith

gate_add : (b : Bool) (x y : ℕ) → gate b x + gate b y ≡ gate b (x + y)
unfolding gate
gate_add true x y = refl
gate_add false x y = refl

gate_twice : (b : Bool) (x : ℕ) → gate b (2 * x) ≡ 2 * gate b x
unfolding gate
gate_twice true x = refl
gate_twice false x = refl

-- The number of a set is the sum of the numbers of its members, each by itself.
digits_total : (n : ℕ) (c : ℕ → Bool) → digits n c ≡ total n (λ d. gate (c d) (digits n (λ i. eqb i d)))
unfolding digits total bit
digits_total zero c = refl
digits_total (suc n) c =
    let before : total n (λ d. gate (c d) (2 * digits n (λ i. eqb i d) + bit (eqb n d))) ≡ 2 * digits n c =
    total_ext n (λ d l. ap (λ (b : Bool). gate (c d) (2 * digits n (λ i. eqb i d) + bit b)) (ne_eqb n d (λ q. omega arith))
    ∙ ap (gate (c d)) (omega arith) ∙ gate_twice (c d) (digits n (λ i. eqb i d)))
    ∙ total_times n 2 (λ d. gate (c d) (digits n (λ i. eqb i d))) ∙ ap (λ (x : ℕ). 2 * x) (sym (digits_total n c)) in
    let here : gate (c n) (2 * digits n (λ i. eqb i n) + bit (eqb n n)) ≡ bit (c n) =
    ap₂ (λ (x : ℕ) (b : Bool). gate (c n) (2 * x + bit b)) (digits_none n (λ i l. ne_eqb i n (λ q. omega arith))) (eq-eqb n n refl)
    ∙ gate-bit (c n) 1 ∙ one-mul (bit (c n)) in
    sym (ap₂ (λ (x y : ℕ). x + y) before here)

-- A single number is a power of two.
digits_one : (n d : ℕ) → d < n → digits n (λ i. eqb i d) ≡ 2 ^ (n - suc d)
unfolding digits bit
digits_one zero d l = absurd (not-suc-le-zero l)
digits_one (suc n) d l =
    ⊎_elim
    (λ (e : d ≡ n).
    let none : digits n (λ i. eqb i d) ≡ 0 = digits_none n (λ i k. ne_eqb i d (λ q. omega arith)) in
    let one : bit (eqb n d) ≡ 1 = ap bit (eq-eqb n d (sym e)) in
    let last : suc n - suc d ≡ 0 = omega arith in
    rw last (omega arith))
    (λ (k : d < n).
    let up = digits_one n d k in
    let other : bit (eqb n d) ≡ 0 = ap bit (ne_eqb n d (λ q. omega arith)) in
    let next : suc n - suc d ≡ suc (n - suc d) = omega arith in
    let twice = two-pow-succ (n - suc d) in
    rw next (omega arith))
    (eq-or-lt_of_le (le_of_suc-le-suc l))

-- ---- prices

-- The price of a set: the sum of the prices w of its members below n.
unfoldable pub cost : (n : ℕ) → (w : ℕ → ℕ) → (c : ℕ → Bool) → ℕ
cost n w c = total n (λ d. gate (c d) (w d))

-- The price of a disk is what its own number leaves of 2 ^ n, so the price of a set is what its number leaves of 2 ^ n for each of its disks.
pub cost_digits : (n : ℕ) (c : ℕ → Bool) → cost n (price n) c + digits n c ≡ count n c * 2 ^ n
unfolding cost price
cost_digits n c =
    ap (λ (x : ℕ). cost n (price n) c + x) (digits_total n c)
    ∙ sym (total_add n (λ d. gate (c d) (price n d)) (λ d. gate (c d) (digits n (λ i. eqb i d))))
    ∙ total_ext n (λ d l.
    let below = digits_below n (λ i. eqb i d) in
    let one = digits_one n d l in
    gate_add (c d) (price n d) (digits n (λ i. eqb i d)) ∙ ap (gate (c d)) (omega arith) ∙ gate-bit (c d) (2 ^ n))
    ∙ total_times n (2 ^ n) (λ d. bit (c d)) ∙ ap (λ (x : ℕ). 2 ^ n * x) (sym (count-total n c)) ∙ mul_comm (2 ^ n) (count n c)

-- So a set with fewer disks is cheaper, and of two that are equally large that with the larger number.
pub fewer_cheaper : (n : ℕ) (c g : ℕ → Bool) → count n c < count n g → cost n (price n) c < cost n (price n) g
fewer_cheaper n c g l =
    let one = cost_digits n c in
    let other = cost_digits n g in
    let below = digits_below n g in
    let more : (count n c + 1) * 2 ^ n ≤ count n g * 2 ^ n = mul-le-mul (omega arith) (le_refl _) in
    let split = add-mul (count n c) 1 (2 ^ n) in
    omega arith

pub cheaper_first : (n : ℕ) (c g : ℕ → Bool) → count n c ≡ count n g → digits n g < digits n c → cost n (price n) c < cost n (price n) g
cheaper_first n c g e l =
    let one = cost_digits n c in
    let other = cost_digits n g in
    let same = ap (λ (k : ℕ). k * 2 ^ n) e in
    omega arith

-- The price tells which set it is, since it tells how large the set is.
pub cost_known : (n : ℕ) (c g : ℕ → Bool) → cost n (price n) c ≡ cost n (price n) g → (i : ℕ) → i < n → c i ≡ g i
cost_known n c g e =
    let fewer : count n c < count n g → ⊥ = λ l. let less = fewer_cheaper n c g l in omega arith in
    let more : count n g < count n c → ⊥ = λ l. let less = fewer_cheaper n g c l in omega arith in
    let same : count n c ≡ count n g = omega arith in
    let one = cost_digits n c in
    let other = cost_digits n g in
    let all = ap (λ (k : ℕ). k * 2 ^ n) same in
    digits_same n c g (omega arith)

-- Every disk has a price, and no set is as dear as `too_much`.
pub price-some : (n d : ℕ) → d < n → 0 < price n d
unfolding price
price-some n d l = let below = digits_below n (λ i. eqb i d) in let one = digits_one n d l in omega arith

pub cost_little : (n : ℕ) (c : ℕ → Bool) → cost n (price n) c < too_much n
unfolding too_much
cost_little n c =
    let all = cost_digits n c in
    let most : count n c * 2 ^ n ≤ n * 2 ^ n = mul-le-mul (count_le n c) (le_refl _) in
    omega arith

-- ---- numbers in ascending order

-- The test from number k on: number k, and then the test from the next number on.
from : (k : ℕ) → (ℕ → Bool) → ℕ → Bool
from k t i = t (k + i)

from_zero : (t : ℕ → Bool) → from 0 t ≡ t
unfolding from
from_zero t = fun_ext (λ i. ap t (zero-add i))

from-here : (k : ℕ) (t : ℕ → Bool) → from k t 0 ≡ t k
unfolding from
from-here k t = ap t (add-zero k)

from_next : (k : ℕ) (t : ℕ → Bool) → (λ i. from k t (suc i)) ≡ from (suc k) t
unfolding from
from_next k t = fun_ext (λ i. ap t (omega arith))

count-from : (k n : ℕ) (t : ℕ → Bool) → count (suc n) (from k t) ≡ bit (t k) + count n (from (suc k) t)
count-from k n t =
    count-first n (from k t) ∙ ap₂ (λ (b : Bool) (u : ℕ → Bool). bit b + count n u) (from-here k t) (from_next k t)

digits_from : (k n : ℕ) (t : ℕ → Bool) → digits (suc n) (from k t) ≡ bit (t k) * 2 ^ n + digits n (from (suc k) t)
digits_from k n t =
    digits_lead n (from k t) ∙ ap₂ (λ (b : Bool) (u : ℕ → Bool). bit b * 2 ^ n + digits n u) (from-here k t) (from_next k t)

-- Where the test holds of one of the numbers, the list has a first, which is not below k.
numbers_some : (k n : ℕ) (t : ℕ → Bool) → 0 < count n (from k t)
    → (b : ℕ) × (vs : List ℕ) × (numbers_from k n t ≡ b ∷ vs) × (k ≤ b)
unfolding numbers_from count bit
numbers_some k zero t h = absurd (not-suc-le-zero h)
numbers_some k (suc n) t h = go (t k) refl (numbers_some (suc k) n t)
  where
    go : (b : Bool) → t k ≡ b
        → (0 < count n (from (suc k) t) → (a : ℕ) × (vs : List ℕ) × (numbers_from (suc k) n t ≡ a ∷ vs) × (suc k ≤ a))
        → (a : ℕ) × (vs : List ℕ) × (cond b (k ∷ numbers_from (suc k) n t) (numbers_from (suc k) n t) ≡ a ∷ vs) × (k ≤ a)
    go true e up = (k, numbers_from (suc k) n t, refl, le_refl k)
    go false e up =
        let all = count-from k n t in
        let none = ap bit e in
        let (a, vs, q, l) = up (omega arith) in
        (a, vs, q, omega arith)

-- Lists that begin with the same number are compared by their rests; else that with the lower number comes first.
earlier-same : (k : ℕ) (us vs : List ℕ) → earlier (k ∷ us) (k ∷ vs) ≡ earlier us vs
unfolding earlier
earlier-same k us vs = ap₂ (λ (a b : Bool). a || (b && earlier us vs)) (le-ltb k k (le_refl k)) (eq-eqb k k refl)

earlier-lower : (k b : ℕ) (us vs : List ℕ) → k < b → earlier (k ∷ us) (b ∷ vs) ≡ true
unfolding earlier
earlier-lower k b us vs l = ap (λ (x : Bool). x || (eqb k b && earlier us vs)) (lt-ltb k b l)

earlier-higher : (k b : ℕ) (us vs : List ℕ) → k < b → earlier (b ∷ us) (k ∷ vs) ≡ false
unfolding earlier
earlier-higher k b us vs l =
    ap₂ (λ (x y : Bool). x || (y && earlier us vs)) (le-ltb b k (le_of_lt l)) (ne_eqb b k (λ q. omega arith))

-- Two pairs of numbers that are in the same order.
ltb-same : (a b x y : ℕ) → (a < b → x < y) → (b ≤ a → y ≤ x) → ltb a b ≡ ltb x y
ltb-same a b x y below above =
    by_cases (λ (t : Bool). t ≡ ltb x y) (ltb a b) (λ h. sym (lt-ltb x y (below (ltb-true a b h)))) (λ h. sym (le-ltb x y (above (ltb-false a b h))))

-- At the first number where two sets differ, the one that has it comes first: the other one is as large, so it goes on with a higher number.
earlier-from : (k n : ℕ) (c g : ℕ → Bool) → count n (from k c) ≡ count n (from k g)
    → earlier (numbers_from k n c) (numbers_from k n g) ≡ ltb (digits n (from k g)) (digits n (from k c))
unfolding numbers_from earlier digits bit
earlier-from k zero c g e = sym (le-ltb 0 0 (le_refl 0))
earlier-from k (suc n) c g e =
    go (c k) (g k) (sym (count-from k n c) ∙ e ∙ count-from k n g) (earlier-from (suc k) n c g)
    ∙ sym (ap₂ ltb (digits_from k n g) (digits_from k n c))
  where
    us : List ℕ
    us = numbers_from (suc k) n c

    vs : List ℕ
    vs = numbers_from (suc k) n g

    x : ℕ
    x = digits n (from (suc k) c)

    y : ℕ
    y = digits n (from (suc k) g)

    go : (a b : Bool) → bit a + count n (from (suc k) c) ≡ bit b + count n (from (suc k) g)
        → (count n (from (suc k) c) ≡ count n (from (suc k) g) → earlier us vs ≡ ltb y x)
        → earlier (cond a (k ∷ us) us) (cond b (k ∷ vs) vs) ≡ ltb (bit b * 2 ^ n + y) (bit a * 2 ^ n + x)
    go true true q up =
        earlier-same k us vs ∙ up (omega arith) ∙ ltb-same y x (1 * 2 ^ n + y) (1 * 2 ^ n + x) (λ l. omega arith) (λ l. omega arith)
    go true false q up =
        let (b, rest, r, l) = numbers_some (suc k) n g (omega arith) in
        let below = digits_below n (from (suc k) g) in
        ap (earlier (k ∷ us)) r ∙ earlier-lower k b us rest l ∙ sym (lt-ltb (0 * 2 ^ n + y) (1 * 2 ^ n + x) (omega arith))
    go false true q up =
        let (b, rest, r, l) = numbers_some (suc k) n c (omega arith) in
        let below = digits_below n (from (suc k) c) in
        ap (λ (w : List ℕ). earlier w (k ∷ vs)) r ∙ earlier-higher k b rest vs l ∙ sym (le-ltb (1 * 2 ^ n + y) (0 * 2 ^ n + x) (omega arith))
    go false false q up = up (omega arith) ∙ ltb-same y x (0 * 2 ^ n + y) (0 * 2 ^ n + x) (λ l. omega arith) (λ l. omega arith)

-- Of two sets that are equally large the one whose numbers come first has the larger number.
pub earlier_digits : (n : ℕ) (c g : ℕ → Bool) → count n c ≡ count n g → earlier (numbers_from 0 n c) (numbers_from 0 n g) ≡ ltb (digits n g) (digits n c)
earlier_digits n c g e =
    earlier-from 0 n c g (ap (count n) (from_zero c) ∙ e ∙ sym (ap (count n) (from_zero g)))
    ∙ ap₂ (λ (s t : ℕ → Bool). ltb (digits n s) (digits n t)) (from_zero g) (from_zero c)
