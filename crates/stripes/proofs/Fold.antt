-- The laws of sums, tests and lists over the numbers below a bound, and of lists cut in two.
-- Assumes nothing.
use mathlib.Core.Path.{◌≡◌, refl, sym, ◌∙◌, ap, ap₂, subst}
use mathlib.Core.Bool.{Bool, true, false, cond, not, ◌&&◌, ◌||◌, and_assoc, and-true, and-false, true≢false, false≢true}
use mathlib.Core.Logic.{◌⊎◌, inl, inr, ⊎_elim}
use mathlib.Core.List.{List, [], ◌∷◌, ◌++◌, map}
use Prim.Native.Nat.{ℕ, zero, suc, ◌+◌, ◌*◌, ◌-◌, ◌≤◌, ◌<◌, zero-le, suc-le-suc}
use native.Mathlib.Nat.{add-sub_of_le, add-zero, add_comm, add-suc, zero-mul, suc-mul, eq-or-lt_of_le, le_of_suc-le-suc, lt-suc_self, le_step, le_refl, le_of_lt, lt_irrefl, not-suc-le-zero, lt_of_lt_of_le, zero-lt-suc, pos_of_ne-zero, sub-zero, zero-sub, suc-sub-suc}
use native.Mathlib.Omega.{arith}
use borrow.Author.Tests.{ltb-true, ltb-false, eq-eqb, ne_eqb, eqb-true, eqb-false}
use lib.Dec.{ltb, eqb}
use lib.ListN.{length, get_or, take, drop}
use lib.Seq.{take-nil, drop-nil, ext_get_or}
use Rattle.stripes.specs.Fold.{◌⊕◌, xsum, gate, every, bit, count, lowest, tabulate}
use Rattle.stripes.proofs.Xor.{⊕_assoc, ⊕-zero, zero-⊕, ⊕_self, ⊕_swap4, ⊕-byte}

-- ---- tests
pub and_left : (a b : Bool) → (a && b) ≡ true → a ≡ true
and_left true b e = refl
and_left false b e = e

pub and_right : (a b : Bool) → (a && b) ≡ true → b ≡ true
and_right true b e = e
and_right false b e = absurd (false≢true e)

pub and_both : {a b : Bool} → a ≡ true → b ≡ true → (a && b) ≡ true
and_both {a} {b} ha hb = ap₂ (λ (x y : Bool). x && y) ha hb

pub or_left : (a b : Bool) → (a || b) ≡ false → a ≡ false
or_left true b e = e
or_left false b e = refl

pub or_right : (a b : Bool) → (a || b) ≡ false → b ≡ false
or_right true b e = absurd (true≢false e)
or_right false b e = e

-- Two tests that hold in the same cases are equal.
pub same_test : (a b : Bool) → (a ≡ true → b ≡ true) → (b ≡ true → a ≡ true) → a ≡ b
same_test true b h k = sym (h refl)
same_test false true h k = k refl
same_test false false h k = refl

-- A test fails where one that follows from it does.
pub fails_with : (a b : Bool) → (a ≡ true → b ≡ true) → b ≡ false → a ≡ false
fails_with true b h k = sym (h refl) ∙ k
fails_with false b h k = refl

pub eqb_comm : (a b : ℕ) → eqb a b ≡ eqb b a
eqb_comm a b =
    same_test (eqb a b) (eqb b a) (λ h. eq-eqb b a (sym (eqb-true a b h))) (λ h. eq-eqb a b (sym (eqb-true b a h)))

-- What holds in both cases of a test holds of its value.
pub by_cases {ℓ} : (P : Bool → Type ℓ) (b : Bool) → (b ≡ true → P true) → (b ≡ false → P false) → P b
by_cases P true t f = t refl
by_cases P false t f = f refl

pub lt_or_le : (a b : ℕ) → (a < b) ⊎ (b ≤ a)
lt_or_le a b = go (ltb a b) refl
  where
    go : (t : Bool) → ltb a b ≡ t → (a < b) ⊎ (b ≤ a)
    go true e = inl (ltb-true a b e)
    go false e = inr (ltb-false a b e)

-- What holds of the numbers below n and of n holds of all that are not above n.
pub below_suc : (P : ℕ → Type 0) (n : ℕ) → ((i : ℕ) → i < n → P i) → P n → (i : ℕ) → i < suc n → P i
below_suc P n all here i h = ⊎_elim (λ e. subst P (sym e) here) (λ l. all i l) (eq-or-lt_of_le (le_of_suc-le-suc h))

-- ---- sums
pub xsum_ext : (n : ℕ) {f g : ℕ → ℕ} → ((i : ℕ) → i < n → f i ≡ g i) → xsum n f ≡ xsum n g
unfolding xsum
xsum_ext zero h = refl
xsum_ext (suc n) h = ap₂ (λ (x y : ℕ). x ⊕ y) (xsum_ext n (λ i l. h i (le_step l))) (h n (lt-suc_self n))

pub xsum-zero : (n : ℕ) {f : ℕ → ℕ} → ((i : ℕ) → i < n → f i ≡ 0) → xsum n f ≡ 0
unfolding xsum
xsum-zero zero h = refl
xsum-zero (suc n) h = ap₂ (λ (x y : ℕ). x ⊕ y) (xsum-zero n (λ i l. h i (le_step l))) (h n (lt-suc_self n)) ∙ ⊕_self 0

pub xsum-⊕ : (n : ℕ) (f g : ℕ → ℕ) → xsum n (λ i. f i ⊕ g i) ≡ xsum n f ⊕ xsum n g
unfolding xsum
xsum-⊕ zero f g = sym (⊕_self 0)
xsum-⊕ (suc n) f g = ap (λ (x : ℕ). x ⊕ (f n ⊕ g n)) (xsum-⊕ n f g) ∙ ⊕_swap4 (xsum n f) (xsum n g) (f n) (g n)

pub xsum_swap : (m n : ℕ) (f : ℕ → ℕ → ℕ) → xsum m (λ i. xsum n (λ j. f i j)) ≡ xsum n (λ j. xsum m (λ i. f i j))
unfolding xsum
xsum_swap zero n f = sym (xsum-zero n (λ j h. refl))
xsum_swap (suc m) n f =
    ap (λ (x : ℕ). x ⊕ xsum n (λ j. f m j)) (xsum_swap m n f) ∙ sym (xsum-⊕ n (λ j. xsum m (λ i. f i j)) (λ j. f m j))

pub xsum_add : (m n : ℕ) (f : ℕ → ℕ) → xsum (m + n) f ≡ xsum m f ⊕ xsum n (λ i. f (m + i))
unfolding xsum
xsum_add m zero f = ap (λ (k : ℕ). xsum k f) (add-zero m) ∙ sym (⊕-zero (xsum m f))
xsum_add m (suc n) f =
    ap (λ (k : ℕ). xsum k f) (add-suc m n) ∙ ap (λ (x : ℕ). x ⊕ f (m + n)) (xsum_add m n f)
    ∙ ⊕_assoc (xsum m f) (xsum n (λ i. f (m + i))) (f (m + n))

pub xsum_mul : (m n : ℕ) (f : ℕ → ℕ) → xsum (m * n) f ≡ xsum m (λ i. xsum n (λ j. f (i * n + j)))
unfolding xsum
xsum_mul zero n f = ap (λ (k : ℕ). xsum k f) (zero-mul n)
xsum_mul (suc m) n f =
    ap (λ (k : ℕ). xsum k f) (suc-mul m n) ∙ xsum_add (m * n) n f
    ∙ ap (λ (x : ℕ). x ⊕ xsum n (λ j. f (m * n + j))) (xsum_mul m n f)

pub xsum-byte : (n : ℕ) {f : ℕ → ℕ} → ((i : ℕ) → i < n → f i < 256) → xsum n f < 256
unfolding xsum
xsum-byte zero h = omega arith
xsum-byte (suc n) h = ⊕-byte (xsum-byte n (λ i l. h i (le_step l))) (h n (lt-suc_self n))

-- The sum of a function that is zero everywhere but at k.
pub xsum-only : (n k : ℕ) {f : ℕ → ℕ} → k < n → ((i : ℕ) → i < n → (i ≡ k → ⊥) → f i ≡ 0) → xsum n f ≡ f k
unfolding xsum
xsum-only zero k l h = absurd (not-suc-le-zero l)
xsum-only (suc n) k {f} l h =
    ⊎_elim
    (λ e. ap (λ (x : ℕ). x ⊕ f n) (xsum-zero n (λ i m. h i (le_step m) (λ q. omega arith))) ∙ zero-⊕ (f n) ∙ ap f (sym e))
    (λ m.
    ap₂ (λ (x y : ℕ). x ⊕ y) (xsum-only n k m (λ i w. h i (le_step w))) (h n (lt-suc_self n) (λ q. omega arith))
    ∙ ⊕-zero (f k))
    (eq-or-lt_of_le (le_of_suc-le-suc l))

pub gate-⊕ : (b : Bool) (x y : ℕ) → gate b (x ⊕ y) ≡ gate b x ⊕ gate b y
unfolding gate
gate-⊕ true x y = refl
gate-⊕ false x y = sym (⊕_self 0)

pub gate-zero : (b : Bool) → gate b 0 ≡ 0
unfolding gate
gate-zero true = refl
gate-zero false = refl

pub gate_split : (b : Bool) (v : ℕ) → v ≡ gate (not b) v ⊕ gate b v
unfolding gate
gate_split true v = sym (zero-⊕ v)
gate_split false v = sym (⊕-zero v)

pub bit-gate : (b : Bool) → bit b ≡ gate b 1
unfolding bit gate
bit-gate true = refl
bit-gate false = refl

pub gate-small : (b : Bool) {v : ℕ} → v < 256 → gate b v < 256
unfolding gate
gate-small true h = h
gate-small false h = omega arith

-- A value behind two tests, in either order; and one where just one of two tests holds.
pub gate_and : (a b : Bool) (v : ℕ) → gate a (gate b v) ≡ gate (b && a) v
unfolding gate
gate_and true true v = refl
gate_and true false v = refl
gate_and false true v = refl
gate_and false false v = refl

pub gate_swap : (a b : Bool) (v : ℕ) → gate a (gate b v) ≡ gate b (gate a v)
unfolding gate
gate_swap true b v = refl
gate_swap false b v = sym (gate-zero b)

pub gate-one : (a b : Bool) (v : ℕ) → gate (cond a (not b) b) v ≡ gate a v ⊕ gate b v
unfolding gate
gate-one true true v = sym (⊕_self v)
gate-one true false v = sym (⊕-zero v)
gate-one false b v = sym (zero-⊕ (gate b v))

pub gate_or : (a b : Bool) (v : ℕ) → (a ≡ true → b ≡ false) → gate (a || b) v ≡ gate a v ⊕ gate b v
unfolding gate
gate_or true b v h = sym (ap (λ (t : Bool). v ⊕ gate t v) (h refl) ∙ ⊕-zero v)
gate_or false b v h = sym (zero-⊕ (gate b v))

pub gate-xsum : (b : Bool) (n : ℕ) (f : ℕ → ℕ) → gate b (xsum n f) ≡ xsum n (λ i. gate b (f i))
unfolding gate
gate-xsum true n f = refl
gate-xsum false n f = sym (xsum-zero n (λ i l. refl))

-- The one number that is k.
pub xsum_at : (n k : ℕ) → k < n → (f : ℕ → ℕ) → xsum n (λ i. gate (eqb i k) (f i)) ≡ f k
unfolding gate
xsum_at n k l f =
    xsum-only n k l (λ i w q. ap (λ (b : Bool). gate b (f i)) (ne_eqb i k q)) ∙ ap (λ (b : Bool). gate b (f k)) (eq-eqb k k refl)

-- ---- tests of every number
pub every_ext : (n : ℕ) {t u : ℕ → Bool} → ((i : ℕ) → i < n → t i ≡ u i) → every n t ≡ every n u
unfolding every
every_ext zero h = refl
every_ext (suc n) h = ap₂ (λ (x y : Bool). x && y) (every_ext n (λ i l. h i (le_step l))) (h n (lt-suc_self n))

pub every_at : (n : ℕ) (t : ℕ → Bool) → every n t ≡ true → (i : ℕ) → i < n → t i ≡ true
unfolding every
every_at zero t e = λ i h. absurd (not-suc-le-zero h)
every_at (suc n) t e =
    below_suc (λ (i : ℕ). t i ≡ true) n (every_at n t (and_left (every n t) (t n) e)) (and_right (every n t) (t n) e)

pub every_all : (n : ℕ) {t : ℕ → Bool} → ((i : ℕ) → i < n → t i ≡ true) → every n t ≡ true
unfolding every
every_all zero h = refl
every_all (suc n) h = and_both (every_all n (λ i l. h i (le_step l))) (h n (lt-suc_self n))

-- Where the test does not hold of every number, it fails at one.
pub every_fails : (n : ℕ) (t : ℕ → Bool) → every n t ≡ false → (i : ℕ) × (i < n) × (t i ≡ false)
unfolding every
every_fails zero t e = absurd (true≢false e)
every_fails (suc n) t e = go (every n t) refl (every_fails n t)
  where
    go : (b : Bool) → every n t ≡ b → (every n t ≡ false → (i : ℕ) × (i < n) × (t i ≡ false)) → (i : ℕ) × (i < suc n) × (t i ≡ false)
    go true q up = (n, lt-suc_self n, ap (λ (b : Bool). b && t n) (sym q) ∙ e)
    go false q up = let (i, l, h) = up q in (i, le_step l, h)

pub every-not : (n : ℕ) (t : ℕ → Bool) (i : ℕ) → i < n → t i ≡ false → every n t ≡ false
every-not n t i h e = by_cases (λ (b : Bool). b ≡ false) (every n t) (λ a. sym (every_at n t a i h) ∙ e) (λ a. refl)

pub every_add : (m n : ℕ) (t : ℕ → Bool) → every (m + n) t ≡ (every m t && every n (λ i. t (m + i)))
unfolding every
every_add m zero t = ap (λ (k : ℕ). every k t) (add-zero m) ∙ sym (and-true (every m t))
every_add m (suc n) t =
    ap (λ (k : ℕ). every k t) (add-suc m n) ∙ ap (λ (x : Bool). x && t (m + n)) (every_add m n t)
    ∙ and_assoc (every m t) (every n (λ i. t (m + i))) (t (m + n))

-- Two tests of every number are one.
pub every_and : (n : ℕ) (t u : ℕ → Bool) → (every n t && every n u) ≡ every n (λ i. t i && u i)
every_and n t u =
    same_test (every n t && every n u) (every n (λ i. t i && u i))
    (λ h. every_all n (λ i l. and_both (every_at n t (and_left (every n t) _ h) i l) (every_at n u (and_right (every n t) _ h) i l)))
    (λ h.
    and_both (every_all n (λ i l. and_left (t i) _ (every_at n (λ i. t i && u i) h i l)))
    (every_all n (λ i l. and_right (t i) _ (every_at n (λ i. t i && u i) h i l))))

-- ---- counts
pub bit_le : (b : Bool) → bit b ≤ 1
unfolding bit
bit_le true = omega arith
bit_le false = omega arith

-- A test that holds where another does has at least its bit.
pub bit_mono : (a b : Bool) → (a ≡ true → b ≡ true) → bit a ≤ bit b
unfolding bit
bit_mono true b h = let e = ap bit (h refl) in omega arith
bit_mono false b h = zero-le

pub bit-zero : (b : Bool) → bit b ≡ 0 → b ≡ false
unfolding bit
bit-zero true e = absurd (omega arith)
bit-zero false e = refl

pub count_ext : (n : ℕ) {t u : ℕ → Bool} → ((i : ℕ) → i < n → t i ≡ u i) → count n t ≡ count n u
unfolding count
count_ext zero h = refl
count_ext (suc n) h = ap₂ (λ (x : ℕ) (b : Bool). x + bit b) (count_ext n (λ i l. h i (le_step l))) (h n (lt-suc_self n))

pub count_le : (n : ℕ) (t : ℕ → Bool) → count n t ≤ n
unfolding count
count_le zero t = zero-le
count_le (suc n) t = let up = count_le n t in let one = bit_le (t n) in omega arith

pub count_mono : (n : ℕ) {t u : ℕ → Bool} → ((i : ℕ) → i < n → t i ≡ true → u i ≡ true) → count n t ≤ count n u
unfolding count
count_mono zero h = zero-le
count_mono (suc n) {t} {u} h =
    let up = count_mono n {t = t} {u = u} (λ i l. h i (le_step l)) in
    let here = bit_mono (t n) (u n) (h n (lt-suc_self n)) in
    omega arith

pub count_none : (n : ℕ) {t : ℕ → Bool} → ((i : ℕ) → i < n → t i ≡ false) → count n t ≡ 0
unfolding count bit
count_none zero h = refl
count_none (suc n) {t} h =
    let up = count_none n {t = t} (λ i l. h i (le_step l)) in
    let here = ap bit (h n (lt-suc_self n)) in
    omega arith

pub count-zero-none : (n : ℕ) (t : ℕ → Bool) → count n t ≡ 0 → (i : ℕ) → i < n → t i ≡ false
unfolding count
count-zero-none zero t e = λ i h. absurd (not-suc-le-zero h)
count-zero-none (suc n) t e =
    below_suc (λ (i : ℕ). t i ≡ false) n (count-zero-none n t (omega arith)) (bit-zero (t n) (omega arith))

pub count-some : (n : ℕ) (t : ℕ → Bool) (i : ℕ) → i < n → t i ≡ true → 0 < count n t
count-some n t i l h = pos_of_ne-zero (λ e. true≢false (sym h ∙ count-zero-none n t e i l))

-- A count that is not zero comes from a number of which the test holds.
pub count_found : (n : ℕ) (t : ℕ → Bool) → 0 < count n t → (i : ℕ) × (i < n) × (t i ≡ true)
unfolding count bit
count_found zero t h = absurd (not-suc-le-zero h)
count_found (suc n) t h = go (t n) refl (count_found n t)
  where
    go : (b : Bool) → t n ≡ b → (0 < count n t → (i : ℕ) × (i < n) × (t i ≡ true)) → (i : ℕ) × (i < suc n) × (t i ≡ true)
    go true e up = (n, lt-suc_self n, e)
    go false e up = let here = ap bit e in let (i, l, k) = up (omega arith) in (i, le_step l, k)

pub count_add : (m n : ℕ) (t : ℕ → Bool) → count (m + n) t ≡ count m t + count n (λ i. t (m + i))
unfolding count
count_add m zero t = ap (λ (k : ℕ). count k t) (add-zero m) ∙ sym (add-zero (count m t))
count_add m (suc n) t =
    let step : count (m + suc n) t ≡ count (m + n) t + bit (t (m + n)) = ap (λ (k : ℕ). count k t) (add-suc m n) in
    let up = count_add m n t in
    omega arith

-- Numbers of which the test fails change no count.
pub count_over : (t : ℕ → Bool) (j k : ℕ) → j ≤ k → ((i : ℕ) → j ≤ i → i < k → t i ≡ false) → count k t ≡ count j t
count_over t j k le none =
    let all : j + (k - j) ≡ k = add-sub_of_le le in
    ap (λ (n : ℕ). count n t) (sym all) ∙ count_add j (k - j) t
    ∙ ap (λ (n : ℕ). count j t + n) (count_none (k - j) (λ i l. none (j + i) (omega arith) (omega arith))) ∙ add-zero (count j t)

-- Where the test fails from m on, it holds of at most m numbers.
pub count_short : (m n : ℕ) (t : ℕ → Bool) → ((i : ℕ) → m ≤ i → i < n → t i ≡ false) → count n t ≤ m
unfolding count bit
count_short m zero t h = zero-le
count_short m (suc n) t h =
    let up = count_short m n t (λ i l w. h i l (le_step w)) in
    let all = count_le n t in
    let one = bit_le (t n) in
    ⊎_elim (λ l. omega arith) (λ l. let none = ap bit (h n l (lt-suc_self n)) in omega arith) (lt_or_le n m)

-- A count from its first number on.
pub count-first : (n : ℕ) (t : ℕ → Bool) → count (suc n) t ≡ bit (t 0) + count n (λ i. t (suc i))
unfolding count
count-first zero t = add_comm 0 (bit (t 0))
count-first (suc n) t = let up = count-first n t in omega arith

-- One number taken out of those that are counted.
pub count-without : (n : ℕ) (t : ℕ → Bool) (i : ℕ) → i < n → t i ≡ true → count n (λ j. t j && not (eqb j i)) + 1 ≡ count n t
unfolding count bit
count-without zero t i l h = absurd (not-suc-le-zero l)
count-without (suc n) t i l h =
    ⊎_elim
    (λ (e : i ≡ n).
    let up : count n (λ j. t j && not (eqb j i)) ≡ count n t =
    count_ext n (λ j w. ap (λ (b : Bool). t j && not b) (ne_eqb j i (λ q. omega arith)) ∙ and-true (t j)) in
    let gone : bit (t n && not (eqb n i)) ≡ 0 =
    ap (λ (b : Bool). bit (t n && not b)) (eq-eqb n i (sym e)) ∙ ap bit (and-false (t n)) in
    let here : bit (t n) ≡ 1 = ap bit (ap t (sym e) ∙ h) in
    omega arith)
    (λ (m : i < n).
    let up = count-without n t i m h in
    let same : bit (t n && not (eqb n i)) ≡ bit (t n) =
    ap (λ (b : Bool). bit (t n && not b)) (ne_eqb n i (λ q. omega arith)) ∙ ap bit (and-true (t n)) in
    omega arith)
    (eq-or-lt_of_le (le_of_suc-le-suc l))

-- Where each number counts in one of two tests as it does in a third, the two count as many as the third.
pub count_split : (n : ℕ) (t u v : ℕ → Bool) → ((i : ℕ) → i < n → bit (u i) + bit (v i) ≡ bit (t i)) → count n u + count n v ≡ count n t
unfolding count
count_split zero t u v h = refl
count_split (suc n) t u v h =
    let up = count_split n t u v (λ i l. h i (le_step l)) in
    let here = h n (lt-suc_self n) in
    omega arith

-- A test that holds of the same numbers but one counts one less, if that one counted.
pub count_but : (n : ℕ) (t u : ℕ → Bool) (i : ℕ) → i < n → u i ≡ false → ((j : ℕ) → (j ≡ i → ⊥) → u j ≡ t j) → count n u + bit (t i) ≡ count n t
unfolding bit
count_but n t u i l out same = go (t i) refl
  where
    go : (b : Bool) → t i ≡ b → count n u + bit b ≡ count n t
    go true h =
        let one = count-without n t i l h in
        let rest : count n u ≡ count n (λ j. t j && not (eqb j i)) =
        count_ext n (λ j w.
        by_cases (λ (b : Bool). u j ≡ (t j && not b)) (eqb j i) (λ q. ap u (eqb-true j i q) ∙ out ∙ sym (and-false (t j)))
        (λ q. same j (eqb-false j i q) ∙ sym (and-true (t j)))) in
        omega arith
    go false h =
        add-zero (count n u)
        ∙ count_ext n (λ j w.
        by_cases (λ (b : Bool). u j ≡ t j) (eqb j i) (λ q. ap u (eqb-true j i q) ∙ out ∙ sym (ap t (eqb-true j i q) ∙ h))
        (λ q. same j (eqb-false j i q)))

-- ---- the lowest number of which a test holds
pub record Lowest (n : ℕ) (t : ℕ → Bool) (k : ℕ) : Type 0 where
  pub within : k ≤ n
  pub none : (i : ℕ) → i < k → t i ≡ false
  pub found : k < n → t k ≡ true

pub lowest_is : (n : ℕ) (t : ℕ → Bool) → Lowest n t (lowest n t)
unfolding lowest
lowest_is zero t = record { within = zero-le; none = λ i h. absurd (not-suc-le-zero h); found = λ h. absurd (not-suc-le-zero h) }
lowest_is (suc n) t = go (t 0) refl (lowest_is n (λ i. t (suc i)))
  where
    go : (b : Bool) → t 0 ≡ b → Lowest n (λ i. t (suc i)) (lowest n (λ i. t (suc i))) → Lowest (suc n) t (cond b 0 (suc (lowest n (λ i. t (suc i)))))
    go true e r = record { within = zero-le; none = λ i h. absurd (not-suc-le-zero h); found = λ h. e }
    go false e r =
        record {
          within = omega arith;
          none = elim [ zero ↦ (λ h. e) | suc i ↦ (λ h. r.none i (le_of_suc-le-suc h)) ];
          found = λ h. r.found (le_of_suc-le-suc h);
        }

pub lowest_ext : (n : ℕ) {t u : ℕ → Bool} → ((i : ℕ) → i < n → t i ≡ u i) → lowest n t ≡ lowest n u
unfolding lowest
lowest_ext zero h = refl
lowest_ext (suc n) h =
    ap₂ (λ (b : Bool) (k : ℕ). cond b 0 (suc k)) (h 0 (zero-lt-suc n)) (lowest_ext n (λ i l. h (suc i) (suc-le-suc l)))

pub lowest_unique : (n : ℕ) (t : ℕ → Bool) (j k : ℕ) → Lowest n t j → Lowest n t k → j ≡ k
lowest_unique n t j k p q =
    let below : ¬ (j < k) = clash j k p q in
    let above : ¬ (k < j) = clash k j q p in
    omega arith
  where
    clash : (j k : ℕ) → Lowest n t j → Lowest n t k → j < k → ⊥
    clash j k p q l = true≢false (sym (p.found (lt_of_lt_of_le l q.within)) ∙ q.none j l)

-- A search from 0 up ends at the first number of which the test holds, or at n.
pub lowest_found : (n : ℕ) (t : ℕ → Bool) (k : ℕ) → k < n → ((i : ℕ) → i < k → t i ≡ false) → t k ≡ true → k ≡ lowest n t
lowest_found n t k l none found =
    lowest_unique n t k (lowest n t) (record { within = le_of_lt l; none = none; found = λ h. found }) (lowest_is n t)

pub lowest-end : (n : ℕ) (t : ℕ → Bool) → ((i : ℕ) → i < n → t i ≡ false) → n ≡ lowest n t
lowest-end n t none =
    lowest_unique n t n (lowest n t) (record { within = le_refl n; none = none; found = λ h. absurd (lt_irrefl n h) }) (lowest_is n t)

-- ---- lists
pub length-tabulate : (n : ℕ) (f : ℕ → ℕ) → length (tabulate n f) ≡ n
unfolding tabulate
length-tabulate zero f = refl
length-tabulate (suc n) f = ap suc (length-tabulate n (λ i. f (suc i)))

pub get_d_tabulate : (n : ℕ) (f : ℕ → ℕ) (i : ℕ) → i < n → get_or (tabulate n f) i 0 ≡ f i
unfolding tabulate
get_d_tabulate zero f i h = absurd (not-suc-le-zero h)
get_d_tabulate (suc n) f zero h = refl
get_d_tabulate (suc n) f (suc i) h = get_d_tabulate n (λ i. f (suc i)) i (le_of_suc-le-suc h)

-- A list is the table of its own elements.
pub list_is : (l : List ℕ) (n : ℕ) (f : ℕ → ℕ) → length l ≡ n → ((i : ℕ) → i < n → get_or l i 0 ≡ f i) → l ≡ tabulate n f
list_is l n f e h =
    ext_get_or 0 l (tabulate n f) (e ∙ sym (length-tabulate n f))
    (λ i b. let c : i < n = omega arith in h i c ∙ sym (get_d_tabulate n f i c))

-- The first k elements of a list made of two, and the others.
module _ {ℓ} {A : Type ℓ} where
  pub take_append : (k : ℕ) (l m : List A) → take k (l ++ m) ≡ take k l ++ take (k - length l) m
  take_append k [] m = rw (take-nil, sub-zero)
  take_append zero (x ∷ xs) m = rw zero-sub
  take_append (suc k) (x ∷ xs) m = rw suc-sub-suc (ap (◌∷◌ x) (take_append k xs m))

  pub drop_append : (k : ℕ) (l m : List A) → drop k (l ++ m) ≡ drop k l ++ drop (k - length l) m
  drop_append k [] m = rw (drop-nil, sub-zero)
  drop_append zero (x ∷ xs) m = rw zero-sub
  drop_append (suc k) (x ∷ xs) m = rw suc-sub-suc (drop_append k xs m)

-- The same of a list whose elements are mapped.
module _ {ℓ ℓ'} {A : Type ℓ} {B : Type ℓ'} (f : A → B) where
  pub take-map : (k : ℕ) (l : List A) → take k (map f l) ≡ map f (take k l)
  take-map zero l = refl
  take-map (suc k) [] = refl
  take-map (suc k) (x ∷ xs) = ap (◌∷◌ (f x)) (take-map k xs)

  pub drop-map : (k : ℕ) (l : List A) → drop k (map f l) ≡ map f (drop k l)
  drop-map zero l = refl
  drop-map (suc k) [] = refl
  drop-map (suc k) (x ∷ xs) = drop-map k xs
