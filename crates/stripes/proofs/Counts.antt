-- Counts of different numbers.
-- Assumes nothing.
use mathlib.Core.Path.{◌≡◌, refl, ◌∙◌, ap}
use mathlib.Core.Bool.{Bool, true, false}
use mathlib.Core.Logic.{◌⊎◌, ⊎_elim}
use Prim.Native.Nat.{ℕ, zero, suc, ◌≤◌, ◌<◌, zero-le, ◌+◌}
use native.Mathlib.Nat.{lt-suc_self, le_step, ne_of_lt}
use native.Mathlib.Numerals.{add-one}
use native.Mathlib.Omega.{arith}
use Rattle.stripes.specs.Fold.{count, bit}
use Rattle.stripes.specs.Erased.{without}
use Rattle.stripes.proofs.Fold.{by_cases, count_le, count_none, count-without}
use Rattle.stripes.proofs.Peel.{without_other, without_sub, without-apart}

-- Where different numbers of a test go to different numbers of another, it holds of no more.
pub count_injects : (m n : ℕ) (t u : ℕ → Bool) (f : ℕ → ℕ) → ((i : ℕ) → i < m → t i ≡ true → (f i < n) × (u (f i) ≡ true))
    → ((i j : ℕ) → i < m → j < m → t i ≡ true → t j ≡ true → f i ≡ f j → i ≡ j) → count m t ≤ count n u
unfolding count bit without
count_injects zero n t u f there same = zero-le
count_injects (suc m) n t u f there same =
    by_cases (λ (b : Bool). t m ≡ b → count m t + bit b ≤ count n u) (t m)
    (λ q h.
    let less : count m t ≤ count n (without u (f m)) =
    count_injects m n t (without u (f m)) f
    (λ i l k.
    let (w, a) = there i (le_step l) k in
    (w, without_other u (f m) (f i) (λ e. ne_of_lt l (same i m (le_step l) (lt-suc_self m) k h e)) ∙ a))
    (λ i j l k. same i j (le_step l) (le_step k)) in
    let (w, a) = there m (lt-suc_self m) h in
    let one = count-without n u (f m) w a in
    omega arith)
    (λ q h.
    let less = count_injects m n t u f (λ i l. there i (le_step l)) (λ i j l k. same i j (le_step l) (le_step k)) in
    omega arith)
    refl

pub count_all : (m : ℕ) → count m (λ i. true) ≡ m
unfolding count bit
count_all zero = refl
count_all (suc m) = ap (λ (n : ℕ). n + 1) (count_all m) ∙ add-one m

-- Different numbers below n of which a test holds are no more than it counts.
pub count-different : (m n : ℕ) (t : ℕ → Bool) (f : ℕ → ℕ) → ((i : ℕ) → i < m → f i < n) → ((i : ℕ) → i < m → t (f i) ≡ true)
    → ((i j : ℕ) → i < m → j < m → f i ≡ f j → i ≡ j) → m ≤ count n t
count-different m n t f within holds same =
    let all = count_injects m n (λ i. true) t f (λ i l k. (within i l, holds i l)) (λ i j l w p q. same i j l w) in
    let each = count_all m in
    omega arith

-- Different numbers below n are at most n.
pub different-below : (m n : ℕ) (f : ℕ → ℕ) → ((i : ℕ) → i < m → f i < n)
    → ((i j : ℕ) → i < m → j < m → f i ≡ f j → i ≡ j) → m ≤ n
different-below m n f within same =
    let all = count-different m n (λ i. true) f within (λ i l. refl) same in
    let most = count_le n (λ i. true) in
    omega arith

-- A test that holds of two numbers and of no third counts two.
pub count_pair : (n : ℕ) (t : ℕ → Bool) (i j : ℕ) → i < n → j < n → (j ≡ i → ⊥) → t i ≡ true → t j ≡ true
    → ((k : ℕ) → k < n → t k ≡ true → (k ≡ i) ⊎ (k ≡ j)) → count n t ≡ 2
unfolding without
count_pair n t i j l m d p q only =
    let one = count-without n t i l p in
    let none = count-without n (without t i) j m (without_other t i j d ∙ q) in
    let rest : count n (without (without t i) j) ≡ 0 =
    count_none n (λ k w. by_cases (λ (b : Bool). b ≡ false) (without (without t i) j k) (λ e. absurd (third k w e)) (λ e. refl)) in
    omega arith
  where
    third : (k : ℕ) → k < n → without (without t i) j k ≡ true → ⊥
    third k w e =
        let inner : without t i k ≡ true = without_sub (without t i) j k e in
        ⊎_elim (without-apart t i k inner) (without-apart (without t i) j k e) (only k w (without_sub t i k inner))
