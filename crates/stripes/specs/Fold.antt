-- Sums, tests and lists over the numbers below a bound: what the other definitions are written with.
-- Assumes nothing.
use Rattle.std.specs.Prelude.{Bool, true, false, cond, ◌&&◌, List, ◌∷◌, [], ℕ, zero, suc, ◌+◌, min}
use Rattle.std.specs.Int.Bits.{bit_xor}

-- The exclusive or, bit by bit.
infixl 65 ◌⊕◌
unfoldable pub ◌⊕◌ : ℕ → ℕ → ℕ
a ⊕ b = bit_xor a b

-- The exclusive or of f 0, f 1, .. , f (n - 1).
unfoldable pub xsum : ℕ → (ℕ → ℕ) → ℕ
xsum zero f = 0
xsum (suc n) f = xsum n f ⊕ f n

-- The value where the test holds, else nothing: zero.
unfoldable pub gate : Bool → ℕ → ℕ
gate true v = v
gate false v = 0

-- The test holds of every number below n.
unfoldable pub every : ℕ → (ℕ → Bool) → Bool
every zero t = true
every (suc n) t = every n t && t n

-- 1 where the test holds, else 0.
unfoldable pub bit : Bool → ℕ
bit true = 1
bit false = 0

-- How many numbers below n the test holds of.
unfoldable pub count : ℕ → (ℕ → Bool) → ℕ
count zero t = 0
count (suc n) t = count n t + bit (t n)

-- The sum f 0 + f 1 + .. + f (n - 1), and the least of these numbers and m.
unfoldable pub total : ℕ → (ℕ → ℕ) → ℕ
total zero f = 0
total (suc n) f = total n f + f n

unfoldable pub least : ℕ → (ℕ → ℕ) → (m : ℕ) → ℕ
least zero f m = m
least (suc n) f m = min (least n f m) (f n)

-- The lowest number below n of which the test holds, or n where there is none.
unfoldable pub lowest : ℕ → (ℕ → Bool) → ℕ
lowest zero t = 0
lowest (suc n) t = cond (t 0) 0 (suc (lowest n (λ i. t (suc i))))

-- The list f 0, f 1, .. , f (n - 1).
unfoldable pub tabulate : ℕ → (ℕ → ℕ) → List ℕ
tabulate zero f = []
tabulate (suc n) f = f 0 ∷ tabulate n (λ i. f (suc i))
