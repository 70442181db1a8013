-- Sets of stripes in one word, and the stripes that are reached from one of them step by step.
-- Assumes nothing.
use Rattle.std.specs.Prelude.{Bool, ◌&&◌, ◌||◌, List, ℕ, zero, suc, ◌/◌, ◌%◌, ◌^◌, eqb, ltb, get_or}
use Rattle.stripes.specs.Fold.{count, lowest}

-- A word stands for the set of the places of its binary digits that are 1.
unfoldable pub has : (set t : ℕ) → Bool
has set t = eqb (set / 2 ^ t % 2) 1

-- The test holds of some number below n.
unfoldable pub some : ℕ → (ℕ → Bool) → Bool
some n t = ltb 0 (count n t)

-- A number t is reached from s by at most k steps, each of them from a number below n to one that is next to it.
unfoldable pub reached : (next : ℕ → ℕ → Bool) → (n s k t : ℕ) → Bool
reached next n s zero t = eqb t s
reached next n s (suc k) t = reached next n s k t || some n (λ x. reached next n s k x && next x t)

-- How many steps that takes, or m + 1 where m are not enough.
unfoldable pub steps_to : (next : ℕ → ℕ → Bool) → (n s m t : ℕ) → ℕ
steps_to next n s m t = lowest (suc m) (λ k. reached next n s k t)

-- A table of words has for each number the set of those next to it.
unfoldable pub next_in : List ℕ → (s t : ℕ) → Bool
next_in near s t = has (get_or near s 0) t

-- The stripes that one word has room for.
abbrev pub word_stripes : ℕ
word_stripes = 64
