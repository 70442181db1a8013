-- The stripes of a set, one after another.
-- Assumes nothing.
use Rattle.std.specs.Prelude.{◌≡◌, true, not, ◌&&◌, ℕ, ◌<◌, eqb, Option, MatchOption}
use Rattle.reach.specs.Reached.{has, word_stripes}

-- A set without one of its stripes: the stripe is in it and is one that a word has room for, all others are left, and the word is smaller.
pub record Without (set s rest : ℕ) : Type 0 where
  pub small : s < word_stripes
  pub member : has set s ≡ true
  pub others : (t : ℕ) → has rest t ≡ (has set t && not (eqb t s))
  pub less : rest < set

-- One of the stripes is taken out of a set, or there is none.
abbrev pub Takes : (set : ℕ) → Option ℕ → (rest : ℕ) → Type 0
Takes set taken rest = MatchOption taken ((set ≡ 0) × (rest ≡ 0)) (λ s. Without set s rest)
