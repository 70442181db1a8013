-- Lines of text.
-- Assumes nothing.
use Rattle.std.specs.Prelude.{List, [], ◌∷◌, ◌++◌, ℕ}
use Rattle.model.specs.Listing.{decimal}

-- A word and a number.
unfoldable pub word_line : List ℕ → ℕ → List ℕ
word_line word n = word ++ decimal n ++ 10 ∷ []

-- Two numbers, with a space between them.
unfoldable pub pair_line : ℕ → ℕ → List ℕ
pair_line a b = decimal a ++ 32 ∷ decimal b ++ 10 ∷ []
