-- What saving one disk does to an array.
-- Assumes nothing.
use Rattle.std.specs.Prelude.{Bool, cond, ◌&&◌, List, ℕ, eqb}
use Rattle.stripes.specs.System.{Layout, byte, changed}
use Rattle.stripes.specs.Undetermined.{saved_byte}
use Rattle.stripes.specs.declared.Stretch.{Stretch}

-- The array with disk d saved where r says so.
unfoldable pub saved_if : Layout → Stretch → List ℕ → (e : ℕ → Bool) → (d : ℕ) → (r : Bool) → List ℕ
saved_if L x a e d r = changed x a (λ i p. cond (eqb i d && r) (saved_byte L x e a d p) (byte x a i p))
