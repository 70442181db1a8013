-- Erased disks, and the survivors beside them.
-- Assumes nothing.
use Rattle.std.specs.Prelude.{◌≡◌, Bool, true, false, not, ◌&&◌, ◌↔◌, List, ℕ, ◌<◌, eqb, ltb, get_or}
use Rattle.stripes.specs.Fold.{count}
use Rattle.stripes.specs.System.{Layout, byte, Codeword}
use Rattle.stripes.specs.declared.Stretch.{Stretch}

-- The erased disks (paper 01: marked cards) are a test on disk numbers. A map has the byte 1 for each of them.
unfoldable pub erasures : List ℕ → ℕ → Bool
erasures m d = eqb (get_or m d 0) 1

-- The same without disk d.
unfoldable pub without : (ℕ → Bool) → ℕ → ℕ → Bool
without e d i = e i && not (eqb i d)

-- Those below number k, and those above disk d.
unfoldable pub below : ℕ → (ℕ → Bool) → ℕ → Bool
below k e d = ltb d k && e d

unfoldable pub above : ℕ → (ℕ → Bool) → ℕ → Bool
above d e i = ltb d i && e i

-- Two arrays have the same bytes on every disk that is not erased: on the survivors.
abbrev pub Agree : Layout → Stretch → (ℕ → Bool) → (a b : List ℕ) → Type 0
Agree L x e a b = (d : ℕ) → d < L.disks → e d ≡ false → (p : ℕ) → p < x.width → byte x a d p ≡ byte x b d p

-- The survivors of an array belong to a codeword (paper 01: to a sealed array).
abbrev pub Belongs : Layout → Stretch → (ℕ → Bool) → List ℕ → Type 0
Belongs L x e a = (b : List ℕ) × Codeword L x b × Agree L x e a b

-- Two different codewords agree on every survivor.
abbrev pub Ambiguous : Layout → Stretch → (ℕ → Bool) → Type 0
Ambiguous L x e = (a : List ℕ) × (b : List ℕ) × Codeword L x a × Codeword L x b × Agree L x e a b × (a ≡ b → ⊥)

-- Two codewords agree on every survivor and differ in disk d (paper 02, P3: the card is lost).
abbrev pub AmbiguousIn : Layout → Stretch → (ℕ → Bool) → ℕ → Type 0
AmbiguousIn L x e d =
    (a : List ℕ) × (b : List ℕ) × Codeword L x a × Codeword L x b × Agree L x e a b
    × ((p : ℕ) × (p < x.width) × (byte x a d p ≡ byte x b d p → ⊥))

-- There are n such disks.
abbrev pub LostCount : Layout → Stretch → (ℕ → Bool) → (n : ℕ) → Type 0
LostCount L x e n = (t : ℕ → Bool) × (n ≡ count L.disks t) × ((d : ℕ) → d < L.disks → (t d ≡ true) ↔ AmbiguousIn L x e d)
