-- A stripe system: which stripes each disk lies on, and what it is for the disks' blocks to be a codeword.
-- Everything is said over a stretch of the block, so that a part of a block can be an array by itself.
-- Assumes nothing.
use Rattle.std.specs.Prelude.{◌≡◌, Bool, true, false, cond, ◌&&◌, ◌||◌, List, ◌∷◌, [], ℕ, ◌+◌, ◌*◌, ◌-◌, ◌/◌, ◌%◌, ◌<◌, eqb, leb, ltb, length, get_or}
use Rattle.stripes.specs.Fold.{xsum, gate, every, tabulate}
use Rattle.stripes.specs.declared.Stretch.{Stretch}

-- Disks (paper 01: cards) and stripes (paper 01: lines), both numbered from 0. `through d` lists the stripes of disk d.
-- Sums are taken over the stripes below `stripe_bound`; a number there that no disk lists is an empty stripe.
pub record Layout : Type 0 where
  pub disks : ℕ
  pub stripe_bound : ℕ
  pub through : ℕ → List ℕ

-- The number stands in the list.
unfoldable pub among : ℕ → List ℕ → Bool
among s [] = false
among s (t ∷ ts) = eqb s t || among s ts

-- Disk d lies on stripe s.
unfoldable pub on : Layout → ℕ → ℕ → Bool
on L d s = among s (L.through d)

-- The first stripe of a list, and the first that is not s.
unfoldable pub first_of : List ℕ → ℕ
first_of [] = 0
first_of (s ∷ ss) = s

unfoldable pub other_than : ℕ → List ℕ → ℕ
other_than s [] = 0
other_than s (t ∷ ts) = cond (eqb t s) (other_than s ts) t

-- Of a disk on two stripes, the one that is listed first, and the other.
abbrev pub lower : Layout → ℕ → ℕ
lower L d = first_of (L.through d)

abbrev pub higher : Layout → ℕ → ℕ
higher L d = other_than (lower L d) (L.through d)

-- A list of numbers rises.
abbrev pub Rising : List ℕ → Type 0
Rising [] = Unit {0}
Rising (s ∷ ss) = ((t : ℕ) → among t ss ≡ true → s < t) × Rising ss

-- The stripes of every disk are listed in rising order and lie below the bound.
pub record Ordered (L : Layout) : Type 0 where
  pub rising : (d : ℕ) → d < L.disks → Rising (L.through d)
  pub bounded : (d s : ℕ) → d < L.disks → on L d s ≡ true → s < L.stripe_bound

-- Every disk lies on just two stripes, the lower one listed first, and both below the bound.
pub record TwoStripes (L : Layout) : Type 0 where
  pub low : ℕ → ℕ
  pub high : ℕ → ℕ
  pub two : (d : ℕ) → d < L.disks → L.through d ≡ low d ∷ high d ∷ []
  pub order : (d : ℕ) → d < L.disks → low d < high d
  pub bound : (d : ℕ) → d < L.disks → high d < L.stripe_bound

-- The whole of a block of B bytes.
unfoldable pub whole : ℕ → Stretch
whole B = record { block = B; offset = 0; width = B }

-- The byte of disk d at place p of the stretch. The array holds the blocks in the order of the disks.
unfoldable pub byte : Stretch → List ℕ → ℕ → ℕ → ℕ
byte x a d p = get_or a (d * x.block + (x.offset + p)) 0

-- The exclusive or over stripe s of what f gives for each disk.
unfoldable pub sum_over : Layout → (ℕ → ℕ) → ℕ → ℕ
sum_over L f s = xsum L.disks (λ d. gate (on L d s) (f d))

-- The sum of stripe s at place p.
unfoldable pub stripe_sum : Layout → Stretch → List ℕ → ℕ → ℕ → ℕ
stripe_sum L x a s p = sum_over L (λ d. byte x a d p) s

-- The sum of stripe s is zero at every place: a test.
unfoldable pub sums_to_zero : Layout → Stretch → List ℕ → ℕ → Bool
sums_to_zero L x a s = every x.width (λ p. eqb (stripe_sum L x a s p) 0)

-- Every stripe's sum is zero at every place: a test.
unfoldable pub consistent : Layout → Stretch → List ℕ → Bool
consistent L x a = every L.stripe_bound (sums_to_zero L x a)

-- A list of bytes.
abbrev pub Bytes : List ℕ → Type 0
Bytes a = (i : ℕ) → i < length a → get_or a i 0 < 256

-- Paper 01's sealed array: bytes, of the right length, with every stripe's sum zero at every place.
pub record Codeword (L : Layout) (x : Stretch) (a : List ℕ) : Type 0 where
  pub sized : length a ≡ L.disks * x.block
  pub bytes : Bytes a
  pub sums : (s : ℕ) → s < L.stripe_bound → (p : ℕ) → p < x.width → stripe_sum L x a s p ≡ 0

-- The array with f d p as the byte of each disk d at each place p of the stretch; the bytes outside the stretch stay.
unfoldable pub changed : Stretch → List ℕ → (ℕ → ℕ → ℕ) → List ℕ
changed x a f =
    tabulate (length a) (λ i.
    cond (leb x.offset (i % x.block) && ltb (i % x.block) (x.offset + x.width))
    (f (i / x.block) (i % x.block - x.offset))
    (get_or a i 0))
