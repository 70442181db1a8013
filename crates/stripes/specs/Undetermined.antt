-- Which erased disks the survivors determine, and how (paper 02, P3).
-- Assumes nothing.
use Rattle.std.specs.Prelude.{Bool, cond, not, ◌&&◌, List, ℕ, eqb}
use Rattle.stripes.specs.Fold.{xsum, gate, every, count}
use Rattle.stripes.specs.System.{Layout, lower, byte, sum_over, changed, higher}
use Rattle.stripes.specs.Erased.{without}
use Rattle.stripes.specs.Joined.{joined}
use Rattle.stripes.specs.declared.Stretch.{Stretch}

-- ---- Which

-- The other erased disks join the two stripes of an erased disk (paper 02: the card is lost). Where every disk lies on two stripes,
-- this holds exactly if two codewords agree on every survivor and differ in the disk.
unfoldable pub undetermined : Layout → (e : ℕ → Bool) → ℕ → Bool
undetermined L e d = e d && joined L (without e d) (lower L d) (higher L d)

-- The disk is erased, and not so.
unfoldable pub determined : Layout → (e : ℕ → Bool) → ℕ → Bool
determined L e d = e d && not (undetermined L e d)

-- The number of undetermined disks (paper 02: of lost cards).
unfoldable pub lost : Layout → (e : ℕ → Bool) → ℕ
lost L e = count L.disks (undetermined L e)

-- ---- How

-- The sum of the survivors of stripe s at place p.
unfoldable pub survivor_sum : Layout → Stretch → (e : ℕ → Bool) → List ℕ → (p s : ℕ) → ℕ
survivor_sum L x e a p s = sum_over L (λ d. gate (not (e d)) (byte x a d p)) s

-- The sum of these sums over the stripes that disks of c join with stripe t. A survivor on two of them counts twice: not at all.
unfoldable pub part_sum : Layout → Stretch → (e c : ℕ → Bool) → List ℕ → (p t : ℕ) → ℕ
part_sum L x e c a p t = xsum L.stripe_bound (λ s. gate (joined L c s t) (survivor_sum L x e a p s))

-- It is zero for each part that the erased disks make, at each place: a test of the survivors.
unfoldable pub parts_cancel : Layout → Stretch → (e : ℕ → Bool) → List ℕ → Bool
parts_cancel L x e a = every L.stripe_bound (λ t. every x.width (λ p. eqb (part_sum L x e e a p t) 0))

-- The byte of a determined disk: the sum over the stripes that the other erased disks join with its lower one.
unfoldable pub saved_byte : Layout → Stretch → (e : ℕ → Bool) → List ℕ → (d p : ℕ) → ℕ
saved_byte L x e a d p = part_sum L x e (without e d) a p (lower L d)

-- The array with the determined disks saved.
unfoldable pub saved : Layout → Stretch → List ℕ → (e : ℕ → Bool) → List ℕ
saved L x a e = changed x a (λ d p. cond (determined L e d) (saved_byte L x e a d p) (byte x a d p))
