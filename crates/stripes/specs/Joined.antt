-- Stripes joined by disks, and the parts that a stripe system falls into.
-- Assumes nothing.
use Rattle.std.specs.Prelude.{Bool, cond, not, ℕ, zero, suc, eqb}
use Rattle.stripes.specs.System.{Layout, lower, higher}

-- Each part is named by one of its stripes. The parts of stripes a and b become one, which has the name of a's. Every name is
-- computed once only.
unfoldable pub united : (a b : ℕ) → (named : ℕ → ℕ) → ℕ → ℕ
united a b named =
    let new : ℕ = named a in
    let old : ℕ = named b in
    λ s. let own : ℕ = named s in cond (eqb own old) new own

-- The part of each stripe after the first k disks: at first every stripe is a part by itself, and each disk of c makes one part of
-- the two that it lies on.
unfoldable pub part_by : Layout → (c : ℕ → Bool) → (k : ℕ) → ℕ → ℕ
part_by L c zero = λ s. s
part_by L c (suc k) = cond (c k) (united (lower L k) (higher L k) (part_by L c k)) (part_by L c k)

unfoldable pub part : Layout → (c : ℕ → Bool) → ℕ → ℕ
part L c = part_by L c L.disks

-- Two stripes are joined by disks of c: they are in one part.
unfoldable pub joined : Layout → (c : ℕ → Bool) → (s t : ℕ) → Bool
joined L c s t = eqb (part L c s) (part L c t)

-- Just one of the two stripes of disk d is among `some`.
unfoldable pub crosses : Layout → (some : ℕ → Bool) → ℕ → Bool
crosses L some d = cond (some (lower L d)) (not (some (higher L d))) (some (higher L d))
