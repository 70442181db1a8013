-- Sums over a part by a table of parts: what `cut` sums is the sum over the stripes that are joined.
-- Assumes nothing.
use mathlib.Core.Path.{◌≡◌, sym, ◌∙◌, ap, ap₂}
use mathlib.Core.Bool.{Bool, cond, not, ◌&&◌}
use mathlib.Core.List.{List}
use Prim.Native.Nat.{ℕ, ◌<◌}
use lib.Dec.{eqb}
use lib.ListN.{get_or}
use Rattle.stripes.specs.Fold.{gate}
use Rattle.stripes.specs.System.{Layout, TwoStripes, lower, higher, byte}
use Rattle.stripes.specs.Joined.{joined, part, crosses}
use Rattle.stripes.specs.Undetermined.{part_sum}
use Rattle.stripes.specs.declared.Stretch.{Stretch}
use Rattle.stripes.proofs.Fold.{xsum_ext}
use Rattle.stripes.proofs.Joined.{lower-bound, higher-bound}
use Rattle.stripes.proofs.Undetermined.{part_cut}
use Rattle.parts.specs.Parted.{Parted}
use Rattle.sums.specs.Cut.{in_part, cut_sum}

-- The name of a stripe's part is that of the stripes that are joined with it.
pub in_part_lem : {L : Layout} {c : ℕ → Bool} {parts : List ℕ} → Parted L c L.disks parts → (t : ℕ) → t < L.stripe_bound
    → (s : ℕ) → s < L.stripe_bound → in_part parts (get_or parts t 0) s ≡ joined L c s t
unfolding joined part
in_part_lem p t k s h = ap₂ eqb (p.named s h) (p.named t k)

-- The sum over the stripes that have a name is that over the stripes that are joined with t, if these have it.
module _ {L : Layout} (two : TwoStripes L) (x : Stretch) (e c : ℕ → Bool) (parts : List ℕ) (name t : ℕ)
    (is : (s : ℕ) → s < L.stripe_bound → in_part parts name s ≡ joined L c s t) where
  pub cut_is : (a : List ℕ) (q : ℕ) → cut_sum L x e (in_part parts name) a q ≡ part_sum L x e c a q t
  unfolding cut_sum crosses
  cut_is a q =
      xsum_ext L.disks
      (λ d l.
      ap (λ (b : Bool). gate (not (e d) && b) (byte x a d q))
      (ap₂ (λ (u v : Bool). cond u (not v) v) (is (lower L d) (lower-bound L two d l)) (is (higher L d) (higher-bound L two d l))))
      ∙ sym (part_cut L two x e c a q t)
