-- What the tables of all erased disks say of one of them.
-- Assumes nothing.
use mathlib.Core.Path.{◌≡◌, sym, ◌∙◌, ap, ap₂}
use mathlib.Core.Bool.{Bool, true, false, not, ◌&&◌}
use mathlib.Core.List.{List}
use Prim.Native.Nat.{ℕ, ◌<◌}
use lib.Bits.{bit_or}
use lib.Dec.{eqb}
use lib.ListN.{get_or}
use Rattle.stripes.specs.Fold.{◌⊕◌, bit}
use Rattle.stripes.specs.System.{Layout, lower}
use Rattle.stripes.specs.Erased.{without}
use Rattle.stripes.specs.Joined.{part, joined}
use Rattle.stripes.specs.Undetermined.{undetermined}
use Rattle.tally.proofs.Counted.{Crossed}
use Rattle.parts.specs.Parted.{Parted}
use Rattle.parts.specs.Ways.{between, closed_by, Walked}
use Rattle.parts.proofs.Bridges.{way_of, test_undetermined, test_side}
use Rattle.parts.proofs.Parted.{lower_crossed, higher_crossed}

module _ {L : Layout} {e : ℕ → Bool} {d low high : ℕ} (here : e d ≡ true) (x : Crossed L d low high) {ways : List ℕ}
    (w : Walked L e L.disks ways) where
  read-links : get_or ways low 0 ⊕ get_or ways high 0 ≡ between L (way_of L e) d
  read-links =
      ap₂ (λ (a b : ℕ). a ⊕ b) (w.walked low x.low_bound ∙ ap (way_of L e) (sym (lower_crossed x)))
      (w.walked high x.high_bound ∙ ap (way_of L e) (sym (higher_crossed x)))

  -- Whether it is undetermined,
  pub read_undetermined : {closed : ℕ} → closed ≡ closed_by L e L.disks
      → eqb (bit_or closed (get_or ways low 0 ⊕ get_or ways high 0)) closed ≡ undetermined L e d
  read_undetermined is = rw (is, read-links) (test_undetermined L e d x.disk here)

  -- and which stripes are on its side.
  pub read_side : {parts : List ℕ} → Parted L e L.disks parts → undetermined L e d ≡ false → (s : ℕ) → s < L.stripe_bound →
      let way = get_or ways s 0 ⊕ get_or ways low 0 in
      let link = get_or ways low 0 ⊕ get_or ways high 0 in
      bit (eqb (get_or parts s 0) (get_or parts low 0) && not (eqb (bit_or way link) way)) ≡ bit (joined L (without e d) s (lower L d))
  unfolding part
  read_side p off s l =
      rw (read-links, w.walked s l, w.walked low x.low_bound, p.named s l, p.named low x.low_bound, ← lower_crossed x)
      (ap bit (test_side L e d x.disk here off s))
