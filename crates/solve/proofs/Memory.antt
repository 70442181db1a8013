-- The planner's working memory: what is loaded into it, and that it stays as large as it is.
-- Assumes nothing.
use mathlib.Core.Path.{◌≡◌, sym, ◌∙◌, ap, subst}
use mathlib.Core.Bool.{Bool, true, false}
use mathlib.Core.List.{List}
use Prim.Native.Nat.{ℕ, ◌-◌, ◌≤◌}
use native.Mathlib.Omega.{arith}
use lib.ListN.{length}
use Rattle.stripes.specs.Fold.{count}
use Rattle.stripes.specs.System.{Layout}
use Rattle.stripes.specs.Erased.{erasures}
use Rattle.stripes.specs.Repair.{repairs, residual, residual_count}
use Rattle.model.specs.Grid.{disks, layout_of, map_fits}
use Rattle.model.specs.declared.Size.{Size}
use Rattle.stripes.proofs.Peel.{repairs-left}
use Rattle.stripes.proofs.Erased.{past_end}
use Rattle.model.proofs.Grid.{layout-disks, map-length}
use Rattle.layout.specs.Stripe.{Numbered}
use Rattle.layout.proofs.Numbers.{map-few}
use Rattle.entries.specs.Listed.{listed}
use Rattle.tally.specs.Tally.{Table}
use Rattle.solve.specs.Memory.{Room, Peeled}

-- A map has a byte for each disk, and no other disk is erased in it.
module _ (z : Size) (base : ℕ) (m : List ℕ) (fits : map_fits (disks z) m ≡ true) where
  pub map-disks : length m ≡ (layout_of z base).disks
  map-disks = map-length (disks z) m fits ∙ sym (layout-disks z base)

  pub loaded_inside : (work : List ℕ) → erasures work ≡ erasures m → (d : ℕ) → disks z ≤ d → erasures work d ≡ false
  loaded_inside work e d l =
      let long = map-length (disks z) m fits in
      ap (λ (c : ℕ → Bool). c d) e ∙ past_end m d (omega arith)

-- Of the disks that are loaded the repairs take some and leave the rest.
module _ (z : Size) (base : ℕ) (c : ℕ → Bool) {erased made : ℕ} (all : erased ≡ count (disks z) c) (number : made ≡ length (repairs (layout_of z base) c)) where
  left_over : (made ≤ erased) × (erased - made ≡ residual_count (layout_of z base) c)
  left_over =
      let sum = repairs-left (layout_of z base) c in
      let same = ap (λ (n : ℕ). count n c) (layout-disks z base) in
      (omega arith, omega arith)

  pub made_some : made ≤ erased
  made_some = left_over.0

  pub peeled : {e : ℕ → Bool} → c ≡ e → {work stripes list : List ℕ} → listed list made ≡ repairs (layout_of z base) c
      → erasures work ≡ residual (layout_of z base) c → Table (layout_of z base) work stripes
      → Peeled (layout_of z base) e made (erased - made) work stripes list
  peeled same {work} {stripes} {list} entries rest table =
      subst (λ (f : ℕ → Bool). Peeled (layout_of z base) f made (erased - made) work stripes list) same
      (record { number = number; listed = entries; rest = left_over.1; erased = rest; table = table })

-- ---- room

-- The memory that is made is large enough: the working map is as long as the map.
pub room-made : (z : Size) (base : ℕ) → Numbered z base → (m : List ℕ) → map_fits (disks z) m ≡ true → {work stripes counts list : List ℕ}
    → length m ≡ length work → length stripes ≡ 512 → length counts ≡ 64 → 32 ≤ length list → Room (layout_of z base) work stripes counts list
room-made z base n m fits ew es ec room =
    let few = map-few z base n m fits in
    let same = map-disks z base m fits in
    record { disks_fit = omega arith; table_fits = omega arith; stripes_fit = omega arith; list_fits = room }

-- Other memory of the same size has the same room.
pub same-room : {L : Layout} {w s c l w' s' c' l' : List ℕ} → Room L w s c l
    → length w' ≡ length w → length s' ≡ length s → length c' ≡ length c → length l' ≡ length l → Room L w' s' c' l'
same-room room ew es ec el =
    let a = room.disks_fit in
    let b = room.table_fits in
    let c = room.stripes_fit in
    let d = room.list_fits in
    record { disks_fit = omega arith; table_fits = omega arith; stripes_fit = omega arith; list_fits = omega arith }
