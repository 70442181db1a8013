-- Repairs allowed at their turn: what the entries of such a list name, and what restore answers and leaves behind at each of its two ends.
-- Assumes nothing.
use mathlib.Core.Path.{◌≡◌, sym, ◌∙◌, ap, subst}
use mathlib.Core.Bool.{Bool, true, false}
use mathlib.Core.List.{List}
use Prim.Native.Nat.{ℕ, zero, suc, ◌*◌, ◌/◌, ◌≤◌, ◌<◌}
use native.Mathlib.Nat.{mul_assoc, not-suc-le-zero}
use native.Mathlib.Omega.{arith}
use lib.ListN.{length}
use Rattle.stripes.specs.System.{Layout, on, whole, consistent}
use Rattle.stripes.specs.Repair.{Entry, allowed, Peels, after, rebuilt, zeroed, all_allowed}
use Rattle.stripes.specs.Sectors.{sectored}
use Rattle.stripes.specs.declared.Stretch.{Stretch}
use Rattle.model.specs.Grid.{layout_of, disks, array_bytes, size_fits, map_bytes, map_fits}
use Rattle.model.specs.declared.Size.{Size}
use Rattle.stripes.proofs.Fold.{and_left, and_right, below_suc}
use Rattle.stripes.proofs.Bytes.{whole-inside}
use Rattle.stripes.proofs.Peel.{Allowed, allowed_is}
use Rattle.stripes.proofs.Clears.{peels_all_allowed, all_allowed_snoc}
use Rattle.stripes.proofs.Restore.{length-rebuilt, zeroed-rebuilt}
use Rattle.stripes.proofs.SectorBytes.{size-sectors, consistent-sectors}
use Rattle.model.proofs.Grid.{size_fits_lem, block_fits_lem, bytes-bound, layout-disks, map-length, sector-cut}
use Rattle.entries.specs.Listed.{entry_disk, entry_stripe, listed}
use Rattle.sums.specs.Held.{Held}
use Rattle.restore.specs.Restored.{Sectored, fits, restored}

-- Where the entries of a list are repairs allowed at their turn, each of them is.
entry_allowed : (L : Layout) (e : ℕ → Bool) (list : List ℕ) (count : ℕ) → all_allowed L e (listed list count) ≡ true
    → (k : ℕ) → k < count → allowed L (after e (listed list k)) (entry_disk list k) (entry_stripe list k) ≡ true
unfolding listed
entry_allowed L e list zero all k h = absurd (not-suc-le-zero h)
entry_allowed L e list (suc n) all k h =
    let both = sym (all_allowed_snoc L e (listed list n) _) ∙ all in
    below_suc (λ (k : ℕ). allowed L (after e (listed list k)) (entry_disk list k) (entry_stripe list k) ≡ true) n
    (entry_allowed L e list n (and_left (all_allowed L e (listed list n)) _ both))
    (and_right (all_allowed L e (listed list n)) _ both) k h

module _ (z : Size) (base : ℕ) (e : ℕ → Bool) (list : List ℕ) (count : ℕ) (peels : Peels (layout_of z base) e (listed list count)) where
  -- Each entry names a disk and a stripe of it.
  turn : (k : ℕ) → k < count → Allowed (layout_of z base) (after e (listed list k)) (entry_disk list k) (entry_stripe list k)
  turn k h = allowed_is _ _ _ _ (entry_allowed (layout_of z base) e list count (peels_all_allowed (layout_of z base) e _ peels) k h)

  pub on-disks : (k : ℕ) → k < count → entry_disk list k < disks z
  on-disks k h = subst (λ (n : ℕ). entry_disk list k < n) (layout-disks z base) (turn k h).disk

  pub on_stripes : (k : ℕ) → k < count → on (layout_of z base) (entry_disk list k) (entry_stripe list k) ≡ true
  on_stripes k h = (turn k h).here

  -- After them the array holds what it held.
  pub still_held : (x : Stretch) (a : List ℕ) → Held z x a → (b : List ℕ) → b ≡ rebuilt (layout_of z base) x a (listed list count) → Held z x b
  still_held x a held b made =
      record {
        inside = held.inside;
        block = held.block;
        sized = ap length made ∙ length-rebuilt (layout_of z base) x a (listed list count) ∙ held.sized;
      }

-- ---- after the repairs of sectors
module _ (z : Size) (base B w : ℕ) (a : List ℕ) (held : Sectored z B w a) (e : ℕ → Bool) (v : List Entry)
    (peels : Peels (sectored (B / w) (layout_of z base)) e v)
    (b : List ℕ) (made : b ≡ rebuilt (sectored (B / w) (layout_of z base)) (whole w) a v) where
  pub still_sized : length b ≡ length a
  still_sized = ap length made ∙ length-rebuilt (sectored (B / w) (layout_of z base)) (whole w) a v

  -- The array has the sectors of a map.
  pub map-sized : (m : List ℕ) → map_fits (map_bytes z (B / w)) m ≡ true → length b ≡ length m * w
  unfolding map_bytes
  map-sized m mapped =
      still_sized ∙ held.sized ∙ ap (λ (k : ℕ). disks z * k) (sector-cut B w held.sector) ∙ sym (mul_assoc (disks z) (B / w) w)
      ∙ ap (λ (n : ℕ). n * w) (sym (map-length (disks z * (B / w)) m mapped))

  pub few_bytes : size_fits z ≡ true → length b ≤ 1048576
  unfolding array_bytes
  few_bytes size =
      let all = still_sized ∙ held.sized in
      let most = bytes-bound z (size_fits_lem z size) B (block_fits_lem B held.block) in
      omega arith

  -- The test of whole blocks is that of the sectors.
  fits-is : fits (sectored (B / w) (layout_of z base)) (whole w) a v ≡ consistent (layout_of z base) (whole B) b
  unfolding fits
  fits-is =
      ap (consistent (sectored (B / w) (layout_of z base)) (whole w)) (sym made)
      ∙ consistent-sectors (B / w) w B (sector-cut B w held.sector) (layout_of z base) b

  -- All sums are zero: the array is restored.
  pub all_restored : consistent (layout_of z base) (whole B) b ≡ true
      → (true ≡ fits (sectored (B / w) (layout_of z base)) (whole w) a v)
      × (b ≡ restored (sectored (B / w) (layout_of z base)) (whole w) a e v)
  unfolding restored
  all_restored sealed = let c = fits-is ∙ sealed in (sym c, made ∙ rw c)

  -- Survivors that contradict each other: nothing is left of the repairs.
  pub contradicted : consistent (layout_of z base) (whole B) b ≡ false → (l : List ℕ) → l ≡ zeroed (whole w) b e
      → (false ≡ fits (sectored (B / w) (layout_of z base)) (whole w) a v)
      × (l ≡ restored (sectored (B / w) (layout_of z base)) (whole w) a e v)
  unfolding restored whole
  contradicted some l zeros =
      let c = fits-is ∙ some in
      let sized = held.sized ∙ ap (λ (n : ℕ). n * B) (sym (layout-disks z base))
      ∙ size-sectors (B / w) w B (sector-cut B w held.sector) (layout_of z base) in (
        sym c,
        zeros ∙ ap (λ (l : List ℕ). zeroed (whole w) l e) made
            ∙ zeroed-rebuilt (sectored (B / w) (layout_of z base)) (whole w) (whole-inside w) e a sized v peels ∙ rw c,
      )
