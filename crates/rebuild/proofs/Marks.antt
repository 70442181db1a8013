-- Repaired sectors marked as present, position by position.
-- Assumes nothing.
use mathlib.Core.Path.{◌≡◌, refl, sym, ◌∙◌, ap}
use mathlib.Core.List.{List, [], ◌∷◌, ◌++◌, map, map-append}
use Prim.Native.Nat.{ℕ, zero, suc, ◌+◌, ◌*◌, ◌<◌}
use native.Mathlib.Nat.{le_of_suc-le-suc, not-suc-le-zero}
use native.Mathlib.Numerals.{add-one}
use native.Mathlib.Omega.{arith}
use lib.ListN.{length, set, length-append, length-map, get_or-append}
use lib.Seq.{get_or-append-add}
use Rattle.stripes.specs.Repair.{Entry, disk_of, map_after}
use Rattle.stripes.specs.Sectors.{sector_at, sector_entry, rising}
use Rattle.stripes.proofs.Fold.{below_suc}
use Rattle.stripes.proofs.Split.{map_after_append}
use Rattle.entries.specs.Listed.{entry_disk, listed}
use Rattle.entries.proofs.Words.{listed-length, listed_at}
use Rattle.rebuild.specs.Marked.{Within}

-- ---- at one position
module _ (n p : ℕ) (m list : List ℕ) where
  -- The first k repairs of the list, as repairs of sectors.
  abbrev pub sectorList : ℕ → List Entry
  sectorList k = map (sector_entry n p) (listed list k)

  pub marks_none : m ≡ map_after m (sectorList 0)
  unfolding listed map_after
  marks_none = refl

  -- The sector of the disk that entry k names, after those before it.
  pub marks_next : (k : ℕ) (l : List ℕ) → l ≡ map_after m (sectorList k) → (d : ℕ) → d ≡ entry_disk list k
      → set l (d * n + p) 0 ≡ map_after m (sectorList (k + 1))
  unfolding listed map_after sector_at sector_entry
  marks_next k l e d disk_is =
      rw (e, disk_is, add-one k, map-append (sector_entry n p) (listed list k)) (sym (map_after_append m (sectorList k) _))

-- ---- positions in rising order

-- Where a map has places for two lists one after the other, it has them for each.
within_first : (bound : ℕ) (v w : List Entry) → Within bound (v ++ w) → Within bound v
unfolding disk_of
within_first bound v w all i l =
    let long = length-append v w in
    let here = all i (omega arith) in
    let same : disk_of (v ++ w) i ≡ disk_of v i = ap (λ (r : Entry). r.disk) (get_or-append v w (record { disk = 0; stripe = 0 }) i l) in
    omega arith

within_second : (bound : ℕ) (v w : List Entry) → Within bound (v ++ w) → Within bound w
unfolding disk_of
within_second bound v w all i l =
    let long = length-append v w in
    let here = all (length v + i) (omega arith) in
    let same : disk_of (v ++ w) (length v + i) ≡ disk_of w i =
    ap (λ (r : Entry). r.disk) (get_or-append-add v w i (record { disk = 0; stripe = 0 })) in
    omega arith

sector-disks : (n p : ℕ) (w : List Entry) (i : ℕ) → i < length w → disk_of (map (sector_entry n p) w) i ≡ sector_at n p (disk_of w i)
unfolding disk_of sector_entry
sector-disks n p [] i l = absurd (not-suc-le-zero l)
sector-disks n p (r ∷ rs) zero l = refl
sector-disks n p (r ∷ rs) (suc i) l = sector-disks n p rs i (le_of_suc-le-suc l)

module _ (n : ℕ) (g : ℕ → List Entry) where
  -- So it has them for the list of each position.
  pub within_at : (bound k : ℕ) → Within bound (rising n g k)
      → (p : ℕ) → p < k → (i : ℕ) → i < length (g p) → sector_at n p (disk_of (g p) i) < bound
  unfolding rising
  within_at bound zero all p l = absurd (not-suc-le-zero l)
  within_at bound (suc k) all p l =
      let own = map (sector_entry n k) (g k) in
      below_suc (λ p. (i : ℕ) → i < length (g p) → sector_at n p (disk_of (g p) i) < bound) k
      (within_at bound k (within_first bound (rising n g k) own all))
      (λ i h.
      let long = length-map (g k) (sector_entry n k) in
      let here = within_second bound (rising n g k) own all i (omega arith) in
      rw (sector-disks n k (g k) i h) at here)
      p l

  module _ (m : List ℕ) where
    pub positions-none : m ≡ map_after m (rising n g 0)
    unfolding rising map_after
    positions-none = refl

    -- The list of position p, after those of the positions before it.
    pub positions-next : (p : ℕ) (l : List ℕ) → l ≡ map_after m (rising n g p)
        → map_after l (map (sector_entry n p) (g p)) ≡ map_after m (rising n g (p + 1))
    unfolding rising
    positions-next p l e = rw (e, add-one p) (sym (map_after_append m (rising n g p) _))

-- The disks that a list in words names.
pub named : (list : List ℕ) (w : List Entry) (count : ℕ) → listed list count ≡ w
    → (k : ℕ) → k < count → (k < length w) × (disk_of w k ≡ entry_disk list k)
unfolding disk_of
named list w count e k l =
    let long = sym (ap length e) ∙ listed-length list count in (
      omega arith,
      ap (λ (v : List Entry). disk_of v k) (sym e) ∙ ap (λ (r : Entry). r.disk) (listed_at list count k l (record { disk = 0; stripe = 0 })),
    )
