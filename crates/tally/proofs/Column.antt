-- The laws of one position of a map: its bytes, its erased disks, and the bounds of a map that has positions.
-- Assumes nothing.
use mathlib.Core.Path.{◌≡◌, sym, ◌∙◌, ap, ap₂, subst, fun_ext}
use mathlib.Core.Bool.{true, false}
use mathlib.Core.Logic.{⊎_elim}
use mathlib.Core.List.{List}
use Prim.Native.Nat.{ℕ, ◌*◌, ◌≤◌, ◌<◌}
use native.Mathlib.Omega.{arith}
use borrow.Author.Tests.{eq-eqb}
use lib.Dec.{eqb, leb}
use lib.ListN.{length, get_or}
use Rattle.stripes.specs.Erased.{erasures}
use Rattle.stripes.specs.Sectors.{sector_at, at_position}
use Rattle.stripes.proofs.Fold.{and_right, and_both, lt_or_le, every_at, every_all, length-tabulate, get_d_tabulate, list_is}
use Rattle.stripes.proofs.Erased.{past_end}
use Rattle.stripes.proofs.Sectors.{sector-below, below-sector, one_position}
use Rattle.model.specs.Grid.{disks, map_bytes, map_fits}
use Rattle.model.specs.declared.Size.{Size}
use Rattle.model.proofs.Grid.{size_fits_lem, disks-bound, map-length, one_byte, sectors-bound, map-bound}
use Rattle.tally.specs.Column.{column_of, Positioned}

-- ---- the bytes of a position
module _ (N n p : ℕ) (m : List ℕ) where
  pub column-length : length (column_of N n p m) ≡ N
  unfolding column_of
  column-length = length-tabulate N _

  pub column_at : (d : ℕ) → d < N → get_or (column_of N n p m) d 0 ≡ get_or m (sector_at n p d) 0
  unfolding column_of
  column_at = get_d_tabulate N _

  -- A list that has these bytes is the position.
  pub column_is : (l : List ℕ) → length l ≡ N → ((d : ℕ) → d < N → get_or l d 0 ≡ get_or m (sector_at n p d) 0) → l ≡ column_of N n p m
  unfolding column_of
  column_is l = list_is l N _

module _ (N n : ℕ) {p : ℕ} (place : p < n) (m : List ℕ) where
  -- No disk behind the last is erased.
  pub position_end : length m ≡ N * n → (d : ℕ) → N ≤ d → at_position n p (erasures m) d ≡ false
  unfolding at_position
  position_end long d l =
      past_end m (sector_at n p d)
      (⊎_elim (λ h. absurd (let inside = below-sector n place {k = d} {N = N} h in omega arith)) (λ h. omega arith)
      (lt_or_le (sector_at n p d) (N * n)))

  -- The erased disks of the position.
  pub column-erased : length m ≡ N * n → erasures (column_of N n p m) ≡ at_position n p (erasures m)
  unfolding erasures at_position
  column-erased long =
      fun_ext (λ d.
      ⊎_elim (λ l. ap (λ (x : ℕ). eqb x 1) (column_at N n p m d l))
      (λ l. past_end (column_of N n p m) d (let same = column-length N n p m in omega arith) ∙ sym (position_end long d l)) (lt_or_le d N))

  -- They are a map of the disks.
  pub column_fits : map_fits (N * n) m ≡ true → map_fits N (column_of N n p m) ≡ true
  unfolding map_fits
  column_fits fits =
      let same = column-length N n p m in
      let long = map-length (N * n) m fits in
      and_both (eq-eqb _ _ same)
      (every_all (length (column_of N n p m)) (λ d l.
      let inside : d < N = omega arith in
      let below = sector-below n place inside in
      ap (λ (x : ℕ). leb x 1) (column_at N n p m d inside)
      ∙ every_at (length m) (λ d. leb (get_or m d 0) 1) (and_right (eqb (length m) (N * n)) _ fits) (sector_at n p d) (omega arith)))

-- ---- a map that has positions
module _ {z : Size} {n p : ℕ} {m : List ℕ} (h : Positioned z n p m) where
  -- Its bounds.
  pub sectors-few : n ≤ 4096
  sectors-few = (sectors-bound n h.sectors).1

  pub disks-few : disks z ≤ 256
  disks-few = disks-bound z (size_fits_lem z h.size)

  pub bytes-few : disks z * n ≤ 1048576
  unfolding map_bytes
  bytes-few = map-bound z n h.size h.sectors

  pub map-long : length m ≡ disks z * n
  unfolding map_bytes
  map-long = map-length (map_bytes z n) m h.map

  -- The byte of a disk at the position.
  pub byte_inside : {d : ℕ} → d < disks z → sector_at n p d < length m
  byte_inside l = let long = map-long in let below = sector-below n h.place l in omega arith

  -- The bytes of the position are a map of the disks, with the erased disks of the position.
  pub position_fits : map_fits (disks z) (column_of (disks z) n p m) ≡ true
  unfolding map_bytes
  position_fits = column_fits (disks z) n h.place m h.map

  pub position_erased : erasures (column_of (disks z) n p m) ≡ at_position n p (erasures m)
  position_erased = column-erased (disks z) n h.place m map-long

  pub position_inside : (d : ℕ) → disks z ≤ d → at_position n p (erasures m) d ≡ false
  position_inside = position_end (disks z) n h.place m map-long

  -- With one sector a block they are the map itself.
  module _ (one : n ≡ 1) where
    pub one-fits : map_fits (disks z) m ≡ true
    one-fits = subst (λ (k : ℕ). map_fits k m ≡ true) (ap (map_bytes z) one ∙ one_byte z) h.map

    pub one-erased : erasures m ≡ at_position n p (erasures m)
    one-erased =
        let first = h.place in
        sym (one_position (erasures m)) ∙ ap₂ (λ (k q : ℕ). at_position k q (erasures m)) (sym one) (omega arith)
