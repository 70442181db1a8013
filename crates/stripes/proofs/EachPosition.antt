-- Each position is an array by itself: repairs, and what is saved, leave at each what they leave where they are made there alone.
-- Assumes nothing.
use mathlib.Core.Path.{◌≡◌, refl, sym, ◌∙◌, ap, ap₂}
use mathlib.Core.Bool.{Bool, cond}
use mathlib.Core.List.{List, [], ◌∷◌, map}
use Prim.Native.Nat.{ℕ, zero, suc, ◌+◌, ◌*◌, ◌≤◌, ◌<◌}
use native.Mathlib.Nat.{not-suc-le-zero}
use native.Mathlib.Omega.{arith}
use lib.Dec.{eqb}
use lib.ListN.{length}
use Rattle.stripes.specs.System.{Layout, TwoStripes, whole, byte}
use Rattle.stripes.specs.Repair.{Entry, repaired, rebuilt}
use Rattle.stripes.specs.Undetermined.{determined, saved_byte, saved}
use Rattle.stripes.specs.Sectors.{sector_at, sectored, at_position, stretch_at, sector_entry, rising}
use Rattle.stripes.specs.declared.Stretch.{Stretch}
use Rattle.stripes.proofs.Fold.{below_suc}
use Rattle.stripes.proofs.Bytes.{whole-inside, byte-changed}
use Rattle.stripes.proofs.Split.{rebuilt_append}
use Rattle.stripes.proofs.Restore.{length-repaired, length-rebuilt, byte-repaired, others_same, rebuilt_outside}
use Rattle.stripes.proofs.Sectors.{sector-below, byte-sector}
use Rattle.stripes.proofs.SectorBytes.{size-sectors, stretch_inside, position_apart, rebuilt-sectors}
use Rattle.stripes.proofs.SectorParts.{determined-sector, saved_byte-sector}

-- Two arrays have the same bytes in a stretch, on each of N disks.
abbrev Same : (N : ℕ) → Stretch → (a b : List ℕ) → Type 0
Same N x a b = (d : ℕ) → d < N → (q : ℕ) → q < x.width → byte x a d q ≡ byte x b d q

-- Then the same repairs leave them so.
module _ (L : Layout) (x : Stretch) (inside : x.offset + x.width ≤ x.block) where
  same-repaired : (a b : List ℕ) → length a ≡ L.disks * x.block → length b ≡ L.disks * x.block → (r : Entry)
      → Same L.disks x a b → Same L.disks x (repaired L x a r) (repaired L x b r)
  same-repaired a b first second r same d l q h =
      byte-repaired L x inside a first r d q l h
      ∙ ap₂ (cond (eqb d r.disk)) (others_same L x a b r q (λ i below o n. same i below q h)) (same d l q h)
      ∙ sym (byte-repaired L x inside b second r d q l h)

  same-rebuilt : (a b : List ℕ) → length a ≡ L.disks * x.block → length b ≡ L.disks * x.block → (v : List Entry)
      → Same L.disks x a b → Same L.disks x (rebuilt L x a v) (rebuilt L x b v)
  unfolding rebuilt
  same-rebuilt a b first second [] same = same
  same-rebuilt a b first second (r ∷ rs) same =
      same-rebuilt (repaired L x a r) (repaired L x b r) (length-repaired L x a r ∙ first) (length-repaired L x b r ∙ second) rs
      (same-repaired a b first second r same)

module _ (n w B : ℕ) (cut : B ≡ n * w) (L : Layout) (a : List ℕ) (sized : length a ≡ L.disks * B) (g : ℕ → List Entry) where
  -- The array after the repairs of the first k positions.
  abbrev up_to : ℕ → List ℕ
  up_to k = rebuilt (sectored n L) (whole w) a (rising n g k)

  long : (k : ℕ) → length (up_to k) ≡ L.disks * B
  long k = length-rebuilt (sectored n L) (whole w) a (rising n g k) ∙ sized

  -- Those of the next position are made on its stretch.
  pub rebuilt-next : (k : ℕ) → k < n → up_to (suc k) ≡ rebuilt L (stretch_at B w k) (up_to k) (g k)
  unfolding rising
  rebuilt-next k place =
      rebuilt_append (sectored n L) (whole w) a (rising n g k) (map (sector_entry n k) (g k))
      ∙ sym (rebuilt-sectors n w B cut L place (up_to k) (long k) (g k))

  -- They leave the other positions.
  elsewhere : (k p : ℕ) → k < n → p < n → (p ≡ k → ⊥) → Same L.disks (stretch_at B w p) (up_to (suc k)) (up_to k)
  unfolding byte
  elsewhere k p place other differ d l q h =
      ap (λ (b : List ℕ). byte (stretch_at B w p) b d q) (rebuilt-next k place)
      ∙ rebuilt_outside L (stretch_at B w k) (up_to k) (g k) (d * B + (p * w + q)) (position_apart n w B cut place other differ d q h)

  later : (k p : ℕ) → k ≤ p → p < n → Same L.disks (stretch_at B w p) (up_to k) a
  unfolding rising rebuilt
  later zero p behind place d l q h = refl
  later (suc k) p behind place d l q h =
      elsewhere k p (omega arith) place (λ same. omega arith) d l q h ∙ later k p (omega arith) place d l q h

  -- So each has what the repairs there alone leave.
  pub rebuilt-alone : (k : ℕ) → k ≤ n → (p : ℕ) → p < k → Same L.disks (stretch_at B w p) (up_to k) (rebuilt L (stretch_at B w p) a (g p))
  rebuilt-alone zero few p l = absurd (not-suc-le-zero l)
  rebuilt-alone (suc k) few p l =
      below_suc (λ p. Same L.disks (stretch_at B w p) (up_to (suc k)) (rebuilt L (stretch_at B w p) a (g p))) k
      (λ p below d i q h.
      elsewhere k p few (omega arith) (λ same. omega arith) d i q h ∙ rebuilt-alone k (omega arith) p below d i q h)
      (λ d i q h.
      ap (λ (b : List ℕ). byte (stretch_at B w k) b d q) (rebuilt-next k few)
      ∙ same-rebuilt L (stretch_at B w k) (stretch_inside n w B cut few) (up_to k) a (long k) sized (g k) (later k k (omega arith) few) d i q h)
      p l

-- What is saved.
module _ (n w B : ℕ) (cut : B ≡ n * w) (L : Layout) (two : TwoStripes L) (a : List ℕ) (sized : length a ≡ L.disks * B) (e : ℕ → Bool) where
  pub saved-alone : (p : ℕ) → p < n
      → Same L.disks (stretch_at B w p) (saved (sectored n L) (whole w) a e) (saved L (stretch_at B w p) a (at_position n p e))
  unfolding saved whole sectored
  saved-alone p place d l q h =
      sym (byte-sector n w B cut (saved (sectored n L) (whole w) a e) p d q)
      ∙ byte-changed (whole w) (whole-inside w) (L.disks * n) a (sized ∙ size-sectors n w B cut L) _ (sector_at n p d) q (sector-below n place l) h
      ∙ (rw (determined-sector n place L two e d l, saved_byte-sector n place L two w B cut e a q d l, byte-sector n w B cut a p d q) refl)
      ∙ sym (byte-changed (stretch_at B w p) (stretch_inside n w B cut place) L.disks a sized _ d q l h)
