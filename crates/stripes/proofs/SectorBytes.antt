-- Arrays of blocks that are cut into sectors: what is done to the stretch of one position is done to the sectors there, and sums,
-- codewords and repairs are the same.
-- Assumes nothing.
use mathlib.Core.Path.{◌≡◌, refl, sym, ◌∙◌, ap, ap₂, subst}
use mathlib.Core.Bool.{Bool, false, cond, not, and-false}
use mathlib.Core.Logic.{◌↔◌, ⊎_elim}
use mathlib.Core.List.{List, [], ◌∷◌, map}
use Prim.Native.Nat.{ℕ, ◌+◌, ◌*◌, ◌%◌, ◌≤◌, ◌<◌}
use native.Mathlib.Nat.{mul_assoc}
use native.Mathlib.Decide.{ℕ_discrete}
use native.Mathlib.Omega.{arith}
use borrow.Author.Tests.{ne_eqb, lt-leb, le-ltb}
use lib.Arith.{digits_mod, digits_lt}
use lib.Dec.{eqb, leb}
use lib.ListN.{length}
use Rattle.stripes.specs.Fold.{gate}
use Rattle.stripes.specs.System.{Layout, whole, byte, stripe_sum, consistent, Codeword, changed}
use Rattle.stripes.specs.Erased.{Agree}
use Rattle.stripes.specs.Repair.{Entry, sum_of_others, repaired, rebuilt}
use Rattle.stripes.specs.Sectors.{sector_at, sectored, at_position, stretch_at, sector_entry}
use Rattle.stripes.proofs.Fold.{same_test, lt_or_le}
use Rattle.stripes.proofs.Bytes.{by_block, block-before, whole_equal, whole-inside, covers, length-changed, changed_outside, byte-changed}
use Rattle.stripes.proofs.Sums.{sum_over_ext, consistent_iff}
use Rattle.stripes.proofs.Restore.{length-repaired}
use Rattle.stripes.proofs.Sectors.{sector-below, sector-eqb, sector-apart, by_sector, sum_sectors, byte-sector, byte-block}

-- ---- bytes
module _ (n w B : ℕ) (cut : B ≡ n * w) where
  -- The sectors have as many bytes as the blocks.
  pub size-sectors : (L : Layout) → L.disks * B ≡ (sectored n L).disks * w
  unfolding sectored
  size-sectors L = ap (λ (k : ℕ). L.disks * k) cut ∙ sym (mul_assoc L.disks n w)

  -- The stretch of a position lies within the block.
  pub stretch_inside : {p : ℕ} → p < n → (stretch_at B w p).offset + (stretch_at B w p).width ≤ (stretch_at B w p).block
  stretch_inside place = let before = block-before w place in omega arith

  -- Arrays are equal if their bytes at each position are.
  pub equal_sectors : (L : Layout) (a b : List ℕ) → length a ≡ L.disks * B → length b ≡ L.disks * B
      → ((p : ℕ) → p < n → (d : ℕ) → d < L.disks → (q : ℕ) → q < w → byte (stretch_at B w p) a d q ≡ byte (stretch_at B w p) b d q)
      → a ≡ b
  unfolding sectored
  equal_sectors L a b long size same =
      whole_equal (L.disks * n) w a b (long ∙ size-sectors L) (size ∙ size-sectors L)
      (λ i q l h.
      by_sector n L.disks (λ i. byte (whole w) a i q ≡ byte (whole w) b i q)
      (λ p d place k. byte-sector n w B cut a p d q ∙ same p place d k q h ∙ sym (byte-sector n w B cut b p d q)) i l)

  module _ {p r : ℕ} (place : p < n) (other : r < n) (differ : r ≡ p → ⊥) (d q : ℕ) (h : q < w) where
    -- A byte at one position is not in the stretch of another,
    pub position_apart : covers (stretch_at B w p) ((d * B + (r * w + q)) % B) ≡ false
    unfolding covers
    position_apart =
        let inside = stretch_inside other in
        ap (covers (stretch_at B w p)) (digits_mod d (omega arith))
        ∙ ⊎_elim
        (λ (l : r < p). let before = block-before w l in rw (lt-leb (p * w) (r * w + q) (omega arith)))
        (λ (k : p ≤ r).
        let before : p * w + w ≤ r * w = block-before w (omega arith) in
        rw (le-ltb (r * w + q) (p * w + w) (omega arith)) (and-false (leb (p * w) (r * w + q))))
        (lt_or_le r p)

    -- and what is done to the one leaves the other.
    pub outside : (a : List ℕ) (f : ℕ → ℕ → ℕ)
        → byte (stretch_at B w r) (changed (stretch_at B w p) a f) d q ≡ byte (stretch_at B w r) a d q
    unfolding byte
    outside a f = changed_outside (stretch_at B w p) a f (d * B + (r * w + q)) position_apart

module _ (n w B : ℕ) (cut : B ≡ n * w) (L : Layout) {p : ℕ} (place : p < n) where
  -- What is done to the stretch of a position is done to the sectors there.
  pub changed-sector : (a : List ℕ) → length a ≡ L.disks * B → (f g : ℕ → ℕ → ℕ)
      → ((d : ℕ) → d < L.disks → (q : ℕ) → q < w → g (sector_at n p d) q ≡ f d q)
      → ((r : ℕ) → r < n → (r ≡ p → ⊥) → (d : ℕ) → d < L.disks → (q : ℕ) → q < w
      → g (sector_at n r d) q ≡ byte (whole w) a (sector_at n r d) q)
      → changed (stretch_at B w p) a f ≡ changed (whole w) a g
  unfolding whole sectored
  changed-sector a sized f g at kept =
      equal_sectors n w B cut L (changed (stretch_at B w p) a f) (changed (whole w) a g) (length-changed (stretch_at B w p) a f ∙ sized)
      (length-changed (whole w) a g ∙ sized)
      (λ r other d l q h. go r other d l q h (ℕ_discrete r p) ∙ sym (new r other d l q h))
    where
      new : (r : ℕ) → r < n → (d : ℕ) → d < L.disks → (q : ℕ) → q < w
          → byte (stretch_at B w r) (changed (whole w) a g) d q ≡ g (sector_at n r d) q
      new r other d l q h =
          sym (byte-sector n w B cut (changed (whole w) a g) r d q)
          ∙ byte-changed (whole w) (whole-inside w) (L.disks * n) a (sized ∙ size-sectors n w B cut L) g (sector_at n r d) q
          (sector-below n other l) h

      go : (r : ℕ) → r < n → (d : ℕ) → d < L.disks → (q : ℕ) → q < w → Dec (r ≡ p)
          → byte (stretch_at B w r) (changed (stretch_at B w p) a f) d q ≡ g (sector_at n r d) q
      go r other d l q h (yes e) =
          rw e (byte-changed (stretch_at B w p) (stretch_inside n w B cut place) L.disks a sized f d q l h ∙ sym (at d l q h))
      go r other d l q h (no differ) =
          outside n w B cut place other differ d q h a f ∙ sym (byte-sector n w B cut a r d q) ∙ sym (kept r other differ d l q h)

-- ---- sums
module _ (n w B : ℕ) (cut : B ≡ n * w) (L : Layout) where
  -- The sum of a stripe at a position is that of the stripe over the bytes there.
  pub stripe_sum-sector : (a : List ℕ) {p : ℕ} → p < n → (s q : ℕ)
      → stripe_sum (sectored n L) (whole w) a (sector_at n p s) q ≡ stripe_sum L (whole B) a s (p * w + q)
  unfolding stripe_sum
  stripe_sum-sector a {p} place s q =
      sum_sectors n place L (λ i. byte (whole w) a i q) s
      ∙ sum_over_ext L (λ d l. byte-sector n w B cut a p d q ∙ byte-block n w B cut a p d q) s

  -- So all sums are zero over the sectors just where they are over the blocks.
  sums-sectors : (a : List ℕ)
      → ((s : ℕ) → s < (sectored n L).stripe_bound → (q : ℕ) → q < w → stripe_sum (sectored n L) (whole w) a s q ≡ 0)
      ↔ ((s : ℕ) → s < L.stripe_bound → (q : ℕ) → q < B → stripe_sum L (whole B) a s q ≡ 0)
  unfolding sectored
  sums-sectors a = (
    λ none s l q h.
        by_block n w (λ i. stripe_sum L (whole B) a s i ≡ 0)
        (λ p q place h. sym (stripe_sum-sector a place s q) ∙ none (sector_at n p s) (sector-below n place l) q h) q
        (subst (λ (k : ℕ). q < k) cut h),
    λ none.
        by_sector n L.stripe_bound (λ i. (q : ℕ) → q < w → stripe_sum (sectored n L) (whole w) a i q ≡ 0)
        (λ p s place l q h. stripe_sum-sector a place s q ∙ none s l (p * w + q) (rw cut (digits_lt place h))),
  )

  -- The test says the same of both, and the codewords are the same.
  pub consistent-sectors : (a : List ℕ) → consistent (sectored n L) (whole w) a ≡ consistent L (whole B) a
  unfolding whole
  consistent-sectors a =
      let (all, test) = consistent_iff (sectored n L) (whole w) a in
      let (all₂, test₂) = consistent_iff L (whole B) a in
      let (to, of) = sums-sectors a in
      same_test _ _ (λ c. test₂ (to (all c))) (λ c. test (of (all₂ c)))

  pub codeword_sectors : (b : List ℕ) → Codeword (sectored n L) (whole w) b ↔ Codeword L (whole B) b
  unfolding whole
  codeword_sectors b = (
    λ word. record { sized = word.sized ∙ sym (size-sectors n w B cut L); bytes = word.bytes; sums = (sums-sectors b).0 word.sums },
    λ word. record { sized = word.sized ∙ size-sectors n w B cut L; bytes = word.bytes; sums = (sums-sectors b).1 word.sums },
  )

  -- Two arrays agree on the surviving sectors just where they do so at each position.
  pub agree_sectors : (e : ℕ → Bool) (a b : List ℕ)
      → Agree (sectored n L) (whole w) e a b ↔ ((p : ℕ) → p < n → Agree L (stretch_at B w p) (at_position n p e) a b)
  unfolding whole sectored at_position
  agree_sectors e a b = (
    λ same p place d l fine q h.
        sym (byte-sector n w B cut a p d q) ∙ same (sector_at n p d) (sector-below n place l) fine q h ∙ byte-sector n w B cut b p d q,
    λ same.
        by_sector n L.disks (λ i. e i ≡ false → (q : ℕ) → q < w → byte (whole w) a i q ≡ byte (whole w) b i q)
        (λ p d place l fine q h.
        byte-sector n w B cut a p d q ∙ same p place d l fine q h ∙ sym (byte-sector n w B cut b p d q)),
  )

-- ---- repairs
module _ (n w B : ℕ) (cut : B ≡ n * w) (L : Layout) {p : ℕ} (place : p < n) where
  -- The sum of the others of a repair at a position.
  others-sector : (a : List ℕ) (r : Entry) (q : ℕ)
      → sum_of_others (sectored n L) (whole w) a (sector_entry n p r) q ≡ sum_of_others L (stretch_at B w p) a r q
  unfolding sum_of_others sector_entry
  others-sector a r q =
      sum_sectors n place L (λ i. gate (not (eqb i (sector_at n p r.disk))) (byte (whole w) a i q)) r.stripe
      ∙ sum_over_ext L
      (λ d l. ap₂ (λ (t : Bool) (v : ℕ). gate (not t) v) (sector-eqb n place d r.disk) (byte-sector n w B cut a p d q)) r.stripe

  -- A repair of disks over the stretch of a position is the repair of sectors there, and so for a list of them.
  pub repaired-sector : (a : List ℕ) → length a ≡ L.disks * B → (r : Entry)
      → repaired L (stretch_at B w p) a r ≡ repaired (sectored n L) (whole w) a (sector_entry n p r)
  unfolding repaired sector_entry
  repaired-sector a sized r =
      changed-sector n w B cut L place a sized _ _
      (λ d l q h.
      rw (sector-eqb n place d r.disk) (ap₂ (cond (eqb d r.disk)) (others-sector a r q) (byte-sector n w B cut a p d q)))
      (λ k other differ d l q h. rw (ne_eqb (sector_at n k d) (sector_at n p r.disk) (sector-apart n other place differ d r.disk)))

  pub rebuilt-sectors : (a : List ℕ) → length a ≡ L.disks * B → (v : List Entry)
      → rebuilt L (stretch_at B w p) a v ≡ rebuilt (sectored n L) (whole w) a (map (sector_entry n p) v)
  unfolding rebuilt
  rebuilt-sectors a sized [] = refl
  rebuilt-sectors a sized (r ∷ rs) =
      rebuilt-sectors (repaired L (stretch_at B w p) a r) (length-repaired L (stretch_at B w p) a r ∙ sized) rs
      ∙ ap (λ (b : List ℕ). rebuilt (sectored n L) (whole w) b (map (sector_entry n p) rs)) (repaired-sector a sized r)
