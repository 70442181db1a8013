-- What look promises: a block in just the cases of paper 01, with all its sectors present.
-- Assumes nothing.
use mathlib.Core.Path.{◌≡◌, refl, sym, ◌∙◌, ap}
use mathlib.Core.Bool.{Bool, true, false, cond}
use mathlib.Core.Logic.{◌↔◌}
use mathlib.Core.List.{List}
use Prim.Native.Nat.{ℕ, ◌/◌, ◌<◌}
use native.Mathlib.Omega.{arith}
use borrow.Author.Tests.{eq-eqb, eqb-true, lt-ltb, ltb-true}
use lib.Dec.{eqb, ltb}
use lib.ListN.{length, get_or}
use Rattle.stripes.specs.Sectors.{sector_at}
use Rattle.model.specs.Grid.{disks, map_bytes, map_fits}
use Rattle.model.specs.Refusal.{refusal, array_tests, sector_tests}
use Rattle.model.specs.Array.{all_present, can_look, look_length}
use Rattle.model.specs.declared.Size.{Size}
use Rattle.stripes.proofs.Fold.{by_cases, and_left, and_right, and_both, every_at, every_all}
use Rattle.model.proofs.Grid.{block_fits_lem}
use Rattle.model.proofs.Refusal.{array-fits, first-accepted}

-- All n sectors of a disk are present exactly if the map has each of them as 0.
pub present_exact : (n : ℕ) (m : List ℕ) (d : ℕ) → (all_present n m d ≡ true) ↔ ((p : ℕ) → p < n → get_or m (sector_at n p d) 0 ≡ 0)
unfolding all_present
present_exact n m d = (
  λ all p place. eqb-true (get_or m (sector_at n p d) 0) 0 (every_at n (λ p. eqb (get_or m (sector_at n p d) 0) 0) all p place),
  λ all. every_all n (λ p place. eq-eqb (get_or m (sector_at n p d) 0) 0 (all p place)),
)

module _ (z : Size) (B w : ℕ) (a m : List ℕ) (d : ℕ) where
  -- Look hands back an empty part exactly if something is wrong with the arguments or a sector of the disk is erased.
  pub look_empty : (look_length z B w a m d ≡ 0) ↔ (can_look z B w a m d ≡ false)
  unfolding look_length can_look sector_tests
  look_empty = (
    λ none.
        by_cases (λ (t : Bool). t ≡ false) (can_look z B w a m d)
        (λ can.
        let tests = eqb-true _ 0 (and_left (eqb (refusal (sector_tests z B (length a) w)) 0) _ can) in
        let some = (block_fits_lem B (array-fits z B (length a) (first-accepted (array_tests z B (length a)) _ tests)).block).low in
        let is : B ≡ 0 = sym (ap (λ (t : Bool). cond t B 0) can) ∙ none in
        absurd (omega arith))
        (λ cannot. refl),
    λ cannot. ap (λ (t : Bool). cond t B 0) cannot,
  )

  -- It hands back a block exactly of these: of a disk of the grid that the map has as present, with every sector, where the map fits and
  -- the tests of the array and of the sectors are passed.
  pub look_takes : (can_look z B w a m d ≡ true)
      ↔ ((refusal (sector_tests z B (length a) w) ≡ 0) × (map_fits (map_bytes z (B / w)) m ≡ true) × (d < disks z)
      × ((p : ℕ) → p < B / w → get_or m (sector_at (B / w) p d) 0 ≡ 0))
  unfolding can_look
  look_takes = (
    λ can.
        let fits = and_right (eqb (refusal (sector_tests z B (length a) w)) 0) _ can in
        let here = and_right (map_fits (map_bytes z (B / w)) m) _ fits in (
          eqb-true _ 0 (and_left (eqb (refusal (sector_tests z B (length a) w)) 0) _ can),
          and_left (map_fits (map_bytes z (B / w)) m) _ fits,
          ltb-true d (disks z) (and_left (ltb d (disks z)) _ here),
          (present_exact (B / w) m d).0 (and_right (ltb d (disks z)) _ here),
        ),
    λ (ok, mapped, inside, present).
        and_both (eq-eqb _ 0 ok) (and_both mapped (and_both (lt-ltb d (disks z) inside) ((present_exact (B / w) m d).1 present))),
  )
