-- The part that look hands back, as a length and an offset.
-- Assumes nothing.
use mathlib.Core.Path.{◌≡◌, refl, sym, ap}
use mathlib.Core.Bool.{Bool, true, false, cond}
use mathlib.Core.Logic.{◌⊎◌, inl, inr, ⊎_elim}
use mathlib.Core.List.{List}
use Prim.Native.Nat.{ℕ, ◌+◌, ◌*◌, ◌/◌, ◌≤◌}
use native.Mathlib.Omega.{arith}
use borrow.Author.Tests.{eqb-true, ltb-true}
use lib.Dec.{eqb}
use lib.ListN.{length, take, drop, length-take, length-drop}
use Rattle.model.specs.Grid.{disks, map_bytes, map_fits}
use Rattle.model.specs.Refusal.{refusal, sector_tests}
use Rattle.model.specs.Array.{can_look, look_length, look_offset}
use Rattle.model.specs.declared.Size.{Size}
use Rattle.stripes.proofs.Fold.{and_left, and_right}
use Rattle.model.proofs.Grid.{block_fits_lem, block_within}
use Rattle.model.proofs.Refusal.{sector_fits_lem}

module _ (z : Size) (B w : ℕ) (a m : List ℕ) (d : ℕ) where
  -- Either there is no part, or it is a block of one byte or more that lies within the array.
  pub record Found : Type 0 where
    pub length_is : look_length z B w a m d ≡ B
    pub offset_is : (before : ℕ) → look_offset z B w a m d before ≡ d * B
    pub some : 1 ≤ B
    pub within : d * B + B ≤ length a

  pub record Nothing : Type 0 where
    pub length_is : look_length z B w a m d ≡ 0
    pub offset_is : (before : ℕ) → look_offset z B w a m d before ≡ before

  look-by : Found ⊎ Nothing
  unfolding look_length look_offset can_look
  look-by = go (can_look z B w a m d) refl
    where
      go : (b : Bool) → can_look z B w a m d ≡ b → Found ⊎ Nothing
      go true e =
          let ok = eqb-true (refusal (sector_tests z B (length a) w)) 0 (and_left _ _ e) in
          let (fits, sector) = sector_fits_lem z B (length a) w ok in
          let below = ltb-true d (disks z) (and_left _ _ (and_right (map_fits (map_bytes z (B / w)) m) _ (and_right (eqb (refusal (sector_tests z B (length a) w)) 0) _ e))) in
          inl
          (record {
            length_is = ap (λ (b : Bool). cond b B 0) e;
            offset_is = λ before. ap (λ (b : Bool). cond b (d * B) before) e;
            some = (block_fits_lem B fits.block).low;
            within = block_within z B (length a) fits.long d below;
          })
      go false e = inr (record { length_is = ap (λ (b : Bool). cond b B 0) e; offset_is = λ before. ap (λ (b : Bool). cond b (d * B) before) e })

  pub part_length : length (take (look_length z B w a m d) (drop (look_offset z B w a m d 0) a)) ≡ look_length z B w a m d
  part_length = ⊎_elim
      (λ f.
      let n = f.length_is in
      let o = f.offset_is 0 in
      let w = f.within in
      simp (length-take, length-drop) (omega arith))
      (λ n. let e = n.length_is in simp length-take (omega arith)) look-by

  pub look_none : 0 ≡ look_length z B w a m d → (before : ℕ) → before ≡ look_offset z B w a m d before
  look_none e before = ⊎_elim (λ f. let h = f.length_is in let s = f.some in omega arith) (λ n. sym (n.offset_is before)) look-by

  pub look_some : (0 ≡ look_length z B w a m d → ⊥) → Found
  look_some h = ⊎_elim (λ f. f) (λ n. absurd (h (sym n.length_is))) look-by
