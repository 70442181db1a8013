-- What save comes to: repairs and then sums, and its answer.
-- Assumes nothing.
use mathlib.Core.Path.{◌≡◌, refl, sym, ◌∙◌, ap, ap₂, subst}
use mathlib.Core.Bool.{Bool, true, false}
use mathlib.Core.List.{List}
use Prim.Native.Nat.{ℕ, ◌+◌, ◌*◌, ◌/◌, ◌≤◌}
use native.Mathlib.Nat.{mul_assoc}
use native.Mathlib.Omega.{arith}
use lib.ListN.{length}
use Rattle.stripes.specs.Fold.{count}
use Rattle.stripes.specs.System.{Layout, TwoStripes, whole, Bytes}
use Rattle.stripes.specs.Erased.{erasures}
use Rattle.stripes.specs.Repair.{Peels, repairs, residual, rebuilt, zeroed}
use Rattle.stripes.specs.Undetermined.{determined, parts_cancel, saved}
use Rattle.stripes.specs.declared.Stretch.{Stretch}
use Rattle.stripes.proofs.Fold.{count_le}
use Rattle.stripes.proofs.Peel.{repairs_peels}
use Rattle.stripes.proofs.Saved.{saved-count, saved_after}
use Rattle.stripes.proofs.Theorems.{parts_judged}
use Rattle.model.specs.Grid.{layout_of, column_base, disks, array_bytes, sector_fits, sectors_fit, map_bytes, map_fits}
use Rattle.model.specs.Refusal.{refusal, sector_tests}
use Rattle.model.specs.Save.{save_layout, map_tests, save_answer, save_array}
use Rattle.model.specs.declared.Size.{Size}
use Rattle.model.specs.Saving.{Saving}
use Rattle.model.specs.Saving.{Saved, Refused}
use Rattle.model.proofs.Grid.{layout-two, layout-disks, disks-bound, bytes-bound, size_fits_lem, block_fits_lem, map-length, sector-cut, sector-some, sectors-some}
use Rattle.model.proofs.Refusal.{fails, refused_first, ArrayFits, sector_fits_lem, sector_passed}
use Rattle.model.proofs.Save.{SaveFits, save_first, save_judged}
use Rattle.model.proofs.Limits.{grid-repairs-bound}
use Rattle.layout.specs.Stripe.{Numbered}
use Rattle.layout.proofs.Numbers.{numbered}
use Rattle.entries.specs.Listed.{listed}
use Rattle.restore.specs.Restored.{Sectored}
use Rattle.sums.specs.Held.{Held}
use Rattle.save.proofs.Summed.{sized_as}

-- ---- repairs as far as they reach, then sums

module _ (z : Size) (base : ℕ) (n : Numbered z base) (e : ℕ → Bool) (list : List ℕ) (made : ℕ)
    (number : made ≡ length (repairs (layout_of z base) e)) (entries : listed list made ≡ repairs (layout_of z base) e) where
  pub peels : Peels (layout_of z base) e (listed list made)
  peels = subst (Peels (layout_of z base) e) (sym entries) (repairs_peels (layout_of z base) e)

  pub made-few : made ≤ 31
  made-few =
      let few = grid-repairs-bound z base n.above n.fits e (repairs (layout_of z base) e) (repairs_peels (layout_of z base) e) in
      omega arith

  -- So the sum of both numbers is small.
  pub number-few : (t : ℕ → Bool) {summed : ℕ} → summed ≡ count (layout_of z base).disks t → made + summed ≤ 287
  number-few t counted =
      let few = made-few in
      let most = disks-bound z (size_fits_lem z n.fits) in
      let same = layout-disks z base in
      let all = count_le (layout_of z base).disks t in
      omega arith

  pub all_saved : (x : Stretch) (a : List ℕ) → Held z x a → Bytes a → parts_cancel (layout_of z base) x e a ≡ true
      → {b : List ℕ} → b ≡ rebuilt (layout_of z base) x a (listed list made)
      → {c : ℕ → Bool} → c ≡ residual (layout_of z base) e
      → {summed : ℕ} → summed ≡ count (layout_of z base).disks (determined (layout_of z base) c)
      → {r : List ℕ} → r ≡ saved (layout_of z base) x b c
      → (made + summed ≡ count (layout_of z base).disks (determined (layout_of z base) e)) × (r ≡ saved (layout_of z base) x a e)
  unfolding residual
  all_saved x a held small fit repaired left counted saves =
      let L : Layout = layout_of z base in
      let two : TwoStripes L = layout-two z base n.above in
      let sized = sized_as z base held in
      let belongs = (parts_judged L two e x held.inside a sized small).0 fit in (
        ap₂ ◌+◌ number (counted ∙ ap (λ (f : ℕ → Bool). count L.disks (determined L f)) left)
            ∙ sym (saved-count L two e (repairs L e) (repairs_peels L e)),
        saves ∙ ap₂ (saved L x) (repaired ∙ ap (rebuilt L x a) entries) left
            ∙ saved_after L x held.inside two e (repairs L e) (repairs_peels L e) a sized belongs,
      )

-- ---- the call
module _ (z : Size) (B w : ℕ) (a m : List ℕ) where
  -- The answer and the array are those of the definitions.
  abbrev pub Answers : Saving → List ℕ → Type 0
  Answers answer array = (answer ≡ save_answer z B w a m) × (array ≡ save_array z B w a m)

  pub refused_array : {status : ℕ} → status ≡ refusal (sector_tests z B (length a) w) → (status ≡ 0 → ⊥) → Answers (Refused status) a
  unfolding map_tests
  refused_array is some =
      let first = refused_first (sector_tests z B (length a) w) _ (λ q. some (is ∙ q)) in
      let (answer, array) = save_first z B w a m (λ q. some (is ∙ sym first ∙ q)) in
      (ap Refused (is ∙ sym first) ∙ sym answer, sym array)

  module _ (ok : refusal (sector_tests z B (length a) w) ≡ 0) where
    array : ArrayFits z B (length a)
    array = (sector_fits_lem z B (length a) w ok).0

    sector : sector_fits B w ≡ true
    sector = (sector_fits_lem z B (length a) w ok).1

    pub refused_map : map_fits (map_bytes z (B / w)) m ≡ false → Answers (Refused 4) a
    unfolding map_tests
    refused_map unfit =
        let four : refusal (map_tests z B w (length a) m) ≡ 4 = sector_passed z B (length a) w array sector _ ∙ fails 4 _ _ unfit in
        let (answer, same) = save_first z B w a m (λ q. let n = sym four ∙ q in omega arith) in
        (ap Refused (sym four) ∙ sym answer, sym same)

    pub some_bytes : 1 ≤ w
    some_bytes = sector-some B w sector

    pub sectors_fit_lem : sectors_fit (B / w) ≡ true
    sectors_fit_lem = sectors-some B w array.block sector

    pub is_numbered : Numbered z (column_base z)
    is_numbered = numbered z array.size

    pub is_sectored : Sectored z B w a
    unfolding array_bytes
    is_sectored = record { block = array.block; sector = sector; sized = array.long }

    -- The array is not long.
    pub array-few : length a ≤ 1048576
    array-few = let most = bytes-bound z (size_fits_lem z array.size) B (block_fits_lem B array.block) in let long = array.long in omega arith

    module _ (map : map_fits (map_bytes z (B / w)) m ≡ true) where
      -- The map has a byte for each of its sectors.
      pub byte_each : length a ≡ length m * w
      unfolding array_bytes map_bytes
      byte_each =
          array.long ∙ ap (λ (k : ℕ). disks z * k) (sector-cut B w sector) ∙ sym (mul_assoc (disks z) (B / w) w)
          ∙ ap (λ (k : ℕ). k * w) (sym (map-length (map_bytes z (B / w)) m map))

      fits : SaveFits z B w a m
      fits = record { array = array; sector = sector; map = map }

      abbrev L : Layout
      L = save_layout z (B / w)

      -- Survivors that contradict each other.
      pub contradicted : parts_cancel L (whole w) (erasures m) a ≡ false → {b : List ℕ} → b ≡ zeroed (whole w) a (erasures m)
          → Answers (Refused 7) b
      contradicted unfit zeros = let (answer, left) = save_judged z B w a m fits in rw (answer, left, unfit) (refl, zeros)

      -- Survivors of a sealed array.
      pub determined-saved : parts_cancel L (whole w) (erasures m) a ≡ true
          → {number : ℕ} → number ≡ count L.disks (determined L (erasures m))
          → {b : List ℕ} → b ≡ saved L (whole w) a (erasures m) → Answers (Saved number) b
      determined-saved fit counted saves =
          let (answer, left) = save_judged z B w a m fits in rw (answer, left, fit) (ap Saved counted, saves)
