-- A repair as the code makes it: one disk of a run becomes the sum of the others.
-- Assumes nothing.
use mathlib.Core.Path.{◌≡◌, sym, ◌∙◌, ap, ap₂, subst, fun_ext}
use mathlib.Core.Bool.{Bool, true, cond, not}
use mathlib.Core.Logic.{⊎_elim}
use mathlib.Core.List.{List}
use Prim.Native.Nat.{ℕ, ◌+◌, ◌*◌, ◌≤◌, ◌<◌}
use native.Mathlib.Nat.{add-mul, mul_assoc, one-mul, mul-le-mul, mul-le-mul_right}
use native.Mathlib.Omega.{arith}
use borrow.Author.Tests.{eq-eqb, eqb-true, lt-ltb, le-ltb}
use lib.Dec.{eqb}
use lib.ListN.{length}
use Rattle.stripes.specs.Fold.{gate}
use Rattle.stripes.specs.System.{on, byte, changed}
use Rattle.stripes.specs.Repair.{sum_of_others, repaired}
use Rattle.stripes.specs.declared.Stretch.{Stretch}
use Rattle.model.specs.Grid.{layout_of, disks}
use Rattle.model.specs.declared.Size.{Size}
use Rattle.stripes.proofs.Fold.{same_test, lt_or_le, xsum_ext}
use Rattle.model.proofs.Grid.{size_fits_lem, block_fits_lem, across-bound}
use Rattle.layout.specs.Stripe.{Numbered, disks_on, place_on}
use Rattle.layout.specs.declared.stripe.Run.{Run}
use Rattle.layout.proofs.Runs.{RunOf, run_of, place_at}
use Rattle.xor.specs.Strided.{filled, Spaced}
use Rattle.sums.specs.Held.{Held}
use Rattle.sums.proofs.Blocks.{others, stretch_within, filled_stretch}

-- A disk of a stripe whose disks stand as the run says, at the place `own`.
module _ (z : Size) (base : ℕ) (x : Stretch) (a : List ℕ) (held : Held z x a)
    (d s : ℕ) (below : d < disks z) (there : on (layout_of z base) d s ≡ true)
    (run : Run) (place : ℕ → ℕ) (r : RunOf z base s run place) (own : ℕ) (own_is : own ≡ place d) where
  own_at : run.first + own * run.step ≡ d
  own_at = ap (λ (k : ℕ). run.first + k * run.step) own_is ∙ sym (r.placed d below there)

  -- The disk at a place of the run is d if the place is d's.
  same_place : (k : ℕ) → k < run.count → eqb (run.first + k * run.step) d ≡ eqb k own
  same_place k h =
      same_test (eqb (run.first + k * run.step) d) (eqb k own)
      (λ e. eq-eqb k own (sym (place_at z base s run place r k h) ∙ ap place (eqb-true _ d e) ∙ sym own_is))
      (λ e. eq-eqb _ d (ap (λ (i : ℕ). run.first + i * run.step) (eqb-true k own e) ∙ own_at))

  others-on : (p : ℕ) → sum_of_others (layout_of z base) x a (record { disk = d; stripe = s }) p
      ≡ others x a run.step run.count own run.first p
  unfolding sum_of_others others
  others-on p =
      r.summed _
      ∙ xsum_ext run.count
      (λ k h. ap (λ (t : Bool). gate (not t) (byte x a (run.first + k * run.step) p)) (same_place k h))

  -- The stretches of the run lie within the array and apart from each other,
  run-spaced : Spaced a (run.first * x.block + x.offset) (run.step * x.block) run.count own x.width
  run-spaced =
      record {
        within = λ k h.
            let b = stretch_within x held.inside (disks z) a held.sized (run.first + k * run.step) (r.inside k h) in
            let sum = add-mul run.first (k * run.step) x.block in
            let product = mul_assoc k run.step x.block in
            omega arith;
        apart =
            let h : 1 * x.block ≤ run.step * x.block = mul-le-mul_right x.block r.apart in
            let one = one-mul x.block in
            let inside = held.inside in
            omega arith;
        one = subst (λ (k : ℕ). k < run.count) (sym own_is) (r.within d below there);
      }

  -- and with the sum of the others in d's place the array is repaired.
  run-filled : filled x.width a (run.first * x.block + x.offset) (run.step * x.block) run.count own
      ≡ repaired (layout_of z base) x a (record { disk = d; stripe = s })
  unfolding repaired
  run-filled =
      filled_stretch x held.inside (disks z) a held.sized run.first run.step run.count own
      (subst (λ (i : ℕ). i < disks z) (sym own_at) below)
      ∙ ap (changed x a) (fun_ext (λ e. fun_ext (λ p. ap₂ (λ (i v : ℕ). cond (eqb e i) v (byte x a e p)) own_at (sym (others-on p)))))

-- What `fill` asks for and gives where it repairs disk d by stripe s.
pub record Repair (z : Size) (base : ℕ) (x : Stretch) (a : List ℕ) (d s : ℕ) (run : Run) (own : ℕ) : Type 0 where
  pub start : run.first * x.block + x.offset ≤ length a
  pub stride : run.step * x.block ≤ 65536
  pub spaced : Spaced a (run.first * x.block + x.offset) (run.step * x.block) run.count own x.width
  pub made : filled x.width a (run.first * x.block + x.offset) (run.step * x.block) run.count own
      ≡ repaired (layout_of z base) x a (record { disk = d; stripe = s })

pub repair_is : (z : Size) (base : ℕ) → Numbered z base → (x : Stretch) (a : List ℕ) → Held z x a
    → (d s : ℕ) → d < disks z → on (layout_of z base) d s ≡ true
    → (run : Run) → run ≡ disks_on z base s → (own : ℕ) → own ≡ place_on z base d s → Repair z base x a d s run own
unfolding disks_on
repair_is z base numbered x a held d s below there run run_is own own_is =
    let r : RunOf z base s run (λ d. place_on z base d s) =
    subst (λ (run : Run). RunOf z base s run (λ d. place_on z base d s)) (sym run_is) (run_of z base numbered.above d s below there) in
    let spaced = run-spaced z base x a held d s below there run (λ d. place_on z base d s) r own own_is in
    let wide = across-bound z (size_fits_lem z numbered.fits) in
    let small : (disks_on z base s).step ≤ 16 =
    ⊎_elim (λ h. rw (lt-ltb s base h) (omega arith)) (λ h. rw (le-ltb s base h) wide) (lt_or_le s base) in
    record {
      start = let h = spaced.within own spaced.one in omega arith;
      stride = mul-le-mul {n₂ = 16} {m₂ = 4096} (subst (λ (run : Run). run.step ≤ 16) (sym run_is) small) (block_fits_lem x.block held.block).high;
      spaced = spaced;
      made = run-filled z base x a held d s below there run (λ d. place_on z base d s) r own own_is;
    }
