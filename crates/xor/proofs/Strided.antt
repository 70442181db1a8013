-- Evenly spaced stretches among stretches wherever they stand.
-- Assumes nothing.
use mathlib.Core.Path.{◌≡◌, refl, sym}
use mathlib.Core.Bool.{Bool, true, false, not}
use mathlib.Core.Logic.{◌⊎◌, ⊎_elim, inl, inr}
use mathlib.Core.List.{List}
use Prim.Native.Nat.{ℕ, suc, ◌+◌, ◌*◌, ◌≤◌, ◌<◌}
use native.Mathlib.Nat.{mul-le-mul_right, suc-mul}
use native.Mathlib.Omega.{arith}
use borrow.Author.Tests.{eqb-false}
use Rattle.stripes.proofs.Fold.{lt_or_le}
use Rattle.xor.specs.Spots.{Clear, spaced_spots}
use Rattle.xor.specs.Strided.{Spaced}

not_true : (b : Bool) → not b ≡ true → b ≡ false
not_true true e = sym e
not_true false e = refl

-- Two stretches of w bytes, at numbers k and t, do not overlap where a step is at least w.
pub apart : (step w k t : ℕ) → w ≤ step → (k ≡ t → ⊥) → (k * step + w ≤ t * step) ⊎ (t * step + w ≤ k * step)
apart step w k t h other =
    ⊎_elim
    (λ (l : k < t).
    let q : suc k * step ≤ t * step = mul-le-mul_right step l in
    let s : suc k * step ≡ k * step + step = suc-mul k step in
    inl (omega arith))
    (λ (l : t ≤ k).
    let o : t < k = omega arith in
    let q : suc t * step ≤ k * step = mul-le-mul_right step o in
    let s : suc t * step ≡ t * step + step = suc-mul t step in
    inr (omega arith))
    (lt_or_le k t)

-- The one that is left out is clear of those that are summed.
pub spaced_clear : {a : List ℕ} {first step count skip w : ℕ} → Spaced a first step count skip w
    → Clear (spaced_spots step count skip) a first (skip * step) w
spaced_clear {step = step} {count} {skip} {w} s =
    record {
      inside = record { each = s.within };
      room = s.within skip s.one;
      apart = λ k b t. apart step w k skip s.apart (eqb-false k skip (not_true _ t));
    }
