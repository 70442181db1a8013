-- From bytes to disks: what storing and summing stretches does to the blocks of an array.
-- Assumes nothing.
use mathlib.Core.Path.{◌≡◌, refl, sym, ◌∙◌, ap, fun_ext}
use mathlib.Core.Bool.{Bool, false, cond, not, true≢false}
use mathlib.Core.Logic.{⊎_elim}
use mathlib.Core.List.{List}
use Prim.Native.Nat.{ℕ, ◌+◌, ◌*◌, ◌-◌, ◌%◌, ◌≤◌, ◌<◌}
use native.Mathlib.Nat.{add-mul, mul_assoc, add-sub_of_le}
use native.Mathlib.Omega.{arith}
use borrow.Author.Tests.{eqb-true, eqb-false, le-leb, lt-ltb}
use lib.Arith.{digits_mod}
use lib.Dec.{eqb}
use lib.ListN.{length, get_or}
use Rattle.stripes.specs.Fold.{xsum, gate}
use Rattle.stripes.specs.System.{byte, changed}
use Rattle.stripes.specs.declared.Stretch.{Stretch}
use Rattle.stripes.proofs.Fold.{and_both, lt_or_le, by_cases, xsum_ext}
use Rattle.stripes.proofs.Bytes.{block-before, covers, changed_is}
use Rattle.zeros.specs.Stored.{stored}
use Rattle.xor.specs.Strided.{strided, filled}
use Rattle.zeros.proofs.Stored.{length-stored, get_or-stored, get_or-before, get_d_after}

-- The sum at place p of `count` disks that stand s apart from disk d on, number `skip` left out.
unfoldable pub others : Stretch → List ℕ → (s count skip d p : ℕ) → ℕ
others x a s count skip d p = xsum count (λ k. gate (not (eqb k skip)) (byte x a (d + k * s) p))

pub strided-disks : (x : Stretch) (a : List ℕ) (t s count skip p : ℕ)
    → strided a (t * x.block + x.offset + p) (s * x.block) count skip ≡ others x a s count skip t p
unfolding strided others byte
strided-disks x a t s count skip p = xsum_ext count (λ k h. ap (λ (i : ℕ). gate (not (eqb k skip)) (get_or a i 0)) (place k))
  where
    place : (k : ℕ) → t * x.block + x.offset + p + k * (s * x.block) ≡ (t + k * s) * x.block + (x.offset + p)
    place k =
        let sum : (t + k * s) * x.block ≡ t * x.block + k * s * x.block = add-mul t (k * s) x.block in
        let product : k * s * x.block ≡ k * (s * x.block) = mul_assoc k s x.block in
        omega arith

-- A stretch that lies within the block, of an array of n blocks.
module _ (x : Stretch) (inside : x.offset + x.width ≤ x.block) (n : ℕ) (a : List ℕ) (sized : length a ≡ n * x.block) where
  -- That of disk d lies within the array,
  pub stretch_within : (d : ℕ) → d < n → d * x.block + x.offset + x.width ≤ length a
  stretch_within d l = let end = block-before x.block l in omega arith

  -- and is stored.
  module _ (d : ℕ) (l : d < n) (f : ℕ → ℕ) where
    new : List ℕ
    new = stored a (d * x.block + x.offset) x.width f

    own-bytes : (p : ℕ) → p < x.width → byte x new d p ≡ f p
    unfolding byte new
    own-bytes p h =
        let room = stretch_within d l in
        get_or-stored a (d * x.block + x.offset) x.width f (d * x.block + (x.offset + p)) (omega arith) (omega arith) (omega arith)
        ∙ ap f (omega arith)

    other-bytes : (e p : ℕ) → (e ≡ d → ⊥) → p < x.width → byte x new e p ≡ byte x a e p
    unfolding byte new
    other-bytes e p other h =
        ⊎_elim
        (λ (m : e < d).
        let end = block-before x.block m in
        get_or-before a (d * x.block + x.offset) x.width f (e * x.block + (x.offset + p)) (omega arith))
        (λ (m : d ≤ e).
        let after : d < e = omega arith in
        let end = block-before x.block after in
        get_d_after a (d * x.block + x.offset) x.width f (e * x.block + (x.offset + p)) (omega arith))
        (lt_or_le e d)

    outside-bytes : (i : ℕ) → covers x (i % x.block) ≡ false → get_or new i 0 ≡ get_or a i 0
    unfolding covers new
    outside-bytes i off =
        ⊎_elim (λ m. get_or-before a (d * x.block + x.offset) x.width f i m)
        (λ m.
        ⊎_elim
        (λ (k : i < d * x.block + x.offset + x.width).
        let q : ℕ = i - d * x.block in
        let at : d * x.block + q ≡ i = add-sub_of_le (omega arith) in
        let place : i % x.block ≡ q = ap (λ (j : ℕ). j % x.block) (sym at) ∙ digits_mod d (omega arith) in
        absurd (true≢false (sym (and_both (le-leb x.offset q (omega arith)) (lt-ltb q (x.offset + x.width) (omega arith))) ∙ ap (covers x) (sym place) ∙ off)))
        (λ k. get_d_after a (d * x.block + x.offset) x.width f i k)
        (lt_or_le i (d * x.block + x.offset + x.width)))
        (lt_or_le i (d * x.block + x.offset))

    pub stored_stretch : stored a (d * x.block + x.offset) x.width f ≡ changed x a (λ e p. cond (eqb e d) (f p) (byte x a e p))
    unfolding new
    stored_stretch =
        changed_is x inside n a sized _ new (length-stored a (d * x.block + x.offset) x.width f)
        (λ e p m h.
        by_cases (λ (t : Bool). eqb e d ≡ t → byte x new e p ≡ cond t (f p) (byte x a e p)) (eqb e d)
        (λ q w. ap (λ (i : ℕ). byte x new i p) (eqb-true e d w) ∙ own-bytes p h) (λ q w. other-bytes e p (eqb-false e d w) h) refl)
        outside-bytes

  -- Of `count` disks that stand s apart from disk t on, number `skip` becomes the sum of the others.
  pub filled_stretch : (t s count skip : ℕ) → t + skip * s < n
      → filled x.width a (t * x.block + x.offset) (s * x.block) count skip
      ≡ changed x a (λ e p. cond (eqb e (t + skip * s)) (others x a s count skip t p) (byte x a e p))
  unfolding filled
  filled_stretch t s count skip l =
      let sum : (t + skip * s) * x.block ≡ t * x.block + skip * s * x.block = add-mul t (skip * s) x.block in
      let product : skip * s * x.block ≡ skip * (s * x.block) = mul_assoc skip s x.block in
      let at : t * x.block + x.offset + skip * (s * x.block) ≡ (t + skip * s) * x.block + x.offset = omega arith in
      ap (λ (at : ℕ). stored a at x.width (λ i. strided a (t * x.block + x.offset + i) (s * x.block) count skip)) at
      ∙ stored_stretch (t + skip * s) l _
      ∙ ap (changed x a) (fun_ext (λ e. fun_ext (λ p.
      ap (λ (v : ℕ). cond (eqb e (t + skip * s)) v (byte x a e p)) (strided-disks x a t s count skip p))))
