-- Laws of sums of stretches, wherever they stand.
-- Assumes nothing.
use mathlib.Core.Path.{◌≡◌, ◌∙◌, sym, refl}
use mathlib.Core.Bool.{Bool, true, false}
use mathlib.Core.Logic.{⊎_elim}
use mathlib.Core.List.{List}
use Prim.Native.Nat.{ℕ, ◌+◌, ◌≤◌}
use native.Mathlib.Numerals.{add-one}
use native.Mathlib.Omega.{arith}
use lib.ListN.{length, get_or}
use Rattle.stripes.specs.Fold.{xsum, gate}
use Rattle.stripes.proofs.Xor.{⊕-zero}
use Rattle.stripes.proofs.Fold.{xsum_ext, by_cases}
use Rattle.zeros.specs.Stored.{stored}
use Rattle.zeros.proofs.Stored.{get_or-before, get_d_after}
use Rattle.xor.specs.Strided.{added}
use Rattle.xor.specs.Spots.{Spots, Clear, total_at}
use Rattle.xor.proofs.Parts.{Aside, Holds, holds_next}

-- The sum of the first n stretches.
abbrev pub partly : Spots → (n : ℕ) → List ℕ → (j : ℕ) → ℕ
partly r n a j = xsum n (λ k. gate (r.taken k) (get_or a (j + r.start k) 0))

-- ---- one more stretch, of which t says whether it is taken
module _ (r : Spots) (a : List ℕ) (w first k : ℕ) (t : Bool) (test : t ≡ r.taken k) (v : List ℕ) (sums : Holds w v (partly r k a) first) where
  pub taken_holds : t ≡ true → w ≤ length v → (n : List ℕ) → n ≡ added v 0 w (λ i. get_or a (first + r.start k + i) 0) → Holds w n (partly r (k + 1) a) first
  unfolding xsum gate
  taken_holds h long n mix = holds_next w first a (r.start k) (partly r k a) (partly r (k + 1) a) (λ j. rw add-one (simp (sym test, h))) v n long sums mix

  pub skipped_holds : t ≡ false → Holds w v (partly r (k + 1) a) first
  unfolding xsum gate
  skipped_holds h i b = sums i b ∙ rw add-one (simp (sym test, h) (sym (⊕-zero _)))

-- ---- stretches that are clear of the target
-- What is stored there is read by no sum.
pub clear_aside : {r : Spots} {a : List ℕ} {first gap n : ℕ} → Clear r a first gap n → Aside (total_at r) a (first + gap) first n
unfolding total_at gate
clear_aside {r} {a} {first} {gap} {n} s =
    record {
      room = s.room;
      kept = λ m f i h l.
          xsum_ext r.count (λ k b.
          by_cases (λ (t : Bool). gate t (get_or (stored a (first + gap) m f) (first + i + r.start k) 0) ≡ gate t (get_or a (first + i + r.start k) 0))
          (r.taken k)
          (λ e. ⊎_elim (λ p. get_or-before a (first + gap) m f _ (omega arith)) (λ p. get_d_after a (first + gap) m f _ (omega arith)) (s.apart k b e))
          (λ e. refl));
    }
