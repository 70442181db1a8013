-- The laws of a loop that writes a table from its first byte on.
-- Assumes nothing.
use mathlib.Core.Path.{◌≡◌, refl, ◌∙◌}
use mathlib.Core.List.{List}
use Prim.Native.Nat.{ℕ, ◌+◌, ◌≤◌, ◌<◌}
use native.Mathlib.Nat.{not-suc-le-zero}
use native.Mathlib.Omega.{arith}
use borrow.Author.Count.{below_more}
use lib.ListN.{length, get_or, set, length-set}
use lib.Seq.{get_or-set_same, get_or-set_other}
use Rattle.parts.specs.Parted.{Values}

-- The first k bytes have their names; the others are as before.
pub record Filled (f : ℕ → ℕ) (before : List ℕ) (k : ℕ) (parts : List ℕ) : Type 0 where
  pub long : length parts ≡ length before
  pub done : (s : ℕ) → s < k → get_or parts s 0 ≡ f s
  pub rest : (s : ℕ) → k ≤ s → get_or parts s 0 ≡ get_or before s 0

pub filled_none : (f : ℕ → ℕ) (before : List ℕ) → Filled f before 0 before
filled_none f before = record { long = refl; done = λ s l. absurd (not-suc-le-zero l); rest = λ s l. refl }

module _ {f : ℕ → ℕ} {before : List ℕ} {k : ℕ} {parts : List ℕ} (filled : Filled f before k parts) where
  pub filled_next : (v : ℕ) → k < length parts → v ≡ f k → Filled f before (k + 1) (set parts k v)
  filled_next v l e =
      record {
        long = length-set parts k v ∙ filled.long;
        done =
            below_more (λ s. get_or (set parts k v) s 0 ≡ f s) k
            (λ s w. get_or-set_other parts k s v 0 (λ q. omega arith) ∙ filled.done s w) (get_or-set_same parts k v 0 l ∙ e);
        rest = λ s w. get_or-set_other parts k s v 0 (λ q. omega arith) ∙ filled.rest s (omega arith);
      }

  pub filled_all : {n : ℕ} → n ≤ k → Values f n parts
  filled_all end s l = filled.done s (omega arith)
