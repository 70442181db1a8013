-- The words of a search: what they stand for after each step.
-- Assumes nothing.
use mathlib.Core.Path.{◌≡◌, refl, sym, ◌∙◌, ap, ap₂}
use mathlib.Core.Bool.{Bool, true, false, not, ◌&&◌, ◌||◌, and-true, or-true, or-false, and-or_distrib_right}
use Prim.Native.Nat.{ℕ, ◌+◌, ◌^◌, ◌≤◌}
use native.Mathlib.Numerals.{add-one}
use borrow.Author.Tests.{not-true}
use lib.Bits.{bit_or}
use Rattle.stripes.proofs.Fold.{and_right}
use Rattle.reach.specs.Reached.{has, some, reached, word_stripes}
use Rattle.reach.proofs.Words.{has-none, has_one, has_or}
use Rattle.reach.proofs.Steps.{some_ext, some_or, reached_still}

-- The stripes next to those of a set.
abbrev pub beside : (next : ℕ → ℕ → Bool) (set t : ℕ) → Bool
beside next set t = some word_stripes (λ s. has set s && next s t)

-- Of two sets together, those next to either.
beside_or : (next : ℕ → ℕ → Bool) (a b t : ℕ) → beside next (bit_or a b) t ≡ (beside next a t || beside next b t)
beside_or next a b t =
    some_ext word_stripes (λ s. ap (λ (x : Bool). x && next s t) (has_or a b s) ∙ and-or_distrib_right (has a s) (has b s) (next s t))
    ∙ some_or word_stripes (λ s. has a s && next s t) (λ s. has b s && next s t)

-- After k steps one word has what is reached, and whatever is next to these stripes and new is next to those of the front.
pub record Searched (next : ℕ → ℕ → Bool) (from k seen front : ℕ) : Type 0 where
  pub seen_is : (t : ℕ) → has seen t ≡ reached next word_stripes from k t
  pub frontier : (t : ℕ) → (has seen t || beside next seen t) ≡ (has seen t || beside next front t)

pub searched_none : (next : ℕ → ℕ → Bool) (from seen : ℕ) → seen ≡ 2 ^ from → Searched next from 0 seen seen
unfolding reached
searched_none next from seen is = record { seen_is = λ t. ap (λ (w : ℕ). has w t) is ∙ has_one from t; frontier = λ t. refl }

-- The next step adds the fresh stripes, those next to the front that are not seen.
module _ {next : ℕ → ℕ → Bool} {from k seen front : ℕ} (searched : Searched next from k seen front) (fresh : ℕ)
    (is : (t : ℕ) → has fresh t ≡ (beside next front t && not (has seen t))) where
  -- What is seen and what is fresh is what is seen and what is next to it,
  all : (t : ℕ) → (has seen t || has fresh t) ≡ (has seen t || beside next seen t)
  all t = ap (λ (x : Bool). has seen t || x) (is t) ∙ go (has seen t) (beside next front t) ∙ sym (searched.frontier t)
    where
      go : (a b : Bool) → (a || (b && not a)) ≡ (a || b)
      go true b = refl
      go false b = and-true b

  -- which is what one more step reaches. So the search goes on from the fresh stripes.
  pub reached-next : (t : ℕ) → reached next word_stripes from (k + 1) t ≡ (has seen t || has fresh t)
  unfolding reached
  reached-next t =
      ap (λ (m : ℕ). reached next word_stripes from m t) (add-one k)
      ∙ sym (ap₂ (λ (x y : Bool). x || y) (searched.seen_is t)
      (some_ext word_stripes (λ s. ap (λ (b : Bool). b && next s t) (searched.seen_is s))))
      ∙ sym (all t)

  pub searched_next : Searched next from (k + 1) (bit_or seen fresh) fresh
  searched_next =
      record {
        seen_is = λ t. has_or seen fresh t ∙ sym (reached-next t);
        frontier = λ t.
            let now : has (bit_or seen fresh) t ≡ (has seen t || beside next seen t) = has_or seen fresh t ∙ all t in
            ap₂ (λ (x y : Bool). x || y) now (beside_or next seen fresh t) ∙ go (has seen t) (beside next seen t) (beside next fresh t)
            ∙ sym (ap (λ (x : Bool). x || beside next fresh t) now);
      }
    where
      go : (a p q : Bool) → ((a || p) || (p || q)) ≡ ((a || p) || q)
      go true p q = refl
      go false true q = refl
      go false false q = refl

  -- A fresh stripe is reached by the next step and not before, and no other stripe is reached by it for the first time.
  pub fresh-reached : (t : ℕ) → has fresh t ≡ true → reached next word_stripes from (k + 1) t ≡ true
  fresh-reached t h = reached-next t ∙ ap (λ (x : Bool). has seen t || x) h ∙ or-true (has seen t)

  pub fresh_new : (t : ℕ) → has fresh t ≡ true → reached next word_stripes from k t ≡ false
  fresh_new t h = sym (searched.seen_is t) ∙ not-true (has seen t) (and_right (beside next front t) (not (has seen t)) (sym (is t) ∙ h))

  pub others_as_before : (t : ℕ) → has fresh t ≡ false → reached next word_stripes from (k + 1) t ≡ reached next word_stripes from k t
  others_as_before t h = reached-next t ∙ ap₂ (λ (x y : Bool). x || y) (searched.seen_is t) h ∙ or-false (reached next word_stripes from k t)

  -- Where nothing is fresh, nothing more is ever reached.
  pub searched_all : fresh ≡ 0 → (m : ℕ) → k ≤ m → (t : ℕ) → reached next word_stripes from m t ≡ reached next word_stripes from k t
  searched_all none =
      reached_still next word_stripes from k (λ t.
      ap (λ (m : ℕ). reached next word_stripes from m t) (sym (add-one k))
      ∙ others_as_before t (ap (λ (w : ℕ). has w t) none ∙ has-none t))
