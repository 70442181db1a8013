-- The table of levels, filled step by step of a search.
-- Assumes nothing.
use mathlib.Core.Path.{◌≡◌, refl, sym, ◌∙◌, ap}
use mathlib.Core.Bool.{Bool, true, false, cond, not, ◌&&◌}
use mathlib.Core.List.{List}
use Prim.Native.Nat.{ℕ, ◌+◌, ◌<◌}
use native.Mathlib.Omega.{arith}
use borrow.Author.Tests.{eqb-true, eqb-false}
use lib.ListN.{length, get_or, set, length-set}
use lib.Seq.{get_or-set_same, get_or-set_other}
use Rattle.stripes.proofs.Fold.{by_cases, fails_with}
use Rattle.reach.specs.Reached.{has, reached, steps_to, word_stripes}
use Rattle.reach.proofs.Steps.{steps_found, steps_none, steps_self}
use Rattle.reach.proofs.Search.{Searched, beside, fresh-reached, fresh_new, others_as_before}

-- After k steps, what is reached has its number of steps, and everything else one more than the limit.
pub record Levelled (next : ℕ → ℕ → Bool) (from limit k : ℕ) (levels : List ℕ) : Type 0 where
  pub long : length levels ≡ word_stripes
  pub near : (t : ℕ) → t < word_stripes → reached next word_stripes from k t ≡ true → get_or levels t 0 ≡ steps_to next word_stripes from limit t
  pub far : (t : ℕ) → t < word_stripes → reached next word_stripes from k t ≡ false → get_or levels t 0 ≡ limit + 1

pub levelled-none : (next : ℕ → ℕ → Bool) (from limit : ℕ) (levels : List ℕ) → length levels ≡ word_stripes → from < word_stripes
    → ((t : ℕ) → t < word_stripes → get_or levels t 0 ≡ limit + 1) → Levelled next from limit 0 (set levels from 0)
unfolding reached
levelled-none next from limit levels long l all =
    record {
      long = length-set levels from 0 ∙ long;
      near = λ t w h.
          let same = eqb-true t from h in
          ap (λ (i : ℕ). get_or (set levels from 0) i 0) same ∙ get_or-set_same levels from 0 0 (omega arith)
          ∙ steps_self next word_stripes from limit t (sym same);
      far = λ t w h. get_or-set_other levels from t 0 0 (eqb-false t from h) ∙ all t w;
    }

-- A step gives the fresh stripes their level.
pub levelled-next : {next : ℕ → ℕ → Bool} {from limit k seen front : ℕ} {levels : List ℕ} → Levelled next from limit k levels → k < limit
    → Searched next from k seen front → (fresh : ℕ) → ((t : ℕ) → has fresh t ≡ (beside next front t && not (has seen t)))
    → (after : List ℕ) → length after ≡ length levels → ((t : ℕ) → get_or after t 0 ≡ cond (has fresh t) (k + 1) (get_or levels t 0))
    → Levelled next from limit (k + 1) after
levelled-next {next} {from} {limit} {k} {seen} {front} {levels} levelled l searched fresh is after long marked =
    record {
      long = long ∙ levelled.long;
      near = λ t w h.
          marked t
          ∙ by_cases (λ (b : Bool). has fresh t ≡ b → cond b (k + 1) (get_or levels t 0) ≡ steps_to next word_stripes from limit t) (has fresh t)
          (λ _ e. steps_found next word_stripes from limit k t l (fresh_new searched fresh is t e) h)
          (λ _ e. levelled.near t w (sym (others_as_before searched fresh is t e) ∙ h)) refl;
      far = λ t w h.
          let old = fails_with _ _ (λ e. fresh-reached searched fresh is t e) h in
          marked t ∙ ap (λ (b : Bool). cond b (k + 1) (get_or levels t 0)) old
          ∙ levelled.far t w (sym (others_as_before searched fresh is t old) ∙ h);
    }

-- Where no further step up to the limit reaches anything, the table is done.
pub levelled_all : {next : ℕ → ℕ → Bool} {from limit k : ℕ} {levels : List ℕ} → Levelled next from limit k levels
    → ((t : ℕ) → reached next word_stripes from k t ≡ false → reached next word_stripes from limit t ≡ false)
    → (t : ℕ) → t < word_stripes → get_or levels t 0 ≡ steps_to next word_stripes from limit t
levelled_all {next} {from} {limit} {k} {levels} levelled end t w =
    let known = reached next word_stripes from k t in
    by_cases (λ (b : Bool). known ≡ b → get_or levels t 0 ≡ steps_to next word_stripes from limit t) known
    (λ _ e. levelled.near t w e) (λ _ e. levelled.far t w e ∙ steps_none next word_stripes from limit t (end t e)) refl
