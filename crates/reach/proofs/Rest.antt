-- The laws of a loop that goes over a set and takes one stripe after the other out of it.
-- Assumes nothing.
use mathlib.Core.Path.{◌≡◌, refl, sym, ◌∙◌, ap, ap₂}
use mathlib.Core.Bool.{Bool, false, cond, not, ◌&&◌, ◌||◌, and-true, and-false, or-false, or_assoc, and-or_distrib_right}
use mathlib.Core.List.{List}
use Prim.Native.Nat.{ℕ, ◌^◌, ◌<◌}
use native.Mathlib.Omega.{arith}
use borrow.Author.Tests.{eqb-true, eqb-false, eq-eqb}
use lib.Bits.{bit_or}
use lib.Dec.{eqb}
use lib.ListN.{length, get_or, set, length-set}
use lib.Seq.{get_or-set_same, get_or-set_other}
use Rattle.stripes.proofs.Fold.{by_cases}
use Rattle.reach.specs.Reached.{has, some, word_stripes}
use Rattle.reach.specs.Members.{Without}
use Rattle.reach.proofs.Words.{has-none, has_or}
use Rattle.reach.proofs.Steps.{some_ext, some-none, some_at, some_or}
use Rattle.reach.proofs.Search.{beside}

-- ---- what is next to a set
-- The stripes next to those of a set are those next to the stripe that is taken out, and those next to the others.
beside_out : {w s left : ℕ} → Without w s left → (next : ℕ → ℕ → Bool) (t : ℕ) → beside next w t ≡ (next s t || beside next left t)
beside_out {w} {s} {left} out next t =
    some_ext word_stripes (λ x. ap (λ (b : Bool). b && next x t) (parts x) ∙ and-or_distrib_right (eqb x s) (has left x) (next x t))
    ∙ some_or word_stripes (λ x. eqb x s && next x t) (λ x. has left x && next x t)
    ∙ ap (λ (b : Bool). b || beside next left t) here
  where
    parts : (x : ℕ) → has w x ≡ (eqb x s || has left x)
    parts x =
        by_cases (λ (b : Bool). eqb x s ≡ b → has w x ≡ (b || has left x)) (eqb x s)
        (λ _ e. ap (λ (y : ℕ). has w y) (eqb-true x s e) ∙ out.member)
        (λ _ e. sym (out.others x ∙ ap (λ (b : Bool). has w x && not b) e ∙ and-true (has w x))) refl

    elsewhere : (x : ℕ) → next s t ≡ false → (eqb x s && next x t) ≡ false
    elsewhere x e =
        by_cases (λ (b : Bool). eqb x s ≡ b → (b && next x t) ≡ false) (eqb x s) (λ _ q. ap (λ (y : ℕ). next y t) (eqb-true x s q) ∙ e)
        (λ _ q. refl) refl

    here : some word_stripes (λ x. eqb x s && next x t) ≡ next s t
    here =
        by_cases (λ (b : Bool). next s t ≡ b → some word_stripes (λ x. eqb x s && next x t) ≡ b) (next s t)
        (λ _ e. some_at word_stripes (λ x. eqb x s && next x t) s out.small (ap₂ (λ (a b : Bool). a && b) (eq-eqb s s refl) e))
        (λ _ e. some-none word_stripes (λ x. elsewhere x e)) refl

-- What the loop has gathered, and what is next to the stripes that are left, is all that is next to the set.
pub record Gathered (next : ℕ → ℕ → Bool) (w all rest : ℕ) : Type 0 where
  pub fits : rest < 2 ^ 64
  pub sum : (t : ℕ) → (has all t || beside next rest t) ≡ beside next w t

pub gathered_none : (next : ℕ → ℕ → Bool) (w : ℕ) → w < 2 ^ 64 → Gathered next w 0 w
gathered_none next w fits = record { fits = fits; sum = λ t. ap (λ (b : Bool). b || beside next w t) (has-none t) }

module _ {next : ℕ → ℕ → Bool} {w all rest : ℕ} (gathered : Gathered next w all rest) where
  -- A turn takes in a word that has what is next to its stripe.
  pub gathered_next : {s left : ℕ} → Without rest s left → (word : ℕ) → ((t : ℕ) → has word t ≡ next s t)
      → Gathered next w (bit_or all word) left
  gathered_next {s} {left} out word is =
      record {
        fits = let less = out.less in let fits = gathered.fits in omega arith;
        sum = λ t.
            ap (λ (b : Bool). b || beside next left t) (has_or all word t ∙ ap (λ (b : Bool). has all t || b) (is t))
            ∙ or_assoc (has all t) (next s t) (beside next left t)
            ∙ ap (λ (b : Bool). has all t || b) (sym (beside_out out next t)) ∙ gathered.sum t;
      }

  pub gathered_all : rest ≡ 0 → (t : ℕ) → has all t ≡ beside next w t
  gathered_all end t =
      let none : beside next rest t ≡ false = some-none word_stripes (λ s. rw (end, has-none)) in
      sym (ap (λ (b : Bool). has all t || b) none ∙ or-false (has all t)) ∙ gathered.sum t

-- ---- a table that gets a level at each stripe of a set
-- The table with the stripes that are left marked too is the one with all marked.
pub record Marked (before : List ℕ) (w level : ℕ) (levels : List ℕ) (rest : ℕ) : Type 0 where
  pub fits : rest < 2 ^ 64
  pub long : length levels ≡ length before
  pub sum : (t : ℕ) → cond (has rest t) level (get_or levels t 0) ≡ cond (has w t) level (get_or before t 0)

pub marked-none : (before : List ℕ) (w level : ℕ) → w < 2 ^ 64 → Marked before w level before w
marked-none before w level fits = record { fits = fits; long = refl; sum = λ t. refl }

module _ {before : List ℕ} {w level : ℕ} {levels : List ℕ} {rest : ℕ} (marked : Marked before w level levels rest) where
  pub marked_next : {s left : ℕ} → Without rest s left → s < length levels → Marked before w level (set levels s level) left
  marked_next {s} {left} out l =
      record {
        fits = let less = out.less in let fits = marked.fits in omega arith;
        long = length-set levels s level ∙ marked.long;
        sum = λ t. ap (λ (b : Bool). cond b level (get_or (set levels s level) t 0)) (out.others t) ∙ go t ∙ marked.sum t;
      }
    where
      go : (t : ℕ) → cond (has rest t && not (eqb t s)) level (get_or (set levels s level) t 0) ≡ cond (has rest t) level (get_or levels t 0)
      go t =
          let new = get_or (set levels s level) t 0 in
          by_cases (λ (b : Bool). eqb t s ≡ b → cond (has rest t && not b) level new ≡ cond (has rest t) level (get_or levels t 0)) (eqb t s)
          (λ _ e.
          let same = eqb-true t s e in
          ap (λ (b : Bool). cond b level new) (and-false (has rest t))
          ∙ ap (λ (i : ℕ). get_or (set levels s level) i 0) same ∙ get_or-set_same levels s level 0 l
          ∙ sym (ap (λ (b : Bool). cond b level (get_or levels t 0)) (ap (λ (i : ℕ). has rest i) same ∙ out.member)))
          (λ _ e. ap₂ (λ (b : Bool) (v : ℕ). cond b level v) (and-true (has rest t)) (get_or-set_other levels s t level 0 (eqb-false t s e)))
          refl

  pub marked_all : rest ≡ 0 → (t : ℕ) → get_or levels t 0 ≡ cond (has w t) level (get_or before t 0)
  marked_all end t = sym (ap (λ (b : Bool). cond b level (get_or levels t 0)) (ap (λ (x : ℕ). has x t) end ∙ has-none t)) ∙ marked.sum t
