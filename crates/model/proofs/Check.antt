-- What the answer of check says of the stripes: the lemmas behind the laws of check.
-- Assumes nothing.
use mathlib.Core.Path.{◌≡◌, refl, sym, ◌∙◌, ap, ap₂, subst}
use mathlib.Core.Bool.{Bool, true, false, cond, not, true≢false}
use mathlib.Core.Logic.{◌↔◌}
use mathlib.Core.List.{List}
use Prim.Native.Nat.{ℕ, ◌<◌}
use native.Mathlib.Nat.{le_of_lt, lt_of_lt_of_le}
use native.Mathlib.Omega.{arith}
use borrow.Author.Tests.{eqb-true, eqb-false, ltb-true, ltb-false, lt-ltb, le-ltb, not-true, not-false}
use lib.Dec.{eqb, ltb}
use lib.ListN.{length}
use Rattle.stripes.specs.Fold.{lowest}
use Rattle.stripes.specs.System.{whole, stripe_sum, sums_to_zero}
use Rattle.model.specs.Grid.{layout_of, column_base}
use Rattle.model.specs.Equations.{Equations}
use Rattle.model.specs.Refusal.{refusal, array_tests}
use Rattle.model.specs.Array.{lowest_unsealed, checked, check_status}
use Rattle.model.specs.declared.Size.{Size}
use Rattle.model.specs.Checked.{Checked}
use Rattle.model.specs.Checked.{Sealed, Unsealed, Refused}
use Rattle.stripes.proofs.Fold.{Lowest, lowest_is, lowest_unique}
use Rattle.stripes.proofs.Sums.{place_of_nonzero, sums_of_zero, nonzero_of_place, zero_of_sums}
use Rattle.model.proofs.Equations.{equations_iff_sums}
use Rattle.model.proofs.Refusal.{given-accepted, array-fits}
use Rattle.model.proofs.Grid.{rows-below}

-- What it tells that the answer is Sealed, or Unsealed.
of_sealed : (b : Bool) (k : ℕ) → cond b (Unsealed k) Sealed ≡ Sealed → b ≡ false
of_sealed true k e = cc
of_sealed false k e = refl

of_unsealed : (b : Bool) (k s : ℕ) → cond b (Unsealed k) Sealed ≡ Unsealed s → (b ≡ true) × (k ≡ s)
of_unsealed true k s e = (refl, cc)
of_unsealed false k s e = (cc, cc)

-- The answer for the lowest number of which a test holds: Sealed if there is none, else Unsealed with that number.
module _ (n : ℕ) (t : ℕ → Bool) where
  answer : Checked
  answer = cond (ltb (lowest n t) n) (Unsealed (lowest n t)) Sealed

  sealed-iff : (answer ≡ Sealed) ↔ ((s : ℕ) → s < n → t s ≡ false)
  unfolding answer
  sealed-iff =
      let low : Lowest n t (lowest n t) = lowest_is n t in (
        λ e s l. low.none s (lt_of_lt_of_le l (ltb-false (lowest n t) n (of_sealed _ _ e))),
        λ h.
            let no : ¬ (lowest n t < n) = λ l. true≢false (sym (low.found l) ∙ h (lowest n t) l) in
            ap (λ (b : Bool). cond b (Unsealed (lowest n t)) Sealed) (le-ltb (lowest n t) n (omega arith)),
      )

  unsealed-iff : (s : ℕ) → (answer ≡ Unsealed s) ↔ ((s < n) × (t s ≡ true) × ((i : ℕ) → i < s → t i ≡ false))
  unfolding answer
  unsealed-iff s = (
    λ e.
        let (b, k) = of_unsealed _ _ s e in
        let low : Lowest n t s = subst (Lowest n t) k (lowest_is n t) in
        let l : s < n = subst (λ (i : ℕ). i < n) k (ltb-true (lowest n t) n b) in
        (l, low.found l, low.none),
    λ h.
        let k : lowest n t ≡ s = lowest_unique n t _ _ (lowest_is n t) (record { within = le_of_lt h.0; none = h.2; found = λ l. h.1 }) in
        ap₂ (λ (b : Bool) (i : ℕ). cond b (Unsealed i) Sealed) (ap (λ (i : ℕ). ltb i n) k ∙ lt-ltb s n h.0) k,
  )

-- The answer of a check that is not refused.
module _ (z : Size) (B : ℕ) (a : List ℕ) (ok : refusal (array_tests z B (length a)) ≡ 0) where
  is-answer : checked z B a ≡ answer (layout_of z (column_base z)).stripe_bound (λ s. not (sums_to_zero (layout_of z (column_base z)) (whole B) a s))
  unfolding checked lowest_unsealed answer
  is-answer = given-accepted (refusal (array_tests z B (length a))) _ _ ok

  pub answer-sealed : (checked z B a ≡ Sealed) ↔ Equations z (whole B) a
  answer-sealed =
      let (sums, equations) = equations_iff_sums z (column_base z) (rows-below z (array-fits z B (length a) ok).size) (whole B) a in
      let (none, back) = sealed-iff (layout_of z (column_base z)).stripe_bound (λ s. not (sums_to_zero (layout_of z (column_base z)) (whole B) a s)) in (
        λ e. equations (λ s l. sums_of_zero (layout_of z (column_base z)) (whole B) a s (not-false _ (none (sym is-answer ∙ e) s l))),
        λ q. is-answer ∙ back (λ s l. ap not (zero_of_sums (layout_of z (column_base z)) (whole B) a s (sums q s l))),
      )

  pub answer_unsealed : (s : ℕ) → (checked z B a ≡ Unsealed s)
      ↔ ((s < (layout_of z (column_base z)).stripe_bound) × ((p : ℕ) × (p < B) × (stripe_sum (layout_of z (column_base z)) (whole B) a s p ≡ 0 → ⊥))
      × ((i : ℕ) → i < s → (p : ℕ) → p < B → stripe_sum (layout_of z (column_base z)) (whole B) a i p ≡ 0))
  unfolding whole
  answer_unsealed s =
      let (found, back) = unsealed-iff (layout_of z (column_base z)).stripe_bound (λ i. not (sums_to_zero (layout_of z (column_base z)) (whole B) a i)) s in (
        λ e.
            let (l, here, lower) = found (sym is-answer ∙ e) in
            (l, place_of_nonzero (layout_of z (column_base z)) (whole B) a s (not-true _ here), λ i k. sums_of_zero (layout_of z (column_base z)) (whole B) a i (not-false _ (lower i k))),
        λ h.
            let (p, b, q) = h.1 in
            is-answer
            ∙ back (h.0, ap not (nonzero_of_place (layout_of z (column_base z)) (whole B) a s p b q), λ i k. ap not (zero_of_sums (layout_of z (column_base z)) (whole B) a i (h.2 i k))),
      )

-- The number of an answer is 0 where it is Sealed, and never else.
of_zero : (k : ℕ) (b : Bool) (s : ℕ) → check_status (cond (eqb k 0) (cond b (Unsealed s) Sealed) (Refused k)) ≡ 0
    → (k ≡ 0) × (cond b (Unsealed s) Sealed ≡ Sealed)
unfolding check_status
of_zero k b s e = go (eqb k 0) refl b e
  where
    go : (t : Bool) → eqb k 0 ≡ t → (b : Bool) → check_status (cond t (cond b (Unsealed s) Sealed) (Refused k)) ≡ 0
        → (k ≡ 0) × (cond b (Unsealed s) Sealed ≡ Sealed)
    go true q true h = absurd (let z : ◌≡◌ {A = ℕ} 64 0 = h in omega arith)
    go true q false h = (eqb-true k 0 q, refl)
    go false q b h = absurd (eqb-false k 0 q h)

pub answer-zero : (z : Size) (B : ℕ) (a : List ℕ)
    → (check_status (checked z B a) ≡ 0) ↔ ((refusal (array_tests z B (length a)) ≡ 0) × Equations z (whole B) a)
unfolding checked check_status
answer-zero z B a = (
  λ e.
      let (ok, none) = of_zero (refusal (array_tests z B (length a))) (ltb (lowest_unsealed z B a) (layout_of z (column_base z)).stripe_bound) (lowest_unsealed z B a) e in
      (ok, (answer-sealed z B a ok).0 (given-accepted _ _ (Refused (refusal (array_tests z B (length a)))) ok ∙ none)),
  λ h. ap check_status ((answer-sealed z B a h.0).1 h.1),
)
