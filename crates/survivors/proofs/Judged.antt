-- The survivors judged part by part.
-- Assumes nothing.
use mathlib.Core.Path.{◌≡◌, sym, ◌∙◌, ap}
use mathlib.Core.Bool.{Bool, true, false, not, ◌||◌}
use mathlib.Core.List.{List}
use Prim.Native.Nat.{ℕ, ◌+◌, ◌<◌}
use native.Mathlib.Nat.{not-suc-le-zero}
use native.Mathlib.Omega.{arith}
use borrow.Author.Tests.{eq-eqb}
use lib.Dec.{eqb}
use lib.ListN.{get_or}
use Rattle.stripes.specs.Fold.{gate, every}
use Rattle.stripes.specs.System.{Layout, TwoStripes}
use Rattle.stripes.specs.Joined.{joined, part}
use Rattle.stripes.specs.Undetermined.{survivor_sum, part_sum, parts_cancel}
use Rattle.stripes.specs.declared.Stretch.{Stretch}
use Rattle.stripes.proofs.Fold.{or_right, xsum_ext, every_ext, every_all, every-not, below_suc}
use Rattle.stripes.proofs.Joined.{joined-part, is_joined, part-bound}
use Rattle.parts.specs.Parted.{Parted}
use Rattle.sums.specs.Cut.{in_part, cut_sum}
use Rattle.survivors.proofs.Parts.{in_part_lem, cut_is}

-- The sum over the part of stripe t is zero at each place: a test.
abbrev pub part_cancels : Layout → Stretch → (e : ℕ → Bool) → List ℕ → ℕ → Bool
part_cancels L x e a t = every x.width (λ p. eqb (part_sum L x e e a p t) 0)

-- It holds of each stripe below k that names its part.
pub record Passing (L : Layout) (x : Stretch) (e : ℕ → Bool) (a parts : List ℕ) (k : ℕ) : Type 0 where
  pub passes : (t : ℕ) → t < k → get_or parts t 0 ≡ t → part_cancels L x e a t ≡ true

module _ {L : Layout} (two : TwoStripes L) (x : Stretch) {e : ℕ → Bool} {parts : List ℕ} (p : Parted L e L.disks parts) (a : List ℕ) where
  -- What the code tests of a stripe: that it does not name its part, or that the sum cancels.
  abbrev cut : ℕ → Bool
  cut t = every x.width (λ q. eqb (cut_sum L x e (in_part parts (get_or parts t 0)) a q) 0)

  abbrev Tests : ℕ → Bool → Type 0
  Tests t b = b ≡ (not (eqb (get_or parts t 0) t) || cut t)

  cut-tests : (t : ℕ) → t < L.stripe_bound → cut t ≡ part_cancels L x e a t
  cut-tests t h = every_ext x.width (λ q l. ap (λ (v : ℕ). eqb v 0) (cut_is two x e e parts (get_or parts t 0) t (in_part_lem p t h) a q))

  -- The sum over a part can be taken from any of its stripes.
  same-part : (s t : ℕ) → part L e s ≡ part L e t → (q : ℕ) → part_sum L x e e a q s ≡ part_sum L x e e a q t
  unfolding part_sum joined
  same-part s t is q = xsum_ext L.stripe_bound (λ i l. ap (λ (n : ℕ). gate (eqb (part L e i) n) (survivor_sum L x e a q i)) is)

  -- Every part is named by one of its stripes.
  pub all_pass : Passing L x e a parts L.stripe_bound → true ≡ parts_cancel L x e a
  unfolding parts_cancel part
  all_pass passing =
      sym (every_all L.stripe_bound
      (λ t h.
      let n : ℕ = part L e t in
      let l : n < L.stripe_bound = part-bound L e two L.stripe_bound (omega arith) L.disks t (omega arith) h in
      let fits = p.stripes_fit in
      let own : part L e t ≡ part L e n = is_joined L e t n (joined-part L e t) in
      every_ext x.width (λ q k. ap (λ (v : ℕ). eqb v 0) (same-part t n own q)) ∙ passing.passes n l (p.named n (omega arith) ∙ sym own)))

  pub one_fails : (t : ℕ) → t < L.stripe_bound → {b : Bool} → Tests t b → b ≡ false → false ≡ parts_cancel L x e a
  unfolding parts_cancel
  one_fails t h is fails = sym (every-not L.stripe_bound _ t h (sym (cut-tests t h) ∙ or_right (not (eqb (get_or parts t 0) t)) (cut t) (sym is ∙ fails)))

  pub passing_next : (k : ℕ) → k < L.stripe_bound → Passing L x e a parts k → {b : Bool} → Tests k b → b ≡ true → Passing L x e a parts (k + 1)
  passing_next k h before is holds =
      record {
        passes = λ t l.
            below_suc (λ (t : ℕ). get_or parts t 0 ≡ t → part_cancels L x e a t ≡ true) k before.passes
            (λ own. sym (cut-tests k h) ∙ sym (ap (λ (u : Bool). not u || cut k) (eq-eqb (get_or parts k 0) k own)) ∙ sym is ∙ holds) t (omega arith);
      }

pub passing_none : {L : Layout} {x : Stretch} {e : ℕ → Bool} {a parts : List ℕ} → Passing L x e a parts 0
passing_none = record { passes = λ t h. absurd (not-suc-le-zero h) }
