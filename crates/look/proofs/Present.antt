-- The test of a part of a map: no byte of it is other than zero.
-- Assumes nothing.
use mathlib.Core.Path.{◌≡◌, sym, ◌∙◌}
use mathlib.Core.Bool.{Bool, true, false}
use mathlib.Core.List.{List}
use Prim.Native.Nat.{ℕ, ◌+◌, ◌≤◌, ◌<◌}
use native.Mathlib.Omega.{arith}
use borrow.Author.Tests.{eq-eqb, ne_eqb}
use lib.Dec.{eqb}
use lib.ListN.{length, get_or, take, drop}
use Rattle.std.proofs.lemmas.List.{get_or-take, get_or-drop, length-take, length-drop}
use Rattle.std.specs.Bool.{MatchBool}
use Rattle.std.specs.List.{AllWithin, HoldsAt}
use Rattle.stripes.specs.Fold.{every}
use Rattle.stripes.proofs.Fold.{every_all, every-not}

module _ (m : List ℕ) (at n : ℕ) (inside : at + n ≤ length m) where
  -- The n bytes from `at` on.
  abbrev pub part : List ℕ
  part = take n (drop at m)

  part-length : length part ≡ n
  part-length = grind (arith, length-take, length-drop)

  part-at : (p : ℕ) → p < n → get_or part p 0 ≡ get_or m (at + p) 0
  part-at p h = get_or-take n (drop at m) p 0 h ∙ get_or-drop at m p 0

  -- What `all` answers over them.
  pub all_zero : (r : Bool)
      → MatchBool r (AllWithin (λ x. x ≡ 0) part 0 (length part)) ((k : ℕ) × (k < length part) × HoldsAt (λ x. x ≡ 0 → ⊥) part k)
      → r ≡ every n (λ p. eqb (get_or m (at + p) 0) 0)
  all_zero true all = let long = part-length in sym (every_all n (λ p l. eq-eqb _ 0 (sym (part-at p l) ∙ all p 0 (omega arith) (omega arith))))
  all_zero false (k, l, other) =
      let long = part-length in
      let here : k < n = omega arith in
      sym (every-not n _ k here (ne_eqb _ 0 (λ e. other 0 (part-at k here ∙ e))))
