-- A list of repairs that is judged as a whole: each allowed at its step, and nothing erased at the end.
-- Assumes nothing.
use mathlib.Core.Path.{◌≡◌, refl, sym, ◌∙◌, ap}
use mathlib.Core.Bool.{Bool, true, false, ◌&&◌, and-true, and_assoc}
use mathlib.Core.Logic.{◌↔◌}
use mathlib.Core.List.{List, ◌∷◌, ◌++◌, []}
use Prim.Native.Nat.{ℕ, ◌*◌, ◌<◌}
use native.Mathlib.Omega.{arith}
use borrow.Author.Tests.{eq-eqb, eqb-true}
use lib.Dec.{eqb}
use lib.ListN.{length}
use Rattle.stripes.specs.Fold.{count}
use Rattle.stripes.specs.System.{Layout, whole, Codeword, Bytes, consistent}
use Rattle.stripes.specs.Erased.{without, Agree, Belongs}
use Rattle.stripes.specs.Repair.{Entry, allowed, Peels, repairs, after, residual, fatal, rebuilt, all_allowed, clears, residual_count}
use Rattle.stripes.proofs.Fold.{same_test, by_cases, and_left, and_right, and_both, count-zero-none}
use Rattle.stripes.proofs.Peel.{stuck_stays, repairs_peels, residual_stuck, residual_sub, not-fatal, peel-count, residual-none, after_append}
use Rattle.stripes.proofs.Restore.{Bounded, consistent_belongs, rebuilt_is}
use Rattle.stripes.proofs.Bytes.{whole-inside}
use Rattle.stripes.proofs.Split.{peels_append, fatal-after}

module _ (L : Layout) where
  -- The test says what Peels says.
  pub all_allowed_peels : (e : ℕ → Bool) (w : List Entry) → all_allowed L e w ≡ true → Peels L e w
  unfolding all_allowed
  all_allowed_peels e [] h = tt
  all_allowed_peels e (r ∷ rs) h = (
    and_left (allowed L e r.disk r.stripe) _ h,
    all_allowed_peels (without e r.disk) rs (and_right (allowed L e r.disk r.stripe) _ h),
  )

  pub peels_all_allowed : (e : ℕ → Bool) (w : List Entry) → Peels L e w → all_allowed L e w ≡ true
  unfolding all_allowed
  peels_all_allowed e [] p = refl
  peels_all_allowed e (r ∷ rs) p = and_both p.0 (peels_all_allowed (without e r.disk) rs p.1)

  -- One repair more, and one that stands before others.
  pub all_allowed_append : (e : ℕ → Bool) (v w : List Entry) → all_allowed L e (v ++ w) ≡ (all_allowed L e v && all_allowed L (after e v) w)
  unfolding all_allowed after
  all_allowed_append e [] w = refl
  all_allowed_append e (r ∷ rs) w =
      ap (λ (t : Bool). allowed L e r.disk r.stripe && t) (all_allowed_append (without e r.disk) rs w)
      ∙ sym (and_assoc (allowed L e r.disk r.stripe) _ _)

  pub all_allowed_snoc : (e : ℕ → Bool) (w : List Entry) (r : Entry)
      → all_allowed L e (w ++ (r ∷ [])) ≡ (all_allowed L e w && allowed L (after e w) r.disk r.stripe)
  unfolding all_allowed
  all_allowed_snoc e w r =
      all_allowed_append e w (r ∷ [])
      ∙ ap (λ (t : Bool). all_allowed L e w && t) (and-true (allowed L (after e w) r.disk r.stripe))

  -- Nothing is left erased if there are as many repairs as erased disks.
  pub clears-count : (e : ℕ → Bool) (w : List Entry) → all_allowed L e w ≡ true → clears L e w ≡ eqb (length w) (count L.disks e)
  unfolding clears
  clears-count e w h =
      let all = peel-count L e w (all_allowed_peels e w h) in
      ap (λ (t : Bool). t && eqb (count L.disks (after e w)) 0) h
      ∙ same_test (eqb (count L.disks (after e w)) 0) (eqb (length w) (count L.disks e))
      (λ q. let none = eqb-true (count L.disks (after e w)) 0 q in eq-eqb (length w) (count L.disks e) (omega arith))
      (λ q. let same = eqb-true (length w) (count L.disks e) q in eq-eqb (count L.disks (after e w)) 0 (omega arith))

  pub clears_peels : (e : ℕ → Bool) (w : List Entry) → clears L e w ≡ true → Peels L e w
  unfolding clears
  clears_peels e w h = all_allowed_peels e w (and_left (all_allowed L e w) _ h)

  pub clears-none : (e : ℕ → Bool) (w : List Entry) → clears L e w ≡ true → count L.disks (after e w) ≡ 0
  unfolding clears
  clears-none e w h = eqb-true _ 0 (and_right (all_allowed L e w) _ h)

  pub clears-left : (e : ℕ → Bool) (w : List Entry) → clears L e w ≡ true → (d : ℕ) → d < L.disks → after e w d ≡ false
  clears-left e w h = count-zero-none L.disks (after e w) (clears-none e w h)

  -- So there is a repair for each erased disk.
  pub clears-length : (e : ℕ → Bool) (w : List Entry) → clears L e w ≡ true → length w ≡ count L.disks e
  clears-length e w h = let none = clears-none e w h in let all = peel-count L e w (clears_peels e w h) in omega arith

  -- A list that leaves nothing erased exists just where the loss is not fatal: none does where it is, and else plan's is one.
  pub clears-fine : (e : ℕ → Bool) (w : List Entry) → clears L e w ≡ true → fatal L e ≡ false
  clears-fine e w h =
      (not-fatal L e).1
      (λ d l.
      by_cases (λ (t : Bool). t ≡ false) (residual L e d)
      (λ k.
      sym (stuck_stays L (residual L e) e (λ i b. residual_sub L e i) (residual_stuck L e) w (clears_peels e w h) d l k)
      ∙ clears-left e w h d l)
      (λ k. refl))

  pub repairs-clear : (e : ℕ → Bool) → fatal L e ≡ false → clears L e (repairs L e) ≡ true
  unfolding clears residual_count residual
  repairs-clear e fine = and_both (peels_all_allowed e (repairs L e) (repairs_peels L e)) (eq-eqb _ 0 (residual-none L e fine))

  -- Any repairs of such a loss, and then plan's repairs of what they leave, are one.
  pub rest-clears : (e : ℕ → Bool) → fatal L e ≡ false → (v : List Entry) → Peels L e v → clears L e (v ++ repairs L (after e v)) ≡ true
  unfolding clears residual_count residual
  rest-clears e fine v p =
      let f : ℕ → Bool = after e v in
      and_both (peels_all_allowed e (v ++ repairs L f) (peels_append L e v (repairs L f) p (repairs_peels L f)))
      (eq-eqb _ 0
      (ap (count L.disks) (after_append e v (repairs L f)) ∙ residual-none L f (fatal-after L e v p ∙ fine)))

-- What such a list makes of an array.
module _ (L : Layout) (bounded : Bounded L) (B : ℕ) (e : ℕ → Bool) (a : List ℕ) (sized : length a ≡ L.disks * (whole B).block) where
  -- It restores the codeword that the survivors belong to, and tells whether there is one.
  pub clears-restored : (w : List Entry) → clears L e w ≡ true → (b : List ℕ) → Codeword L (whole B) b → Agree L (whole B) e a b
      → rebuilt L (whole B) a w ≡ b
  clears-restored w h b = rebuilt_is L bounded B e w (clears_peels L e w h) (clears-left L e w h) a b sized

  pub clears_judged : (w : List Entry) → clears L e w ≡ true → Bytes a
      → (consistent L (whole B) (rebuilt L (whole B) a w) ≡ true) ↔ Belongs L (whole B) e a
  clears_judged w h = consistent_belongs L bounded (whole B) (whole-inside B) e w (clears_peels L e w h) (clears-left L e w h) a sized

  -- So two such lists are judged alike, and make the same array where all sums are zero.
  pub clears-alike : Bytes a → (v w : List Entry) → clears L e v ≡ true → clears L e w ≡ true
      → (consistent L (whole B) (rebuilt L (whole B) a v) ≡ consistent L (whole B) (rebuilt L (whole B) a w))
      × (consistent L (whole B) (rebuilt L (whole B) a w) ≡ true → rebuilt L (whole B) a v ≡ rebuilt L (whole B) a w)
  clears-alike small v w h k =
      let (to, of) = clears_judged v h small in
      let (to₂, of₂) = clears_judged w k small in (
        same_test _ _ (λ c. of₂ (to c)) (λ c. of (to₂ c)),
        λ c. let (b, word, agree) = to₂ c in clears-restored v h b word agree ∙ sym (clears-restored w k b word agree),
      )
