-- Repairs of some disks look at no erased disks but those that share a stripe with them: peeling a side on a working map that has it and
-- the wanted disk alone is peeling it on the whole map.
-- Assumes nothing.
use mathlib.Core.Path.{◌≡◌, refl, sym, ◌∙◌, ap, ap₂}
use mathlib.Core.Bool.{Bool, true, false, cond, not, ◌&&◌, ◌||◌, true≢false, or-true, or-false, and-false}
use mathlib.Core.List.{List, [], ◌∷◌}
use Prim.Native.Nat.{ℕ, zero, suc, ◌<◌}
use borrow.Author.Tests.{eqb-true, eqb-false, ltb-true}
use lib.Dec.{eqb, ltb}
use Rattle.stripes.specs.System.{Layout, TwoStripes, on, lower}
use Rattle.stripes.specs.Erased.{without}
use Rattle.stripes.specs.Repair.{Entry, allowed, some_allowed, first_allowed, next_disk, repair_of, peel, any_disk, after}
use Rattle.stripes.specs.Joined.{joined}
use Rattle.stripes.specs.Wanted.{on_side, side_repairs, serves}
use Rattle.stripes.proofs.Fold.{by_cases, same_test, lowest_ext}
use Rattle.stripes.proofs.Peel.{Allowed, allowed_is, allowed_of, without_at, without_other, without_sub, next-chosen}
use Rattle.stripes.proofs.Alone.{none-present}
use Rattle.stripes.proofs.Joined.{joined_self, joined_back, joined_chain}
use Rattle.stripes.proofs.Side.{on-joined, on_side_lem, side_erased, side_joined, side_waits}

-- ---- one repair

-- Two sets of erased disks agree on a stripe.
abbrev pub Alike : Layout → (e f : ℕ → Bool) → (s : ℕ) → Type 0
Alike L e f s = (j : ℕ) → j < L.disks → on L j s ≡ true → e j ≡ f j

module _ (L : Layout) where
  allowed-from : (e f : ℕ → Bool) (i s : ℕ) → Alike L e f s → allowed L e i s ≡ true → allowed L f i s ≡ true
  allowed-from e f i s same h =
      let a : Allowed L e i s = allowed_is L e i s h in
      allowed_of
      (record {
        disk = a.disk;
        erased = sym (same i a.disk a.here) ∙ a.erased;
        here = a.here;
        only = λ j l n k.
            by_cases (λ (b : Bool). on L j s ≡ b → b ≡ false) (on L j s)
            (λ q w. sym w ∙ a.only j l n (same j l w ∙ k)) (λ q w. refl) refl;
      })

  pub allowed-alike : (e f : ℕ → Bool) (i s : ℕ) → Alike L e f s → allowed L e i s ≡ allowed L f i s
  allowed-alike e f i s same =
      same_test _ _ (allowed-from e f i s same) (allowed-from f e i s (λ j l k. sym (same j l k)))

-- After the same repairs they still agree.
pub after-alike : (e f : ℕ → Bool) (w : List Entry) (j : ℕ) → e j ≡ f j → after e w j ≡ after f w j
unfolding after without
after-alike e f [] j same = same
after-alike e f (r ∷ rs) j same = after-alike (without e r.disk) (without f r.disk) rs j (ap (λ (b : Bool). b && not (eqb j r.disk)) same)

-- ---- repairs of the disks of c
module _ (L : Layout) (c : ℕ → Bool) where
  -- Two sets agree on all stripes of these disks.
  abbrev Near : (e f : ℕ → Bool) → Type 0
  Near e f = (i s : ℕ) → i < L.disks → c i ≡ true → on L i s ≡ true → Alike L e f s

  module _ (e f : ℕ → Bool) (near : Near e f) (i : ℕ) (l : i < L.disks) (h : c i ≡ true) where
    allowed-near : (s : ℕ) → allowed L e i s ≡ allowed L f i s
    allowed-near s =
        by_cases (λ (b : Bool). on L i s ≡ b → allowed L e i s ≡ allowed L f i s) (on L i s)
        (λ q k. allowed-alike L e f i s (near i s l h k))
        (λ q k. same_test _ _ (λ z. absurd (off e k z)) (λ z. absurd (off f k z))) refl
      where
        off : (g : ℕ → Bool) → on L i s ≡ false → allowed L g i s ≡ true → ⊥
        off g k z = true≢false (sym (allowed_is L g i s z).here ∙ k)

    some_near : (ss : List ℕ) → some_allowed L e i ss ≡ some_allowed L f i ss
    unfolding some_allowed
    some_near [] = refl
    some_near (s ∷ ss) = ap₂ (λ (a b : Bool). a || b) (allowed-near s) (some_near ss)

    first-near : (ss : List ℕ) → first_allowed L e i ss ≡ first_allowed L f i ss
    unfolding first_allowed
    first-near [] = refl
    first-near (s ∷ ss) = ap₂ (λ (a : Bool) (t : ℕ). cond a s t) (allowed-near s) (first-near ss)

  next-near : (e f : ℕ → Bool) → Near e f → next_disk L c e ≡ next_disk L c f
  unfolding next_disk
  next-near e f near =
      lowest_ext L.disks (λ i l.
      by_cases (λ (b : Bool). c i ≡ b → (b && some_allowed L e i (L.through i)) ≡ (b && some_allowed L f i (L.through i))) (c i)
      (λ q h. some_near e f near i l h (L.through i)) (λ q h. refl) refl)

  peel-near : (k : ℕ) (e f : ℕ → Bool) → Near e f → peel L c k e ≡ peel L c k f
  unfolding peel repair_of without
  peel-near zero e f near = refl
  peel-near (suc k) e f near =
      let d : ℕ = next_disk L c f in
      rw (next-near e f near)
      (by_cases (λ (b : Bool). ltb d L.disks ≡ b
      → cond b (repair_of L e d ∷ peel L c k (without e d)) [] ≡ cond b (repair_of L f d ∷ peel L c k (without f d)) []) (ltb d L.disks)
      (λ q h.
      let l : d < L.disks = ltb-true d L.disks h in
      ap₂ (λ (s : ℕ) (w : List Entry). record { disk = d; stripe = s } ∷ w) (first-near e f near d l (next-chosen L c f l) (L.through d))
      (peel-near k (without e d) (without f d) (λ i s m z w j n y. ap (λ (b : Bool). b && not (eqb j d)) (near i s m z w j n y))))
      (λ q h. refl) refl)

-- Which disks may be repaired matters for erased disks only.
module _ (L : Layout) (b c : ℕ → Bool) where
  next-erased-choice : (e : ℕ → Bool) → ((i : ℕ) → i < L.disks → e i ≡ true → b i ≡ c i) → next_disk L b e ≡ next_disk L c e
  unfolding next_disk
  next-erased-choice e same =
      lowest_ext L.disks (λ i l.
      by_cases (λ (x : Bool). e i ≡ x → (b i && some_allowed L e i (L.through i)) ≡ (c i && some_allowed L e i (L.through i))) (e i)
      (λ q h. ap (λ (x : Bool). x && some_allowed L e i (L.through i)) (same i l h))
      (λ q h. rw (none-present L e i h (L.through i)) (and-false (b i) ∙ sym (and-false (c i)))) refl)

  peel-erased-choice : (k : ℕ) (e : ℕ → Bool) → ((i : ℕ) → i < L.disks → e i ≡ true → b i ≡ c i) → peel L b k e ≡ peel L c k e
  unfolding peel
  peel-erased-choice zero e same = refl
  peel-erased-choice (suc k) e same =
      let d : ℕ = next_disk L c e in
      rw (next-erased-choice e same)
      (ap (λ (w : List Entry). cond (ltb d L.disks) (repair_of L e d ∷ w) [])
      (peel-erased-choice k (without e d) (λ i l h. same i l (without_sub e d i h))))

-- ---- the side of a wanted disk, with the disk and nothing else
module _ (L : Layout) (two : TwoStripes L) (e : ℕ → Bool) (d s : ℕ) (erased : e d ≡ true) where
  abbrev pub sideWith : ℕ → Bool
  sideWith i = on_side L e d s i || eqb i d

  -- On a stripe joined with s it has all erased disks.
  whole-on : (t : ℕ) → joined L (without e d) t s ≡ true → Alike L e sideWith t
  whole-on t j i l k =
      by_cases (λ (b : Bool). eqb i d ≡ b → e i ≡ (on_side L e d s i || b)) (eqb i d)
      (λ q h. ap e (eqb-true i d h) ∙ erased ∙ sym (or-true (on_side L e d s i)))
      (λ q h.
      same_test (e i) (on_side L e d s i || false)
      (λ z. ap (λ (b : Bool). b || false) (on_side_lem L two e d s i t l (without_other e d i (eqb-false i d h) ∙ z) k j))
      (λ z. without_sub e d i (side_erased L two e d s i (sym (or-false (on_side L e d s i)) ∙ z)))) refl

  -- So the repairs made there while the disk is held back are those of the side,
  pub held_side : peel L (without any_disk d) L.disks sideWith ≡ side_repairs L e d s
  unfolding side_repairs
  held_side =
      let c : ℕ → Bool = on_side L e d s in
      peel-erased-choice L (without any_disk d) c L.disks sideWith
      (λ i l h.
      by_cases (λ (b : Bool). eqb i d ≡ b → without any_disk d i ≡ c i) (eqb i d)
      (λ q k. rw (eqb-true i d k) (without_at any_disk d ∙ sym (side_waits L two e d s)))
      (λ q k.
      let here : c i ≡ true = sym (or-false (c i)) ∙ ap (λ (b : Bool). c i || b) (sym k) ∙ h in
      without_other any_disk d i (eqb-false i d k) ∙ sym here) refl)
      ∙ sym (peel-near L c L.disks e sideWith
      (λ i t l h k.
      let g : ℕ → Bool = without e d in
      whole-on t
      (joined_chain L g t (lower L i) s (joined_back L g (lower L i) t (on-joined L two i l g (side_erased L two e d s i h) t k))
      (side_joined L two e d s i h))))

  -- and the disk can then be repaired by s there exactly if s serves.
  pub held-serves : allowed L (after sideWith (peel L (without any_disk d) L.disks sideWith)) d s ≡ serves L e d s
  unfolding serves
  held-serves =
      rw held_side
      (sym (allowed-alike L (after e (side_repairs L e d s)) (after sideWith (side_repairs L e d s)) d s
      (λ j l k. after-alike e sideWith (side_repairs L e d s) j (whole-on s (joined_self L (without e d) s) j l k))))
