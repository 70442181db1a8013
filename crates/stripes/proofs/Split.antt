-- Lists of repairs cut in two and made one after another; and plan's order, which has no memory: after its first k repairs it goes on with
-- the rest of them.
-- Assumes nothing.
use mathlib.Core.Path.{◌≡◌, refl, sym, ◌∙◌, ap, subst}
use mathlib.Core.Bool.{Bool}
use mathlib.Core.List.{List, ◌∷◌, ◌++◌, []}
use Prim.Native.Nat.{ℕ, zero, suc, ◌+◌, ◌-◌, ◌≤◌, ◌<◌}
use native.Mathlib.Nat.{le_of_suc-le-suc, not-suc-le-zero}
use native.Mathlib.Decide.{dec_lt}
use native.Mathlib.Omega.{arith}
use lib.Dec.{ltb}
use lib.ListN.{length, set, take, drop, length-set}
use Rattle.stripes.specs.Fold.{count}
use Rattle.stripes.specs.System.{Layout}
use Rattle.stripes.specs.Erased.{erasures, without}
use Rattle.stripes.specs.Repair.{Entry, Peels, next_disk, repair_of, peel, any_disk, repairs, after, map_after, residual, residual_count, fatal, repaired, rebuilt}
use Rattle.stripes.specs.declared.Stretch.{Stretch}
use Rattle.stripes.proofs.Fold.{count_le, count-without}
use Rattle.stripes.proofs.Erased.{erasures-clear}
use Rattle.stripes.proofs.Peel.{Allowed, allowed_is, after_append, next-allowed, ended_none, peel-next, peel-none, peel_peels, none_stuck, peel-count, Stuck, repairs_peels, residual_stuck, order_free_all}

-- ---- lists made one after another
module _ (L : Layout) where
  pub peels_take : (e : ℕ → Bool) (k : ℕ) (w : List Entry) → Peels L e w → Peels L e (take k w)
  peels_take e zero w p = tt
  peels_take e (suc k) [] p = tt
  peels_take e (suc k) (r ∷ rs) p = (p.0, peels_take (without e r.disk) k rs p.1)

  pub peels_append : (e : ℕ → Bool) (v w : List Entry) → Peels L e v → Peels L (after e v) w → Peels L e (v ++ w)
  unfolding after
  peels_append e [] w p q = q
  peels_append e (r ∷ rs) w p q = (p.0, peels_append (without e r.disk) rs w p.1 q)

  pub peels_first : (e : ℕ → Bool) (v w : List Entry) → Peels L e (v ++ w) → Peels L e v
  peels_first e [] w p = tt
  peels_first e (r ∷ rs) w p = (p.0, peels_first (without e r.disk) rs w p.1)

  pub peels_second : (e : ℕ → Bool) (v w : List Entry) → Peels L e (v ++ w) → Peels L (after e v) w
  unfolding after
  peels_second e [] w p = p
  peels_second e (r ∷ rs) w p = peels_second (without e r.disk) rs w p.1

  pub rebuilt_append : (x : Stretch) (a : List ℕ) (v w : List Entry) → rebuilt L x a (v ++ w) ≡ rebuilt L x (rebuilt L x a v) w
  unfolding rebuilt
  rebuilt_append x a [] w = refl
  rebuilt_append x a (r ∷ rs) w = rebuilt_append x (repaired L x a r) rs w

pub map_after_append : (m : List ℕ) (v w : List Entry) → map_after m (v ++ w) ≡ map_after (map_after m v) w
unfolding map_after
map_after_append m [] w = refl
map_after_append m (r ∷ rs) w = map_after_append (set m r.disk 0) rs w

pub length-map_after : (m : List ℕ) (w : List Entry) → length (map_after m w) ≡ length m
unfolding map_after
length-map_after m [] = refl
length-map_after m (r ∷ rs) = length-map_after (set m r.disk 0) rs ∙ length-set m r.disk 0

-- ---- the map says what is still erased
pub erasures-after : (m : List ℕ) (w : List Entry) → erasures (map_after m w) ≡ after (erasures m) w
unfolding map_after after
erasures-after m [] = refl
erasures-after m (r ∷ rs) = erasures-after (set m r.disk 0) rs ∙ ap (λ (e : ℕ → Bool). after e rs) (erasures-clear m r.disk)

-- ---- plan's order
module _ (L : Layout) (c : ℕ → Bool) where
  -- More steps than there are erased disks show nothing new.
  pub peel_enough : (j i : ℕ) (e : ℕ → Bool) → count L.disks e ≤ j → j ≤ i → peel L c i e ≡ peel L c j e
  unfolding peel without repair_of
  peel_enough zero i e none l = peel-none L c i e (ended_none L c e (λ d s h. none_stuck L e (omega arith) d s))
  peel_enough (suc j) zero e few l = absurd (not-suc-le-zero l)
  peel_enough (suc j) (suc i) e few l =
      go (dec_lt (next_disk L c e) L.disks) (λ few. peel_enough j i (without e (next_disk L c e)) few (le_of_suc-le-suc l))
    where
      go : Dec (next_disk L c e < L.disks)
          → (count L.disks (without e (next_disk L c e)) ≤ j → peel L c i (without e (next_disk L c e)) ≡ peel L c j (without e (next_disk L c e)))
          → peel L c (suc i) e ≡ peel L c (suc j) e
      go (no n) up = peel-none L c (suc i) e n ∙ sym (peel-none L c (suc j) e n)
      go (yes h) up =
          let a : Allowed L e (next_disk L c e) (repair_of L e (next_disk L c e)).stripe = allowed_is L e _ _ (next-allowed L c e h) in
          let fewer = count-without L.disks e (next_disk L c e) h a.erased in
          peel-next L c i e h
          ∙ ap (λ (w : List Entry). repair_of L e (next_disk L c e) ∷ w) (up (omega arith))
          ∙ sym (peel-next L c j e h)

  -- Repairs leave no more disks erased than there were.
  after_fewer : (e : ℕ → Bool) (w : List Entry) → Peels L e w → count L.disks (after e w) ≤ count L.disks e
  after_fewer e w p = let all = peel-count L e w p in omega arith

  -- After k repairs plan's order goes on with those that follow them.
  peel-rest : (n k : ℕ) (e : ℕ → Bool) → count L.disks e ≤ n
      → peel L c n (after e (take k (peel L c n e))) ≡ drop k (peel L c n e)
  unfolding peel after repair_of without
  peel-rest n zero e few = refl
  peel-rest zero (suc k) e few = refl
  peel-rest (suc n) (suc k) e few = go (dec_lt (next_disk L c e) L.disks) (peel-rest n k (without e (next_disk L c e)))
    where
      e₂ : ℕ → Bool
      e₂ = without e (next_disk L c e)

      go : Dec (next_disk L c e < L.disks)
          → (count L.disks e₂ ≤ n → peel L c n (after e₂ (take k (peel L c n e₂))) ≡ drop k (peel L c n e₂))
          → peel L c (suc n) (after e (take (suc k) (peel L c (suc n) e))) ≡ drop (suc k) (peel L c (suc n) e)
      go (no none) up = rw (peel-none L c (suc n) e none) (peel-none L c (suc n) e none)
      go (yes h) up =
          let a : Allowed L e (next_disk L c e) (repair_of L e (next_disk L c e)).stripe = allowed_is L e _ _ (next-allowed L c e h) in
          let fewer = count-without L.disks e (next_disk L c e) h a.erased in
          let w : List Entry = take k (peel L c n e₂) in
          let less = after_fewer e₂ w (peels_take L e₂ k _ (peel_peels L c n e₂)) in
          rw (peel-next L c n e h) (peel_enough n (suc n) (after e₂ w) (omega arith) (omega arith) ∙ up (omega arith))

module _ (L : Layout) where
  pub repairs-rest : (k : ℕ) (e : ℕ → Bool) → repairs L (after e (take k (repairs L e))) ≡ drop k (repairs L e)
  unfolding repairs
  repairs-rest k e = peel-rest L any_disk L.disks k e (count_le L.disks e)

  -- After any repairs it leaves the same in the end as before them, and the loss stays fatal or not.
  pub residual-after : (e : ℕ → Bool) (v : List Entry) → Peels L e v → residual L (after e v) ≡ residual L e
  unfolding residual
  residual-after e v p =
      let f : ℕ → Bool = after e v in
      let all : after e (v ++ repairs L f) ≡ residual L f = after_append e v (repairs L f) in
      sym all
      ∙ order_free_all L e (v ++ repairs L f) (peels_append L e v (repairs L f) p (repairs_peels L f))
      (subst (Stuck L) (sym all) (residual_stuck L f))

  pub fatal-after : (e : ℕ → Bool) (v : List Entry) → Peels L e v → fatal L (after e v) ≡ fatal L e
  unfolding fatal residual_count
  fatal-after e v p = ap (λ (c : ℕ → Bool). ltb 0 (count L.disks c)) (residual-after e v p)

  pub fatal-rest : (k : ℕ) (e : ℕ → Bool) → fatal L (after e (take k (repairs L e))) ≡ fatal L e
  fatal-rest k e = fatal-after e (take k (repairs L e)) (peels_take L e k (repairs L e) (repairs_peels L e))
