-- A set of disks is listed as a cycle in one way only, so that of the smallest cycle there is only one list.
-- Assumes nothing.
use mathlib.Core.Path.{◌≡◌, sym, ◌∙◌, ap, ap₂, subst, fun_ext}
use mathlib.Core.Bool.{Bool, true}
use mathlib.Core.Logic.{⊎_elim}
use mathlib.Core.List.{List}
use Prim.Native.Nat.{ℕ, zero, suc, ◌-◌, ◌≤◌, ◌<◌}
use native.Mathlib.Nat.{le_antisymm}
use native.Mathlib.Omega.{arith}
use borrow.Author.Tests.{ltb-false}
use lib.ListN.{length}
use lib.Seq.{ext_get_or}
use Rattle.stripes.specs.Fold.{count}
use Rattle.stripes.specs.System.{Layout, TwoStripes, on}
use Rattle.stripes.specs.Repair.{Entry, disk_of, stripe_of}
use Rattle.stripes.specs.Cycle.{Cycle, cycle_of}
use Rattle.stripes.specs.Smallest.{disks_of, ascending, Smallest}
use Rattle.stripes.proofs.Fold.{same_test}
use Rattle.stripes.proofs.Walk.{Walk}
use Rattle.stripes.proofs.Trace.{following-last, following_inner, walked, length-walked, entry_walked, walk_of, last_of, walk_of_lem, least, lower, fresh_of, returns, cycle_is, disk_of_lem, of_disk, cycle-length, cycle_paired}
use Rattle.stripes.proofs.Price.{digits, digits_same, earlier_digits}

-- ---- a cycle is the walk through its disks

-- Entry i of a list is r.
abbrev Holds : List Entry → ℕ → Entry → Type 0
Holds w i r = (disk_of w i ≡ r.disk) × (stripe_of w i ≡ r.stripe)

-- A walk through the disks of a cycle that begins with its lowest disk, along the lower stripe of that.
module _ (L : Layout) (e : ℕ → Bool) (w : List Entry) (y : Cycle L e w) (at : ℕ → Entry) (walk : Walk L (disks_of w) at)
    (low : (d : ℕ) → d < L.disks → disks_of w d ≡ true → (at 0).disk ≤ d)
    (near : (s : ℕ) → on L (at 0).disk s ≡ true → (at 0).stripe ≤ s) where
  -- The cycle begins so too,
  begins : Holds w 0 (at 0)
  begins =
      let start = walk.step 0 in
      let (k, b, q) = of_disk w (at 0).disk start.inside in
      let above = low (disk_of w 0) (y.disk 0 y.some) (disk_of_lem w 0 y.some) in
      let below = y.lowest_first k b in
      let same : disk_of w 0 ≡ (at 0).disk = omega arith in
      let over = near (stripe_of w 0) (ap (λ (d : ℕ). on L d (stripe_of w 0)) (sym same) ∙ y.here 0 y.some) in
      let under = y.lower_first (at 0).stripe (ap (λ (d : ℕ). on L d (at 0).stripe) same ∙ start.lies) in
      (same, omega arith)

  -- and goes on so, since on each stripe there is but one other disk, and that has but one other stripe.
  follows : (i : ℕ) → i < length w → Holds w i (at i)
  follows zero l = begins
  follows (suc i) l =
      let before : i < length w = omega arith in
      let (d, s) = follows i before in
      let next = following_inner w i l in
      let disk : disk_of w (suc i) ≡ (at (suc i)).disk =
      ⊎_elim (λ q. absurd (let back = y.different (suc i) i l before (q ∙ sym d) in omega arith)) (λ q. q)
      (walk.only_disk i (disk_of w (suc i)) (y.disk (suc i) l) (disk_of_lem w (suc i) l)
      (ap₂ (λ (j t : ℕ). on L (disk_of w j) t) (sym next) (sym s) ∙ y.there i before)) in (
        disk,
        ⊎_elim (λ q. absurd (y.turns i before (ap (stripe_of w) next ∙ q ∙ sym s))) (λ q. q)
            (walk.only_stripe i (stripe_of w (suc i)) (ap (λ (d : ℕ). on L d (stripe_of w (suc i))) (sym disk) ∙ y.here (suc i) l)),
      )

  -- It ends where the walk first comes back.
  module _ (m : ℕ) (fresh : (i : ℕ) → 0 < i → i ≤ m → (at i).disk ≡ (at 0).disk → ⊥) (back : (at (suc m)).disk ≡ (at 0).disk) where
    ends : length w ≡ suc m
    ends =
        let long : suc m < length w → ⊥ = λ l.
        let again = y.different (suc m) 0 l y.some ((follows (suc m) l).0 ∙ back ∙ sym begins.0) in
        omega arith in
        let some = y.some in
        let short : length w ≤ m → ⊥ = λ l. early (length w - 1) (omega arith) (omega arith) in
        omega arith
      where
        early : (k : ℕ) → suc k ≡ length w → suc k ≤ m → ⊥
        early k q l =
            let inside : k < length w = omega arith in
            let next = following-last w k q in
            let start = walk.step 0 in
            let (d, s) = follows k inside in
            ⊎_elim
            (λ r.
            let only = y.different 0 k y.some inside (begins.0 ∙ r ∙ sym d) in
            y.turns k inside (ap (stripe_of w) (next ∙ only)))
            (λ r. fresh (suc k) (omega arith) l (sym r))
            (walk.only_disk k (at 0).disk start.disk start.inside
            (ap₂ (on L) (sym begins.0 ∙ ap (disk_of w) (sym next)) (sym s) ∙ y.there k inside))

    listed : w ≡ walked at m
    unfolding disk_of stripe_of
    listed =
        ext_get_or (record { disk = 0; stripe = 0 }) w (walked at m) (ends ∙ sym (length-walked at m))
        (λ i l. ap₂ (λ (d s : ℕ). record { disk = d; stripe = s }) (follows i l).0 (follows i l).1 ∙ sym (entry_walked at m i (omega (arith, ends))))

-- So a cycle is the list that is shown of its disks.
pub cycle-listed : (L : Layout) → TwoStripes L → (e : ℕ → Bool) (w : List Entry) → Cycle L e w → w ≡ cycle_of L (disks_of w)
cycle-listed L two e w y =
    let c : ℕ → Bool = disks_of w in
    let p = cycle_paired L e w y in
    let d : ℕ = disk_of w 0 in
    let l = y.disk 0 y.some in
    let h = disk_of_lem w 0 y.some in
    listed L e w y (walk_of L c) (walk_of_lem L two c p d l h) (least L two c p d l h) (lower L two c p d l h)
    (last_of L c) (fresh_of L two c p d l h) (returns L two c p d l h)
    ∙ sym (cycle_is L two c p d l h)

-- Cycles of the same disks are the same list.
pub cycle-same : (L : Layout) → TwoStripes L → (e f : ℕ → Bool) (v w : List Entry) → Cycle L e v → Cycle L f w
    → ((d : ℕ) → d < L.disks → disks_of v d ≡ disks_of w d) → v ≡ w
cycle-same L two e f v w x y same =
    cycle-listed L two e v x
    ∙ ap (cycle_of L) (fun_ext (λ d.
    same_test (disks_of v d) (disks_of w d) (λ h. sym (same d (inside e v x d h)) ∙ h) (λ h. same d (inside f w y d h) ∙ h)))
    ∙ sym (cycle-listed L two f w y)
  where
    inside : (e : ℕ → Bool) (w : List Entry) → Cycle L e w → (d : ℕ) → disks_of w d ≡ true → d < L.disks
    inside e w y d h = let (i, l, q) = of_disk w d h in subst (λ (d : ℕ). d < L.disks) q (y.disk i l)

-- ---- the smallest cycle

-- Two smallest cycles are equally long, and the numbers of neither come before the other's, so that they have the same disks.
pub smallest-only : (L : Layout) → TwoStripes L → (e : ℕ → Bool) (v w : List Entry) → Smallest L e v → Smallest L e w → v ≡ w
unfolding ascending
smallest-only L two e v w p q =
    let x = p.cycle in
    let y = q.cycle in
    let longer = p.shortest w y in
    let shorter = q.shortest v x in
    let long : length v ≡ length w = omega arith in
    let large : count L.disks (disks_of v) ≡ count L.disks (disks_of w) = cycle-length L e v x ∙ long ∙ sym (cycle-length L e w y) in
    let above : digits L.disks (disks_of v) ≤ digits L.disks (disks_of w) =
    ltb-false _ _ (sym (earlier_digits L.disks (disks_of v) (disks_of w) large) ∙ q.first v x long) in
    let below : digits L.disks (disks_of w) ≤ digits L.disks (disks_of v) =
    ltb-false _ _ (sym (earlier_digits L.disks (disks_of w) (disks_of v) (sym large)) ∙ p.first w y (sym long)) in
    cycle-same L two e e v w x y (digits_same L.disks (disks_of v) (disks_of w) (le_antisymm above below))
