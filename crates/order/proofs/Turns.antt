-- Repairs by lowest number turn by turn, as the list and the counts follow them.
-- Assumes nothing.
use mathlib.Core.Path.{◌≡◌, refl, sym, ◌∙◌, ap, subst}
use mathlib.Core.Bool.{Bool, cond}
use mathlib.Core.List.{List, [], ◌∷◌, ◌++◌}
use Prim.Native.Nat.{ℕ, ◌+◌, ◌≤◌, ◌<◌, zero-le}
use native.Mathlib.Omega.{arith}
use borrow.Author.Tests.{ltb-true, ltb-false}
use lib.Dec.{ltb}
use lib.ListN.{length, take, set}
use lib.Seq.{take-length}
use Rattle.stripes.specs.System.{Layout}
use Rattle.stripes.specs.Repair.{Entry, next_disk, repair_of, peel, after}
use Rattle.stripes.specs.Erased.{erasures, without}
use Rattle.stripes.proofs.Fold.{by_cases, count_le}
use Rattle.stripes.proofs.Peel.{Allowed, allowed_is, next-allowed, after_snoc, peel_peels, peel_goes, peel_stops, peel-count}
use Rattle.stripes.specs.Fold.{count}
use Rattle.entries.specs.Listed.{word_of, listed}
use Rattle.entries.proofs.Words.{listed_put}
use Rattle.tally.specs.Tally.{Tallied}
use Rattle.order.specs.declared.Repair.{Repair}
use Rattle.std.proofs.Common.{Option, Some, None}
use Rattle.order.specs.Pick.{picked}

-- ---- the next repair

-- What an answer says of it.
abbrev Says : Layout → (c e : ℕ → Bool) → Option Repair → Type 0
Says L c e (Some r) = (next_disk L c e < L.disks) × (repair_of L e (next_disk L c e) ≡ record { disk = r.disk; stripe = r.stripe })
Says L c e None = ¬ (next_disk L c e < L.disks)

picked_says : (L : Layout) (c e : ℕ → Bool) (n : Option Repair) → n ≡ picked L c e → Says L c e n
unfolding picked repair_of
picked_says L c e n q =
    subst (Says L c e) (sym q)
    (by_cases (λ (b : Bool). Says L c e (cond b (Some (record { disk = next_disk L c e; stripe = (repair_of L e (next_disk L c e)).stripe })) None))
    (ltb (next_disk L c e) L.disks) (λ h. (ltb-true (next_disk L c e) L.disks h, refl))
    (λ h l. let m = ltb-false (next_disk L c e) L.disks h in omega arith))

pub picked-allowed : (L : Layout) (c e : ℕ → Bool) (d s : ℕ) → Some (record { disk = d; stripe = s }) ≡ picked L c e → Allowed L e d s
unfolding repair_of
picked-allowed L c e d s q =
    let (l, is) = picked_says L c e (Some (record { disk = d; stripe = s })) q in
    subst (λ (r : Entry). Allowed L e r.disk r.stripe) is (allowed_is L e _ _ (next-allowed L c e l))

-- ---- turn by turn

-- All repairs of disks of c while the disks e are erased.
abbrev made : Layout → (c e : ℕ → Bool) → List Entry
made L c e = peel L c L.disks e

-- After k of them: what is still erased, tallied, and the list of those repairs.
pub record Turn (L : Layout) (c e : ℕ → Bool) (work stripes counts list : List ℕ) (k : ℕ) : Type 0 where
  pub within : k ≤ length (made L c e)
  pub tallied : Tallied L work stripes counts
  pub left : erasures work ≡ after e (take k (made L c e))
  pub written : listed list k ≡ take k (made L c e)

pub turn_none : {L : Layout} {c : ℕ → Bool} {work stripes counts : List ℕ} (list : List ℕ) → Tallied L work stripes counts
    → Turn L c (erasures work) work stripes counts list 0
unfolding after listed
turn_none list tallied = record { within = zero-le; tallied = tallied; left = refl; written = refl }

module _ {L : Layout} {c e : ℕ → Bool} {work stripes counts list : List ℕ} {k : ℕ} (turn : Turn L c e work stripes counts list k) where
  says_then : (n : Option Repair) → n ≡ picked L c (erasures work) → Says L c (after e (take k (made L c e))) n
  says_then n q = subst (λ (f : ℕ → Bool). Says L c f n) turn.left (picked_says L c (erasures work) n q)

  -- A repair is made: its disk is no longer erased, and it is written into the list.
  pub turn_next : (d s : ℕ) → Some (record { disk = d; stripe = s }) ≡ picked L c (erasures work) → k < length list → d < 65536 → s < 65536
      → {work' counts' list' : List ℕ} → Tallied L work' stripes counts' → erasures work' ≡ without (erasures work) d
      → list' ≡ set list k (word_of d s) → Turn L c e work' stripes counts' list' (k + 1)
  turn_next d s q room low high tallied' left' written' =
      let done : List Entry = take k (made L c e) in
      let (l, is) = says_then (Some (record { disk = d; stripe = s })) q in
      let (more, longer) = peel_goes L c L.disks e (count_le L.disks e) k turn.within l in
      let next : take (k + 1) (made L c e) ≡ done ++ (record { disk = d; stripe = s } ∷ []) =
      longer ∙ ap (λ (r : Entry). done ++ (r ∷ [])) is in
      record {
        within = omega arith;
        tallied = tallied';
        left = left' ∙ ap (λ (f : ℕ → Bool). without f d) turn.left ∙ sym (ap (after e) next ∙ after_snoc e done _);
        written =
            ap (λ (m : List ℕ). listed m (k + 1)) written' ∙ listed_put list k d s room low high
            ∙ ap (λ (w : List Entry). w ++ (record { disk = d; stripe = s } ∷ [])) turn.written ∙ sym next;
      }

  -- No repair is allowed, or no disk is erased any more: all are made.
  pub turn_stuck : None ≡ picked L c (erasures work) → k ≡ length (made L c e)
  turn_stuck q = peel_stops L c L.disks e (count_le L.disks e) k turn.within (says_then None q)

  pub turn_done : (erased : ℕ) → erased ≡ count L.disks e → erased ≤ k → k ≡ length (made L c e)
  turn_done erased all done = omega (arith, peel-count L e (made L c e) (peel_peels L c L.disks e), turn.within)

  pub turn_ends : k ≡ length (made L c e)
      → (k ≡ length (made L c e)) × ((erasures work ≡ after e (made L c e)) × ((listed list k ≡ made L c e) × Tallied L work stripes counts))
  turn_ends all =
      let whole : take k (made L c e) ≡ made L c e = ap (λ (n : ℕ). take n (made L c e)) all ∙ take-length (made L c e) in
      (all, (turn.left ∙ ap (after e) whole, (turn.written ∙ whole, turn.tallied)))
