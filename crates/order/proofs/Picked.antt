-- The laws of the next repair: what the counts say of it.
-- Assumes nothing.
use mathlib.Core.Path.{◌≡◌, sym, ◌∙◌, ap}
use mathlib.Core.Bool.{Bool, true, false, ◌&&◌, ◌||◌, cond, and-false}
use mathlib.Core.Logic.{⊎_elim}
use mathlib.Core.List.{List}
use Prim.Native.Nat.{ℕ, ◌+◌, ◌≤◌, ◌<◌}
use native.Mathlib.Nat.{le_refl}
use native.Mathlib.Omega.{arith}
use borrow.Author.Count.{below_more}
use borrow.Author.Tests.{lt-ltb, le-ltb, ne_eqb, eq-eqb}
use lib.Dec.{eqb}
use lib.ListN.{get_or}
use Rattle.stripes.specs.System.{Layout}
use Rattle.stripes.specs.Erased.{erasures}
use Rattle.stripes.specs.Repair.{next_disk, repair_of, some_allowed, first_allowed}
use Rattle.stripes.proofs.Fold.{and_both, lt_or_le, lowest_found, lowest-end}
use Rattle.stripes.proofs.Alone.{none-present, some-count, first_count}
use Rattle.tally.specs.Tally.{Passed, Counted}
use Rattle.tally.proofs.Counted.{low_held, high_held, Crossed}
use Rattle.std.proofs.Common.{Some, None}
use Rattle.order.specs.Pick.{picked}

-- No disk of c below d can be repaired while the disks e are erased.
pub record Crowded (L : Layout) (c e : ℕ → Bool) (d : ℕ) : Type 0 where
  pub none : (i : ℕ) → i < d → (c i && some_allowed L e i (L.through i)) ≡ false

-- Disks that are present are passed over.
pub crowded_over : {L : Layout} {c : ℕ → Bool} {work : List ℕ} {d k : ℕ} → Crowded L c (erasures work) d → Passed work d k → Crowded L c (erasures work) k
crowded_over {L} {c} {work} {d} crowded p =
    record {
      none = λ i l.
          ⊎_elim (crowded.none i)
          (λ w. ap (λ (b : Bool). c i && b) (none-present L (erasures work) i (p.none i w l) (L.through i)) ∙ and-false (c i)) (lt_or_le i d);
    }

module _ {L : Layout} {c e : ℕ → Bool} {d : ℕ} (crowded : Crowded L c e d) where
  crowded-more : (c d && some_allowed L e d (L.through d)) ≡ false → Crowded L c e (d + 1)
  crowded-more here = record { none = below_more (λ i. (c i && some_allowed L e i (L.through i)) ≡ false) d crowded.none here }

  -- So is a disk that is not of c.
  pub crowded_held : c d ≡ false → Crowded L c e (d + 1)
  crowded_held q = crowded-more (ap (λ (b : Bool). b && some_allowed L e d (L.through d)) q)

  -- Past the last disk there is no repair.
  pub picked_none : L.disks ≤ d → None ≡ picked L c e
  unfolding picked next_disk
  picked_none end =
      let next : L.disks ≡ next_disk L c e = lowest-end L.disks _ (λ i l. crowded.none i (omega arith)) in
      simp (sym next, le-ltb L.disks L.disks (le_refl L.disks))

  -- An erased disk comes next if one disk is counted on a stripe of its own, and by the lower if that is one.
  module _ (erased : e d ≡ true) {counts : List ℕ} (k : Counted L e counts) {low high : ℕ} (x : Crossed L d low high) where
    some_is : some_allowed L e d (L.through d) ≡ (eqb (get_or counts low 0) 1 || eqb (get_or counts high 0) 1)
    some_is =
        some-count L e d x.disk erased low high x.listed
        ∙ simp (sym (low_held x k).1, sym (high_held x k).1)

    pub crowded_next : (get_or counts low 0 ≡ 1 → ⊥) → (get_or counts high 0 ≡ 1 → ⊥) → Crowded L c e (d + 1)
    crowded_next p q = crowded-more (ap (λ (b : Bool). c d && b) (some_is ∙ simp (ne_eqb _ 1 p, ne_eqb _ 1 q)) ∙ and-false (c d))

    picked-is : c d ≡ true → (s : ℕ) → (eqb (get_or counts low 0) 1 || eqb (get_or counts high 0) 1) ≡ true
        → cond (eqb (get_or counts low 0) 1) low (cond (eqb (get_or counts high 0) 1) high 0) ≡ s → Some (record { disk = d; stripe = s }) ≡ picked L c e
    unfolding picked next_disk repair_of
    picked-is chosen s alone first =
        let next : d ≡ next_disk L c e = lowest_found L.disks _ d x.disk crowded.none (and_both chosen (some_is ∙ alone)) in
        let by : first_allowed L e d (L.through d) ≡ s =
        first_count L e d x.disk erased low high x.listed ∙ simp (sym (low_held x k).1, sym (high_held x k).1) first in
        simp (sym next, lt-ltb d L.disks x.disk, by)

    pub picked_low : c d ≡ true → get_or counts low 0 ≡ 1 → Some (record { disk = d; stripe = low }) ≡ picked L c e
    picked_low chosen p = picked-is chosen low (simp (eq-eqb _ 1 p)) (simp (eq-eqb _ 1 p))

    pub picked_high : c d ≡ true → (get_or counts low 0 ≡ 1 → ⊥) → get_or counts high 0 ≡ 1 → Some (record { disk = d; stripe = high }) ≡ picked L c e
    picked_high chosen p q = picked-is chosen high (simp (ne_eqb _ 1 p, eq-eqb _ 1 q)) (simp (ne_eqb _ 1 p, eq-eqb _ 1 q))
