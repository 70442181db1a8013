-- The laws of the count of undetermined disks.
-- Assumes nothing.
use mathlib.Core.Path.{◌≡◌, refl, sym, ◌∙◌, ap}
use mathlib.Core.Bool.{Bool, true, false}
use mathlib.Core.Logic.{◌⊎◌, ⊎_elim}
use mathlib.Core.List.{List}
use Prim.Native.Nat.{ℕ, ◌+◌, ◌≤◌}
use native.Mathlib.Numerals.{add-one}
use native.Mathlib.Omega.{arith}
use lib.ListN.{length}
use Rattle.stripes.specs.Fold.{bit, count}
use Rattle.stripes.specs.System.{Layout}
use Rattle.stripes.specs.Erased.{erasures}
use Rattle.stripes.specs.Undetermined.{undetermined, lost}
use Rattle.stripes.proofs.Fold.{count_over, count_le}
use Rattle.tally.specs.Tally.{Passed, Table}

-- `number` of the disks below k are undetermined.
pub record Judged (L : Layout) (work : List ℕ) (k number : ℕ) : Type 0 where
  pub counted : number ≡ count k (undetermined L (erasures work))

undetermined-present : (L : Layout) (e : ℕ → Bool) (d : ℕ) → e d ≡ false → undetermined L e d ≡ false
unfolding undetermined
undetermined-present L e d h = rw h

pub judged_none : (L : Layout) (work : List ℕ) → Judged L work 0 0
unfolding count
judged_none L work = record { counted = refl }

module _ {L : Layout} {work : List ℕ} {k number : ℕ} (judged : Judged L work k number) where
  -- They are disks.
  pub judged_few : number ≤ k
  judged_few = let few = count_le k (undetermined L (erasures work)) in omega (arith, judged.counted)

  -- A disk is judged, and counted if it is undetermined.
  pub judged_next : {r : Bool} → r ≡ undetermined L (erasures work) k
      → {next : ℕ} → ((r ≡ true) × (next ≡ number + 1)) ⊎ ((r ≡ false) × (next ≡ number)) → Judged L work (k + 1) next
  unfolding count bit
  judged_next e came =
      record {
        counted =
            rw add-one
            (⊎_elim (λ w. let now = ap bit (sym e ∙ w.0) in let more = w.1 in omega (arith, judged.counted))
            (λ w. let now = ap bit (sym e ∙ w.0) in let same = w.1 in omega (arith, judged.counted)) came);
      }

  -- Disks that are present are passed over.
  pub judged_over : {d : ℕ} → Passed work k d → Judged L work d number
  judged_over {d} p =
      record {
        counted =
            judged.counted
            ∙ sym (count_over (undetermined L (erasures work)) k d p.after (λ i l w. undetermined-present L (erasures work) i (p.none i l w)));
      }

  -- In the end all are counted.
  pub judged_all : {stripes : List ℕ} → Table L work stripes → length work ≤ k → number ≡ lost L (erasures work)
  unfolding lost
  judged_all t end =
      judged.counted
      ∙ count_over (undetermined L (erasures work)) L.disks k (let fits = t.disks_fit in omega arith)
      (λ i l w. undetermined-present L (erasures work) i (t.inside i l))
