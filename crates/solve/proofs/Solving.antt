-- What a loss comes to, by what plan's order leaves.
-- Assumes nothing.
use mathlib.Core.Path.{◌≡◌, sym, ◌∙◌, ap}
use mathlib.Core.Bool.{Bool, true, false}
use mathlib.Core.List.{List}
use Prim.Native.Nat.{ℕ}
use native.Mathlib.Nat.{pos_of_ne-zero}
use borrow.Author.Tests.{lt-ltb}
use lib.Dec.{ltb}
use lib.ListN.{length}
use Rattle.stripes.specs.System.{Layout, TwoStripes}
use Rattle.stripes.specs.Erased.{erasures}
use Rattle.stripes.specs.Repair.{repairs, residual, fatal}
use Rattle.stripes.specs.Undetermined.{lost}
use Rattle.stripes.specs.Cycle.{cycle_of}
use Rattle.stripes.specs.Smallest.{shown_cycle}
use Rattle.stripes.proofs.Peel.{repairs_peels}
use Rattle.stripes.proofs.Split.{fatal-after}
use Rattle.stripes.proofs.Cheapest.{smallest-left}
use Rattle.stripes.proofs.Saved.{lost-after}
use Rattle.entries.specs.Listed.{listed}
use Rattle.solve.specs.Memory.{Peeled}
use Rattle.solve.specs.Solved.{Repairable, Lossy}

module _ {L : Layout} {e : ℕ → Bool} {made left : ℕ} {work stripes list : List ℕ} (p : Peeled L e made left work stripes list) where
  -- Nothing is left: the repairs.
  pub is_fine : left ≡ 0 → fatal L e ≡ false
  unfolding fatal
  is_fine none = ap (λ (n : ℕ). ltb 0 n) (sym p.rest ∙ none)

  pub solves_repairs : left ≡ 0 → Repairable L e made list
  solves_repairs none = record { fine = is_fine none; number = p.number; entries = p.listed }

  -- Disks are left: a cycle. What repairs leave has as many undetermined disks as the loss, and the same smallest cycle.
  module _ (some : left ≡ 0 → ⊥) where
    pub is_lossy : fatal L e ≡ true
    unfolding fatal
    is_lossy = ap (λ (n : ℕ). ltb 0 n) (sym p.rest) ∙ lt-ltb 0 left (pos_of_ne-zero some)

    -- What is left is a fatal loss by itself.
    pub left-lossy : fatal L (erasures work) ≡ true
    unfolding residual
    left-lossy = ap (fatal L) p.erased ∙ fatal-after L e (repairs L e) (repairs_peels L e) ∙ is_lossy

    pub solves_cycle : TwoStripes L → {unknown : ℕ} → unknown ≡ lost L (erasures work) → {disks : ℕ} (after : List ℕ)
        → disks ≡ length (shown_cycle L (erasures work)) → listed after disks ≡ shown_cycle L (erasures work) → Lossy L e disks unknown after
    unfolding residual shown_cycle
    solves_cycle two counted after number entries =
        let same : shown_cycle L (erasures work) ≡ shown_cycle L e =
        ap (shown_cycle L) p.erased ∙ ap (cycle_of L) (smallest-left L two e is_lossy) in
        record {
          lossy = is_lossy;
          number = number ∙ ap length same;
          undetermined = counted ∙ ap (lost L) p.erased ∙ sym (lost-after L two e (repairs L e) (repairs_peels L e));
          entries = entries ∙ same;
        }
