-- The search for the other disk of a set on a stripe, and for the other stripe of a disk.
-- Assumes nothing.
use mathlib.Core.Path.{◌≡◌, sym, ◌∙◌, ap, ap₂}
use mathlib.Core.Bool.{Bool, true, false, cond, not, ◌&&◌, and-false, or-false, true≢false}
use mathlib.Core.Logic.{⊎_elim}
use mathlib.Core.List.{List, [], ◌∷◌}
use Prim.Native.Nat.{ℕ, ◌≤◌, ◌<◌}
use native.Mathlib.Omega.{arith}
use borrow.Author.Tests.{eq-eqb, ne_eqb}
use lib.Dec.{eqb}
use lib.ListN.{length}
use Rattle.stripes.specs.System.{Layout, on, among, other_than}
use Rattle.stripes.specs.Erased.{erasures}
use Rattle.stripes.specs.Repair.{Entry}
use Rattle.stripes.specs.Cycle.{partner}
use Rattle.stripes.proofs.Fold.{and_both, lt_or_le, lowest_is, lowest_found}
use Rattle.tally.specs.Tally.{Table, Passed}
use Rattle.tally.proofs.Counted.{erased-inside}

-- ---- the two stripes of a disk

-- What is found of its stripes is so of the disk.
pub lies : (L : Layout) (d s : ℕ) {w : List ℕ} {b : Bool} → L.through d ≡ w → b ≡ among s w → on L d s ≡ b
unfolding on
lies L d s here e = ap (among s) here ∙ sym e

module _ (s a b : ℕ) where
  pub either_low : s ≡ a → true ≡ among s (a ∷ b ∷ [])
  unfolding among
  either_low e = rw (eq-eqb s a e)

  pub either_high : (s ≡ a → ⊥) → eqb s b ≡ among s (a ∷ b ∷ [])
  unfolding among
  either_high n = rw (ne_eqb s a n, or-false)

  pub other-high : a < b → a ≡ s → b ≡ other_than s (a ∷ b ∷ [])
  unfolding other_than
  other-high l e = sym (ap₂ (λ (p q : Bool). cond p (cond q 0 b) a) (eq-eqb a s e) (ne_eqb b s (λ q. omega arith)))

  pub other-low : (a ≡ s → ⊥) → a ≡ other_than s (a ∷ b ∷ [])
  unfolding other_than
  other-low n = sym (ap (λ (p : Bool). cond p (cond (eqb b s) 0 b) a) (ne_eqb a s n))

-- ---- the other disk on a stripe

-- Disk i is another disk of the set on the stripe along which a step leaves its disk.
unfoldable pub is_other : Layout → List ℕ → Entry → ℕ → Bool
is_other L set r i = erasures set i && (on L i r.stripe && not (eqb i r.disk))

-- No disk below n is one.
abbrev pub NoOther : Layout → List ℕ → Entry → ℕ → Type 0
NoOther L set r n = (i : ℕ) → i < n → is_other L set r i ≡ false

module _ (L : Layout) (set : List ℕ) (r : Entry) where
  none-absent : (i : ℕ) → erasures set i ≡ false → is_other L set r i ≡ false
  unfolding is_other
  none-absent i e = ap (λ (t : Bool). t && (on L i r.stripe && not (eqb i r.disk))) e

  pub none_self : (i : ℕ) → i ≡ r.disk → is_other L set r i ≡ false
  unfolding is_other
  none_self i e = rw (eq-eqb i r.disk e, and-false, and-false)

  pub none_elsewhere : (i : ℕ) → on L i r.stripe ≡ false → is_other L set r i ≡ false
  unfolding is_other
  none_elsewhere i e = rw (e, and-false)

  -- The search passes over disks that are not of the set.
  pub other_over : {from n : ℕ} → NoOther L set r from → Passed set from n → NoOther L set r n
  other_over {from} none p i b = ⊎_elim (λ l. none i l) (λ l. none-absent i (p.none i l b)) (lt_or_le i from)

  module _ {stripes : List ℕ} (t : Table L set stripes) {n : ℕ} (none : NoOther L set r n) where
    pub partner_found : erasures set n ≡ true → (n ≡ r.disk → ⊥) → on L n r.stripe ≡ true → n ≡ partner L (erasures set) r
    unfolding partner is_other
    partner_found erased apart lies =
        lowest_found L.disks (is_other L set r) n (erased-inside t n erased) none
        (and_both erased (and_both lies (ap not (ne_eqb n r.disk apart))))

    -- It does not miss one that is there.
    pub partner_missed : partner L (erasures set) r < L.disks → length set ≤ n → ⊥
    unfolding partner is_other
    partner_missed some l =
        true≢false (sym ((lowest_is L.disks (is_other L set r)).found some) ∙ none _ (let fits = t.disks_fit in omega arith))
