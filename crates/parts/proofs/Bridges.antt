-- What ways say in the end: a link that is on no cycle is a disk whose stripes the others do not join.
-- Assumes nothing.
use mathlib.Core.Path.{◌≡◌, refl, sym, ◌∙◌, ap, ap₂}
use mathlib.Core.Bool.{Bool, true, false, not, ◌&&◌}
use Prim.Native.Nat.{ℕ, ◌<◌}
use native.Mathlib.Nat.{le_refl, mod-lt}
use native.Mathlib.Omega.{arith}
use borrow.Author.Tests.{eq-eqb, ne_eqb, eqb-true}
use lib.Bits.{bit_or}
use lib.Dec.{eqb}
use Rattle.stripes.specs.Fold.{◌⊕◌, bit}
use Rattle.stripes.specs.System.{Layout, lower, higher}
use Rattle.stripes.specs.Erased.{without}
use Rattle.stripes.specs.Joined.{part_by, part, joined}
use Rattle.stripes.specs.Undetermined.{undetermined}
use Rattle.stripes.proofs.Xor.{⊕-zero, zero_of_equal, equal_of_zero}
use Rattle.stripes.proofs.Fold.{by_cases, fails_with}
use Rattle.stripes.proofs.Peel.{without_other, without_sub, without-apart}
use Rattle.stripes.proofs.Joined.{part_stays, part_same, joined_of, is_joined, joined_self, joined_back, joined_comm, joined_chain, joined-disk, joined-least}
use Rattle.parts.specs.Ways.{joined_before, between, way_by, closed_by}
use Rattle.stripes.proofs.Digits.{digit, digit-⊕, digit-one, or_within, one-within}
use Rattle.parts.proofs.Ways.{number, numbers_differ, between_link, between-closed, Cut, cut_way, cut-closed, twice_none}

-- A digit with 1 added is 1 exactly if it was 0.
flips : (b : Bool) → not (eqb (bit b ⊕ 1) 1) ≡ b
unfolding bit ◌⊕◌
flips true = refl
flips false = refl

module _ (L : Layout) (e : ℕ → Bool) where
  -- The ways and the links on cycles in the end.
  abbrev pub way_of : ℕ → ℕ
  way_of = way_by L e L.disks

  abbrev closedOf : ℕ
  closedOf = closed_by L e L.disks

  module _ (d : ℕ) (l : d < L.disks) (h : e d ≡ true) where
    -- The others join the stripes of a disk,
    abbrev byOthers : Bool
    byOthers = joined L (without e d) (lower L d) (higher L d)

    -- if those before it do.
    early : joined_before L e d ≡ true → byOthers ≡ true
    unfolding part
    early joins =
        let before : part_by L e d ≡ part_by L (without e d) d = part_same L e (without e d) d (λ i w. sym (without_other e d i (λ q. omega arith))) in
        joined_of L (without e d) (lower L d) (higher L d)
        (part_stays L (without e d) d L.disks (lower L d) (higher L d) (omega arith) (rw (← before) (eqb-true _ _ joins)))

    -- Where they do not, the stripes that they join with the lower one are a cut,
    side_cut : byOthers ≡ false → Cut L e d (λ s. bit (joined L (without e d) s (lower L d)))
    unfolding joined bit
    side_cut off =
        record {
          others = λ i w k q.
              ap (λ (name : ℕ). bit (eqb name (part L (without e d) (lower L d))))
              (is_joined L (without e d) (lower L i) (higher L i) (joined-disk L (without e d) i w (without_other e d i q ∙ k)));
          disk =
              ap₂ (λ (s t : Bool). bit s ⊕ bit t) (joined_self L (without e d) (lower L d))
              (joined_comm L (without e d) (higher L d) (lower L d) ∙ off)
              ∙ ⊕-zero 1;
        }

    module _ (apart : joined_before L e d ≡ false) where
      -- and where they do, the disk is on a cycle.
      on-cycle : byOthers ≡ true → digit closedOf (number L e d) ≡ 0 → ⊥
      unfolding bit
      on-cycle joins none =
          let n : ℕ = number L e d in
          let clear : (i : ℕ) → digit (between L way_of i) n ≡ 0 → digit (way_of (lower L i)) n ≡ digit (way_of (higher L i)) n =
          λ i zero. equal_of_zero _ _ (sym (digit-⊕ (way_of (lower L i)) (way_of (higher L i)) n) ∙ zero) in
          let same : digit (way_of (lower L d)) n ≡ digit (way_of (higher L d)) n =
          joined-least L (without e d) (λ s t. digit (way_of s) n ≡ digit (way_of t) n)
          (record { self = λ s. refl; back = λ s t q. sym q; chain = λ r s t p q. p ∙ q; disk = λ i w k. clear i (other i w k) })
          (lower L d) (higher L d) joins in
          let one : digit (between L way_of d) n ≡ 1 =
          ap (λ (x : ℕ). digit x n) (between_link L e d h apart L.disks l) ∙ digit-one n n ∙ ap bit (eq-eqb n n refl) in
          let zero : digit (between L way_of d) n ≡ 0 = digit-⊕ (way_of (lower L d)) (way_of (higher L d)) n ∙ zero_of_equal _ _ same in
          omega arith
        where
          other : (i : ℕ) → i < L.disks → without e d i ≡ true → digit (between L way_of i) (number L e d) ≡ 0
          other i w k =
              let n : ℕ = number L e d in
              let there = without_sub e d i k in
              by_cases (λ (b : Bool). joined_before L e i ≡ b → digit (between L way_of i) n ≡ 0) (joined_before L e i)
              (λ _ q. let less = between-closed L e i there q L.disks w n in omega arith)
              (λ _ q.
              ap (λ (x : ℕ). digit x n) (between_link L e i there q L.disks w) ∙ digit-one (number L e i) n
              ∙ ap bit (ne_eqb n (number L e i) (numbers_differ L e d i h apart there q (without-apart e d i k))))
              refl

      -- So its own digit tells.
      one-test : eqb (digit closedOf (number L e d)) 1 ≡ byOthers
      one-test =
          by_cases (λ (b : Bool). byOthers ≡ b → eqb (digit closedOf (number L e d)) 1 ≡ b) byOthers
          (λ _ q.
          eq-eqb (digit closedOf (number L e d)) 1
          (let few : digit closedOf (number L e d) < 2 = mod-lt _ (omega arith) in omega (arith, on-cycle q, few)))
          (λ _ q. ap (λ (x : ℕ). eqb x 1) (cut-closed L e d h apart _ (side_cut q) L.disks (le_refl _)))
          refl

    -- So the links between its stripes are all on cycles exactly if the disk is undetermined.
    pub test_undetermined : eqb (bit_or closedOf (between L way_of d)) closedOf ≡ undetermined L e d
    unfolding undetermined
    test_undetermined =
        rw h
        (by_cases (λ (b : Bool). joined_before L e d ≡ b → eqb (bit_or closedOf (between L way_of d)) closedOf ≡ byOthers) (joined_before L e d)
        (λ _ q. eq-eqb _ _ (or_within (between L way_of d) closedOf (between-closed L e d h q L.disks l)) ∙ sym (early q))
        (λ _ q.
        ap (λ (x : ℕ). eqb (bit_or closedOf x) closedOf) (between_link L e d h q L.disks l) ∙ one-within closedOf (number L e d) ∙ one-test q)
        refl)

    -- Where it is not, the stripes that the others join with its lower one are those of its part whose ways have the same of it.
    pub test_side : undetermined L e d ≡ false → (s : ℕ) →
        let x = way_of s ⊕ way_of (lower L d) in
        (eqb (part L e s) (part L e (lower L d)) && not (eqb (bit_or x (between L way_of d)) x)) ≡ joined L (without e d) s (lower L d)
    unfolding undetermined part joined bit
    test_side off s =
        let n : ℕ = number L e d in
        let low : ℕ = lower L d in
        let x : ℕ = way_of s ⊕ way_of low in
        let g : ℕ → ℕ = λ i. bit (joined L (without e d) i low) in
        let away : byOthers ≡ false = rw h at off in
        let apart : joined_before L e d ≡ false = fails_with (joined_before L e d) byOthers early away in
        let tells : (i : ℕ) → digit (way_of i) n ≡ g i ⊕ g (part L e i) = λ i. cut_way L e d h apart g (side_cut away) L.disks i (le_refl _) in
        let test : eqb (bit_or x (between L way_of d)) x ≡ eqb (digit x n) 1 =
        ap (λ (y : ℕ). eqb (bit_or x y) x) (between_link L e d h apart L.disks l) ∙ one-within x n in
        by_cases (λ (b : Bool). eqb (part L e s) (part L e low) ≡ b → (b && not (eqb (bit_or x (between L way_of d)) x)) ≡ joined L (without e d) s low)
        (eqb (part L e s) (part L e low))
        (λ _ q.
        ap not
        (test
        ∙ ap (λ (y : ℕ). eqb y 1)
        (digit-⊕ (way_of s) (way_of low) n
        ∙ ap₂ (λ (y z : ℕ). y ⊕ z) (tells s ∙ ap (λ (i : ℕ). g s ⊕ g i) (eqb-true _ _ q)) (tells low) ∙ twice_none (g s) (g low) (g (part L e low))
        ∙ ap (λ (b : Bool). g s ⊕ bit b) (joined_self L (without e d) low)))
        ∙ flips (joined L (without e d) s low))
        (λ _ q. sym (fails_with (joined L (without e d) s low) (joined L e s low) (wider s low) q))
        refl
      where
        wider : (s t : ℕ) → joined L (without e d) s t ≡ true → joined L e s t ≡ true
        wider =
            joined-least L (without e d) (λ s t. joined L e s t ≡ true)
            (record {
              self = joined_self L e;
              back = joined_back L e;
              chain = joined_chain L e;
              disk = λ i w k. joined-disk L e i w (without_sub e d i k);
            })
