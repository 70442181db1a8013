-- The laws of one side of a wanted disk: how many of the others are in a part, and the map that has no others than these.
-- Assumes nothing.
use mathlib.Core.Path.{◌≡◌, refl, sym, ◌∙◌, ap}
use mathlib.Core.Bool.{Bool, true, false, cond, ◌&&◌}
use mathlib.Core.Logic.{◌⊎◌, ⊎_elim}
use mathlib.Core.List.{List}
use Prim.Native.Nat.{ℕ, ◌+◌, ◌≤◌}
use native.Mathlib.Nat.{le_refl}
use native.Mathlib.Numerals.{add-one}
use native.Mathlib.Omega.{arith}
use borrow.Author.Tests.{eqb-true, eqb-false}
use lib.Dec.{eqb}
use lib.ListN.{length, set, length-set}
use Rattle.stripes.specs.Fold.{bit, count}
use Rattle.stripes.specs.System.{Layout}
use Rattle.stripes.specs.Erased.{erasures, below}
use Rattle.stripes.proofs.Fold.{by_cases, count_over, count_le}
use Rattle.stripes.proofs.Erased.{past_end, erasures-clear, below_is, below-not, below_all, below_over, below_last}
use Rattle.stripes.proofs.Peel.{without_at, without_other}
use Rattle.tally.specs.Tally.{Passed, Table}
use Rattle.wanted.specs.Side.{in_part, other_in, side_in}

-- ---- how many of the others are in the part

-- `number` of the others below k are.
pub record Told (L : Layout) (others parts : List ℕ) (name k number : ℕ) : Type 0 where
  pub counted : number ≡ count k (other_in L others parts name)

pub told_none : (L : Layout) (others parts : List ℕ) (name : ℕ) → Told L others parts name 0 0
unfolding count
told_none L others parts name = record { counted = refl }

-- A disk that is present is none of the others.
other-present : (L : Layout) (others parts : List ℕ) (name i : ℕ) → erasures others i ≡ false → other_in L others parts name i ≡ false
other-present L others parts name i h = ap (λ (b : Bool). b && in_part L parts name i) h

module _ {L : Layout} {others parts : List ℕ} {name k number : ℕ} (told : Told L others parts name k number) where
  -- They are disks.
  pub told_few : number ≤ k
  told_few = let few = count_le k (other_in L others parts name) in omega (arith, told.counted)

  -- An erased disk is looked up, and counted if it is in the part.
  pub told_next : erasures others k ≡ true → {r : Bool} → r ≡ in_part L parts name k
      → {next : ℕ} → ((r ≡ true) × (next ≡ number + 1)) ⊎ ((r ≡ false) × (next ≡ number)) → Told L others parts name (k + 1) next
  unfolding count bit
  told_next erased e came =
      let same : other_in L others parts name k ≡ in_part L parts name k = ap (λ (b : Bool). b && in_part L parts name k) erased in
      record {
        counted =
            rw add-one
            (⊎_elim (λ w. let now = ap bit (same ∙ sym e ∙ w.0) in let more = w.1 in omega (arith, told.counted))
            (λ w. let now = ap bit (same ∙ sym e ∙ w.0) in let less = w.1 in omega (arith, told.counted)) came);
      }

  -- Disks that are present are passed over.
  pub told_over : {d : ℕ} → Passed others k d → Told L others parts name d number
  told_over {d} p =
      record {
        counted =
            told.counted
            ∙ sym (count_over (other_in L others parts name) k d p.after (λ i l w. other-present L others parts name i (p.none i l w)));
      }

  -- In the end all are counted.
  pub told_all : {stripes : List ℕ} → Table L others stripes → length others ≤ k
      → number ≡ count L.disks (other_in L others parts name)
  told_all t end =
      told.counted
      ∙ count_over (other_in L others parts name) L.disks k (let fits = t.disks_fit in omega arith)
      (λ i l w. other-present L others parts name i (t.inside i l))

-- ---- the map with no others than those in the part

-- Of the others below k `work` has just those in the part, and else what the map has.
pub record Sided (L : Layout) (map others parts : List ℕ) (name k : ℕ) (work : List ℕ) : Type 0 where
  pub sided : (i : ℕ) → erasures work i ≡ cond (below k (erasures others) i) (in_part L parts name i) (erasures map i)

-- First it is a copy of the map.
pub sided_none : (L : Layout) (map others parts : List ℕ) (name : ℕ) {work : List ℕ}
    → erasures work ≡ erasures map → Sided L map others parts name 0 work
sided_none L map others parts name copied =
    record {
      sided = λ i.
          ap (λ (e : ℕ → Bool). e i) copied
          ∙ sym (ap (λ (b : Bool). cond b (in_part L parts name i) (erasures map i)) (below-not 0 (erasures others) i (omega arith)));
    }

module _ {L : Layout} {map others parts : List ℕ} {name k : ℕ} {work : List ℕ} (s : Sided L map others parts name k work) where
  -- It says the same of any number below which the same others are.
  sided-as : (n : ℕ) → below k (erasures others) ≡ below n (erasures others) → Sided L map others parts name n work
  sided-as n same =
      record {
        sided = λ i. s.sided i ∙ ap (λ (e : ℕ → Bool). cond (e i) (in_part L parts name i) (erasures map i)) same;
      }

  -- Disks that are present are passed over.
  pub sided_over : {d : ℕ} → Passed others k d → Sided L map others parts name d work
  sided_over {d} p = sided-as d (sym (below_over k d (erasures others) p.after p.none))

  -- In the end all others are behind.
  pub sided_all : length others ≤ k → (i : ℕ) → erasures work i ≡ side_in L map others parts name i
  sided_all end i =
      s.sided i
      ∙ ap (λ (e : ℕ → Bool). cond (e i) (in_part L parts name i) (erasures map i))
      (below_all k (erasures others) (λ d l. past_end others d (omega arith)))

  -- An erased disk is looked up, and taken away if it is not in the part. The map has it as erased.
  module _ (erased : erasures others k ≡ true) (held : erasures map k ≡ true) {r : Bool} (e : r ≡ in_part L parts name k)
      {next : List ℕ} (came : ((r ≡ false) × (next ≡ set work k 0)) ⊎ ((r ≡ true) × (next ≡ work))) where
    -- So its own byte is right,
    next-at : erasures next k ≡ in_part L parts name k
    next-at =
        ⊎_elim
        (λ w.
        ap (λ (m : List ℕ). erasures m k) w.1 ∙ ap (λ (f : ℕ → Bool). f k) (erasures-clear work k) ∙ without_at (erasures work) k
        ∙ sym w.0 ∙ e)
        (λ w.
        ap (λ (m : List ℕ). erasures m k) w.1 ∙ s.sided k
        ∙ ap (λ (b : Bool). cond b (in_part L parts name k) (erasures map k)) (below-not k (erasures others) k (le_refl k))
        ∙ held ∙ sym w.0 ∙ e) came

    -- and the other disks' bytes stay.
    next-other : (i : ℕ) → (i ≡ k → ⊥) → erasures next i ≡ erasures work i
    next-other i apart =
        ⊎_elim
        (λ w.
        ap (λ (m : List ℕ). erasures m i) w.1 ∙ ap (λ (f : ℕ → Bool). f i) (erasures-clear work k)
        ∙ without_other (erasures work) k i apart)
        (λ w. ap (λ (m : List ℕ). erasures m i) w.1) came

    next-sided : Sided L map others parts name (k + 1) next
    next-sided =
        record {
          sided = λ i.
              by_cases
              (λ (b : Bool). eqb i k ≡ b → erasures next i ≡ cond (below (k + 1) (erasures others) i) (in_part L parts name i) (erasures map i))
              (eqb i k)
              (λ q h.
              rw (eqb-true i k h)
              (next-at
              ∙ sym (ap (λ (b : Bool). cond b (in_part L parts name k) (erasures map k)) (below_is (k + 1) (erasures others) k (omega arith) erased))))
              (λ q h.
              let apart : i ≡ k → ⊥ = eqb-false i k h in
              let same : below k (erasures others) i ≡ below (k + 1) (erasures others) i =
              ap (λ (f : ℕ → Bool). f i) (below_last k (erasures others)) ∙ without_other (below (k + 1) (erasures others)) k i apart in
              next-other i apart ∙ s.sided i ∙ ap (λ (b : Bool). cond b (in_part L parts name i) (erasures map i)) same) refl;
        }

    -- No byte is added.
    pub sided_next : Sided L map others parts name (k + 1) next × (length next ≡ length work)
    sided_next = (next-sided, ⊎_elim (λ w. ap length w.1 ∙ length-set work k 0) (λ w. ap length w.1) came)
