-- The theorems on stripe systems: what repairs bring back, when a loss is fatal, and what the survivors determine; also where blocks are
-- cut into sectors.
-- Assumes nothing.
use mathlib.Core.Path.{◌≡◌, refl}
use mathlib.Core.Bool.{Bool, true, false}
use mathlib.Core.Logic.{◌↔◌}
use mathlib.Core.List.{List}
use Prim.Native.Nat.{ℕ, ◌+◌, ◌*◌, ◌≤◌, ◌<◌}
use lib.ListN.{length, take, drop}
use Rattle.stripes.specs.Fold.{count}
use Rattle.stripes.specs.System.{Layout, Ordered, TwoStripes, lower, higher, whole, byte, Codeword, Bytes, consistent}
use Rattle.stripes.specs.Erased.{without, Agree, Belongs, Ambiguous, AmbiguousIn, LostCount}
use Rattle.stripes.specs.Repair.{Entry, disk_of, Peels, repairs, after, residual, fatal, rebuilt, InOrder}
use Rattle.stripes.specs.Cycle.{Cycle}
use Rattle.stripes.specs.Smallest.{Smallest, shown_cycle}
use Rattle.stripes.specs.Joined.{joined}
use Rattle.stripes.specs.Undetermined.{undetermined, determined, lost, parts_cancel, saved_byte}
use Rattle.stripes.specs.Wanted.{wanted_repairs, Reached, Wanted}
use Rattle.stripes.specs.Sectors.{sectored, at_position, sector_repairs}
use Rattle.stripes.specs.declared.Stretch.{Stretch}
use Rattle.stripes.proofs.Fold.{by_cases}
use Rattle.stripes.proofs.Bytes.{whole-inside}
use Rattle.stripes.proofs.Peel.{Stuck, residual_stuck, order_free_all, repairs-count, in_order_lem}
use Rattle.stripes.proofs.Degree.{two_ordered}
use Rattle.stripes.proofs.Core.{ambiguous}
use Rattle.stripes.proofs.Trace.{cycle-fatal, core_cycle}
use Rattle.stripes.proofs.Listed.{smallest-only}
use Rattle.stripes.proofs.Cheapest.{shown_smallest}
use Rattle.stripes.proofs.Restore.{judge, restored_is, unique}
use Rattle.stripes.proofs.Split.{repairs-rest, fatal-rest}
use Rattle.stripes.proofs.Undetermined.{saved_byte_lem, belongs_iff, damage_shown, any_bytes, undetermined_iff}
use Rattle.stripes.proofs.Wanted.{unreached_iff, wanted_is, wanted_unique}
use Rattle.stripes.proofs.Saved.{fatal-lost as Saved·fatal-lost, reached-determined as Saved·reached-determined, undetermined-after, lost_fewer, lost_tells, cycle-undetermined}
use Rattle.stripes.proofs.Sectors.{two-sectors, one-sector}
use Rattle.stripes.proofs.Positions.{fatal-some, order-rest, one-order}
use Rattle.stripes.proofs.SectorBytes.{codeword_sectors}

-- ---- where the stripes of a disk are listed in rising order
module _ (L : Layout) (e : ℕ → Bool) where
  -- Where plan's order ends, no repair is allowed, and what is left does not depend on the order of the repairs.
  pub none_allowed : Stuck L (residual L e)
  none_allowed = residual_stuck L e

  pub same_left : (w : List Entry) → Peels L e w → Stuck L (after e w) → after e w ≡ residual L e
  same_left w = order_free_all L e w

  -- Plan's order has no memory: after its first k repairs it goes on with the others, and the loss stays fatal or not.
  pub others_follow : (k : ℕ) → repairs L (after e (take k (repairs L e))) ≡ drop k (repairs L e)
  others_follow k = repairs-rest L k e

  pub stays-fatal : (k : ℕ) → fatal L (after e (take k (repairs L e))) ≡ fatal L e
  stays-fatal k = fatal-rest L k e

  module _ (ordered : Ordered L) (fine : fatal L e ≡ false) where
    -- Every erased disk is repaired once, in plan's order.
    pub all_repaired : length (repairs L e) ≡ count L.disks e
    all_repaired = repairs-count L e fine

    pub all_ordered : InOrder L e (repairs L e)
    all_ordered = in_order_lem L ordered e fine

    -- Repairs give back every codeword that agrees with the array on the survivors,
    pub all_restored : (B : ℕ) (a b : List ℕ) → length a ≡ L.disks * B → Codeword L (whole B) b → Agree L (whole B) e a b
        → rebuilt L (whole B) a (repairs L e) ≡ b
    unfolding whole
    all_restored B a b = restored_is L ordered.bounded e fine B a b

    -- and they leave a stripe whose sum is not zero exactly if there is no such codeword.
    pub all_judged : (B : ℕ) (a : List ℕ) → length a ≡ L.disks * B → Bytes a
        → (consistent L (whole B) (rebuilt L (whole B) a (repairs L e)) ≡ true) ↔ Belongs L (whole B) e a
    unfolding whole
    all_judged B a = judge L ordered.bounded e fine (whole B) (whole-inside B) a

    -- So no two codewords agree on the survivors.
    pub all_unique : (B : ℕ) → Ambiguous L (whole B) e → ⊥
    all_unique = unique L ordered.bounded e fine

-- ---- where every disk lies on two stripes
module _ (L : Layout) (two : TwoStripes L) (e : ℕ → Bool) where
  -- A loss is fatal exactly if a cycle of erased disks exists,
  pub fatal-cycle : (fatal L e ≡ true) ↔ ((w : List Entry) × Cycle L e w)
  fatal-cycle = (λ lossy. (_, core_cycle L two e lossy), λ h. cycle-fatal L e h.0 h.1)

  -- and exactly if two different codewords agree on the survivors.
  pub fatal_ambiguous : (B : ℕ) → 0 < B → (fatal L e ≡ true) ↔ Ambiguous L (whole B) e
  unfolding whole
  fatal_ambiguous B some = (
    λ lossy. ambiguous L two (whole B) e lossy some (whole-inside B),
    λ both. by_cases (λ (f : Bool). f ≡ true) (fatal L e) (λ lossy. refl) (λ fine. absurd (all_unique L e (two_ordered L two) fine B both)),
  )

  -- The cycle that is shown of a fatal loss is the smallest, and the only one that is.
  pub shown_is : fatal L e ≡ true → Smallest L e (shown_cycle L e)
  shown_is = shown_smallest L two e

  pub shown_only : fatal L e ≡ true → (w : List Entry) → Smallest L e w → w ≡ shown_cycle L e
  shown_only lossy w small = smallest-only L two e w (shown_cycle L e) small (shown_is lossy)

  -- A loss is fatal exactly if some disk is undetermined.
  pub fatal-lost : (fatal L e ≡ true) ↔ (0 < lost L e)
  fatal-lost = Saved·fatal-lost L two e

  -- Which disks are determined can be told from the number of lost disks alone: a disk is, exactly if the number stays the same where
  -- that disk is not erased.
  pub told_by_count : (d : ℕ) → d < L.disks → (lost L (without e d) ≡ lost L e) ↔ (undetermined L e d ≡ false)
  told_by_count = lost_tells L two e

  pub never_more : (d : ℕ) → d < L.disks → lost L (without e d) ≤ lost L e
  never_more = lost_fewer L two e

  -- The disks of every cycle of erased disks are undetermined.
  pub cycle-lost : (w : List Entry) → Cycle L e w → (i : ℕ) → i < length w → undetermined L e (disk_of w i) ≡ true
  cycle-lost = cycle-undetermined L two e

  module _ (x : Stretch) where
    -- A disk is undetermined exactly if two codewords agree on the survivors and differ in it.
    pub undetermined-differ : x.offset + x.width ≤ x.block → 0 < x.width → (d : ℕ) → d < L.disks
        → (undetermined L e d ≡ true) ↔ AmbiguousIn L x e d
    undetermined-differ = undetermined_iff L two x e

    -- So the undetermined disks are the lost ones.
    pub lost-counted : x.offset + x.width ≤ x.block → 0 < x.width → LostCount L x e (lost L e)
    unfolding lost
    lost-counted inside some = (undetermined L e, refl, undetermined-differ inside some)

    -- The survivors of a codeword say nothing of any one of them: they belong to a codeword with any bytes there.
    pub any_bytes_fit : x.offset + x.width ≤ x.block → (b : List ℕ) → Codeword L x b → (d : ℕ) → d < L.disks → undetermined L e d ≡ true
        → (v : ℕ → ℕ) → ((p : ℕ) → v p < 256)
        → (c : List ℕ) × Codeword L x c × Agree L x e b c × ((p : ℕ) → p < x.width → byte x c d p ≡ v p)
    any_bytes_fit = any_bytes L two x e

    -- Every determined disk is saved: sums of survivors give it the bytes of the codeword that the survivors belong to.
    pub all_saved : (a b : List ℕ) → Codeword L x b → Agree L x e a b → (d : ℕ) → d < L.disks → determined L e d ≡ true
        → (p : ℕ) → p < x.width → saved_byte L x e a d p ≡ byte x b d p
    all_saved = saved_byte_lem L two x e

    -- There is such a codeword exactly if the sums of the survivors cancel in each part that the erased disks make.
    pub parts_judged : x.offset + x.width ≤ x.block → (a : List ℕ) → length a ≡ L.disks * x.block → Bytes a
        → (parts_cancel L x e a ≡ true) ↔ Belongs L x e a
    parts_judged = belongs_iff L two x e

    -- Where just one survivor differs from a codeword, they still cancel exactly if the erased disks join the two stripes of that disk.
    pub damage_shows : (a b : List ℕ) → Codeword L x b → (d : ℕ) → d < L.disks → e d ≡ false
        → ((i : ℕ) → i < L.disks → e i ≡ false → (i ≡ d → ⊥) → (p : ℕ) → p < x.width → byte x a i p ≡ byte x b i p)
        → (p : ℕ) × (p < x.width) × (byte x a d p ≡ byte x b d p → ⊥)
        → parts_cancel L x e a ≡ joined L e (lower L d) (higher L d)
    damage_shows = damage_shown L two x e

  -- An erased disk is reached by a list of allowed repairs exactly if plan's order does not leave it. Then the shortest such list is the one
  -- defined, ordered as paper 02 says, and it is the only one.
  module _ (d : ℕ) where
    pub reached_or_left : e d ≡ true → (residual L e d ≡ true) ↔ (Reached L e d → ⊥)
    reached_or_left = unreached_iff L d e

    pub wanted-list : Reached L e d → Wanted L e d (wanted_repairs L e d)
    wanted-list = wanted_is L two e d

    pub wanted-only : (w : List Entry) → Wanted L e d w → w ≡ wanted_repairs L e d
    wanted-only = wanted_unique L two e d

  module _ (w : List Entry) (peels : Peels L e w) where
    -- What repairs bring back is determined,
    pub reached-determined : (d : ℕ) → d < L.disks → e d ≡ true → after e w d ≡ false → determined L e d ≡ true
    reached-determined = Saved·reached-determined L two e w peels

    -- and whether a disk is undetermined stays the same after repairs.
    pub left-same : (d : ℕ) → d < L.disks → undetermined L e d ≡ undetermined L (after e w) d
    left-same = undetermined-after L two e w peels

-- ---- where blocks are cut into sectors
module _ (n : ℕ) (L : Layout) where
  -- Every sector lies on two stripes where every disk does, so what stands above holds of sectors too.
  pub sectors-two : TwoStripes L → TwoStripes (sectored n L)
  sectors-two = two-sectors n L

  -- An array is a codeword sector by sector exactly if it is one.
  pub sectors_codeword : (w B : ℕ) → B ≡ n * w → (b : List ℕ) → Codeword (sectored n L) (whole w) b ↔ Codeword L (whole B) b
  sectors_codeword w B cut = codeword_sectors n w B cut L

  module _ (e : ℕ → Bool) where
    -- The loss of sectors is fatal exactly if it is at some position.
    pub sectors-fatal : (fatal (sectored n L) e ≡ true) ↔ ((p : ℕ) × (p < n) × (fatal L (at_position n p e) ≡ true))
    sectors-fatal = fatal-some n L e

    -- Plan's order has no memory there either.
    pub sectors_follow : (k : ℕ) → sector_repairs n L (after e (take k (sector_repairs n L e))) ≡ drop k (sector_repairs n L e)
    sectors_follow = order-rest n L e

-- One sector a block changes nothing.
module _ (L : Layout) where
  pub one_system : sectored 1 L ≡ L
  one_system = one-sector L

  pub one-repairs : (e : ℕ → Bool) → sector_repairs 1 L e ≡ repairs L e
  one-repairs = one-order L
