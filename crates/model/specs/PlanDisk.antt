-- The plan for one wanted disk (paper 02, P5): what it answers and what its sheet holds afterwards, for every input, and what it promises
-- in the paper's words. The map is only read.
-- Assumes nothing.
use Rattle.std.specs.Prelude.{◌≡◌, Bool, true, false, cond, ◌&&◌, ◌↔◌, List, [], ◌∷◌, ◌++◌, ℕ, ◌+◌, ◌≤◌, eqb, ltb, length}
use Rattle.stripes.specs.System.{Layout, Codeword}
use Rattle.stripes.specs.Erased.{erasures, Agree}
use Rattle.stripes.specs.Repair.{Entry, repairs, after, residual, fatal, rebuilt, clears}
use Rattle.stripes.specs.Wanted.{wanted_repairs, Reached, Wanted}
use Rattle.stripes.specs.declared.Stretch.{Stretch}
use Rattle.model.specs.Grid.{disks}
use Rattle.model.specs.Refusal.{Test, ◌unless◌, refusal}
use Rattle.model.specs.Sheet.{Format, narrow, sheet_of}
use Rattle.model.specs.Plan.{one_tests, sheet_layout, loss_outcome, loss_sheets, outcome_status}
use Rattle.model.specs.Edition.{Edition}
use Rattle.model.specs.Demand3.{Planned}
use Rattle.model.specs.declared.Size.{Size}
use Rattle.model.specs.Outcome.{Outcome}
use Rattle.model.specs.Outcome.{Repairs, Refused}

-- Besides what plan tests, the wanted disk is one of the grid, and erased.
unfoldable pub can_be_wanted : Size → List ℕ → ℕ → Bool
can_be_wanted z m d = ltb d (disks z) && erasures m d

unfoldable pub plan_disk_tests : Size → List ℕ → (len d : ℕ) → List Test
plan_disk_tests z m len d = one_tests z m len ++ (15 unless can_be_wanted z m d ∷ [])

-- What the loss of the disks e means for disk d, and the sheet that says so. Plan's order leaves the disk exactly if no list of allowed
-- repairs reaches it. Then answer and sheet are plan's for the whole loss, else they are those of the list for the disk.
unfoldable pub disk_outcome : Layout → (ℕ → Bool) → ℕ → Outcome
disk_outcome L e d = cond (residual L e d) (loss_outcome 1 L e) (Repairs (length (wanted_repairs L e d)))

unfoldable pub disk_sheet : Layout → Format → (ℕ → Bool) → ℕ → List ℕ
disk_sheet L f e d = cond (residual L e d) (loss_sheets 1 L f e) (sheet_of f f.repair_kind (wanted_repairs L e d))

-- What the plan for a disk answers, and the sheet after it.
unfoldable pub plan_disk_outcome : Size → (m sheet : List ℕ) → (d : ℕ) → Outcome
plan_disk_outcome z m sheet d =
    cond (eqb (refusal (plan_disk_tests z m (length sheet) d)) 0) (disk_outcome (sheet_layout z) (erasures m) d)
    (Refused (refusal (plan_disk_tests z m (length sheet) d)))

unfoldable pub plan_disk_sheet : Size → (m sheet : List ℕ) → (d : ℕ) → List ℕ
plan_disk_sheet z m sheet d =
    cond (eqb (refusal (plan_disk_tests z m (length sheet) d)) 0) (disk_sheet (sheet_layout z) narrow (erasures m) d) sheet

-- ---- What it promises, over any edition of the array, where the refusals before 6 let the input through

-- The list w is the one of paper 02, and the only one.
pub record WantedList (L : Layout) (e : ℕ → Bool) (d : ℕ) (w : List Entry) : Type 0 where
  pub wanted : Wanted L e d w
  pub only : (v : List Entry) → Wanted L e d v → v ≡ w
  -- Its repairs bring the disk back. Made on any array whose survivors belong to a sealed array, they give every disk that they bring back
  -- the bytes of that array.
  pub present : after e w d ≡ false
  pub restored : (x : Stretch) → x.offset + x.width ≤ x.block → (a b : List ℕ) → length a ≡ length b → Codeword L x b
      → Agree L x e a b → Agree L x (after e w) (rebuilt L x a w) b
  -- Plan's order leaves after them what it would have left before, so the loss stays fatal or not. One that is not fatal is cleared by them
  -- and plan's repairs of what they leave.
  pub same : residual L (after e w) ≡ residual L e
  pub rest : fatal L e ≡ false → clears L e (w ++ repairs L (after e w)) ≡ true

-- The loss is that of the disks e, and what plan answers and leaves in its sheet is beside it.
pub record DiskDemand (E : Edition) (f : Format) (e : ℕ → Bool) (d : ℕ) (planned : Outcome) (plansSheet : List ℕ)
    (answer : Outcome) (sheet : List ℕ) : Type 0 where
  pub plan : Planned 1 E f e planned plansSheet
  -- It is refused by 6 exactly if no list of allowed repairs reaches the disk. Then count and loop are plan's.
  pub unreached : (outcome_status answer ≡ 6) ↔ (Reached E.layout e d → ⊥)
  pub as_plan : outcome_status answer ≡ 6 → (answer ≡ planned) × (sheet ≡ plansSheet)
  -- Otherwise the sheet has the list of paper 02, and the answer counts its repairs.
  pub list : (outcome_status answer ≡ 6 → ⊥)
      → (w : List Entry) × (answer ≡ Repairs (length w)) × (sheet ≡ sheet_of f f.repair_kind w)
      × (length w ≤ f.records) × (length w ≤ E.most_repairs) × WantedList E.layout e d w
