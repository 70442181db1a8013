-- What the plan for a disk answers, and the sheet after it, in each case.
-- Assumes nothing.
use mathlib.Core.Path.{◌≡◌, sym, ◌∙◌, ap}
use mathlib.Core.Bool.{true, false}
use mathlib.Core.List.{List}
use Prim.Native.Nat.{ℕ, ◌≤◌, ◌<◌}
use native.Mathlib.Omega.{arith}
use borrow.Author.Tests.{le-ltb, lt-ltb, ltb-true}
use lib.Dec.{eqb, ltb}
use lib.ListN.{length, get_or}
use Rattle.stripes.specs.Erased.{erasures}
use Rattle.stripes.specs.Repair.{repairs, residual, fatal}
use Rattle.stripes.proofs.Fold.{and_left, and_right}
use Rattle.stripes.proofs.Peel.{is_fatal, repairs_peels}
use Rattle.stripes.proofs.Wanted.{reached_of, wanted_is}
use Rattle.stripes.proofs.Positions.{one-fatal}
use Rattle.model.specs.Grid.{disks, size_fits, map_fits}
use Rattle.model.specs.Refusal.{refusal}
use Rattle.model.specs.Sheet.{narrow, sheet_of}
use Rattle.model.specs.Plan.{sheet_tests, one_tests, sheet_layout, loss_outcome, loss_sheets}
use Rattle.model.specs.PlanDisk.{can_be_wanted, plan_disk_tests, disk_outcome, disk_sheet, plan_disk_outcome, plan_disk_sheet}
use Rattle.model.specs.declared.Size.{Size}
use Rattle.model.specs.Outcome.{Outcome}
use Rattle.model.specs.Outcome.{Repairs, Refused}
use Rattle.model.proofs.Grid.{layout-disks, layout-two, map-length, rows-below}
use Rattle.model.proofs.Refusal.{fails, passes, no_tests}
use Rattle.model.proofs.Accept.{one-fits, one_passed}
use Rattle.model.proofs.PlanDisk.{disk-first, disk_refused, disk_given}
use Rattle.model.proofs.Limits.{peels_fitting}
use Rattle.entries.specs.Listed.{listed}
use Rattle.sheet.proofs.Fitting.{Small, listed-fits}
use Rattle.plan.specs.Drafted.{draft_sheets}
use Rattle.wanted.specs.Found.{Reaching}

-- ---- the test of the disk, where the map is as long as the grid has disks
module _ (z : Size) (m : List ℕ) (d : ℕ) where
  pub outside : map_fits (disks z) m ≡ true → length m ≤ d → false ≡ can_be_wanted z m d
  unfolding can_be_wanted
  outside fits out = let long = map-length (disks z) m fits in rw (le-ltb d (disks z) (omega arith))

  pub inside : map_fits (disks z) m ≡ true → d < length m → eqb (get_or m d 0) 1 ≡ can_be_wanted z m d
  unfolding can_be_wanted erasures
  inside fits l = let long = map-length (disks z) m fits in rw (lt-ltb d (disks z) (omega arith))

  pub is_wanted : can_be_wanted z m d ≡ true → (d < (sheet_layout z).disks) × (erasures m d ≡ true)
  unfolding can_be_wanted
  is_wanted can =
      let all = layout-disks z narrow.base in
      let l = ltb-true d (disks z) (and_left (ltb d (disks z)) _ can) in
      (omega arith, and_right (ltb d (disks z)) _ can)

-- ---- the tests of plan's arguments at one position
module _ (z : Size) (m : List ℕ) (len : ℕ) where
  pub size-first : size_fits z ≡ false → refusal (one_tests z m len) ≡ 1
  unfolding one_tests
  size-first size = fails 1 _ _ size

  pub size_passed : size_fits z ≡ true → refusal (one_tests z m len) ≡ refusal (sheet_tests z 1 m len)
  unfolding one_tests
  size_passed size = passes 1 _ _ size

-- ---- the call
module _ (z : Size) (m sheet : List ℕ) (d : ℕ) where
  -- The answer and the sheet are those of the definitions.
  abbrev pub Answers : Outcome → (after : List ℕ) → Type 0
  Answers answer after = (answer ≡ plan_disk_outcome z m sheet d) × (after ≡ plan_disk_sheet z m sheet d)

  -- Refusals keep the sheet: those by plan's tests, and 15.
  refused : (k : ℕ) → refusal (plan_disk_tests z m (length sheet) d) ≡ k → (k ≡ 0 → ⊥) → Answers (Refused k) sheet
  refused k e n =
      let (answer, left) = disk_refused z m sheet d (λ q. n (sym e ∙ q)) in (sym (answer ∙ ap Refused e), sym left)

  pub refused_plan : (k : ℕ) → refusal (one_tests z m (length sheet)) ≡ k → (k ≡ 0 → ⊥) → Answers (Refused k) sheet
  refused_plan k e n = refused k (disk-first z m (length sheet) d (λ q. n (sym e ∙ q)) ∙ e) n

  module _ (ok : refusal (one_tests z m (length sheet)) ≡ 0) where
    pub refused_disk : can_be_wanted z m d ≡ false → Answers (Refused 15) sheet
    unfolding plan_disk_tests
    refused_disk unfit = refused 15 (one_passed z m (length sheet) ok _ ∙ fails 15 _ _ unfit) (λ q. omega arith)

    module _ (can : can_be_wanted z m d ≡ true) where
      accepted : refusal (plan_disk_tests z m (length sheet) d) ≡ 0
      unfolding plan_disk_tests
      accepted = one_passed z m (length sheet) ok _ ∙ passes 15 _ _ can ∙ no_tests

      -- Where no list was found, the loss is fatal, and plan's draft decides, whatever its limit.
      pub unreached : residual (sheet_layout z) (erasures m) d ≡ true → (k : ℕ) (answer : Outcome) (after : List ℕ) → answer ≡ loss_outcome 1 (sheet_layout z) (erasures m)
          → after ≡ draft_sheets 1 (sheet_layout z) narrow (erasures m) k → Answers answer after
      unfolding disk_outcome disk_sheet loss_sheets draft_sheets
      unreached left k answer after outcome written =
          let (l, erased) = is_wanted z m d can in
          let lossy : fatal (sheet_layout z) (erasures m) ≡ true = (is_fatal (sheet_layout z) (erasures m)).1 (d, l, left) in
          let same : draft_sheets 1 (sheet_layout z) narrow (erasures m) k ≡ disk_sheet (sheet_layout z) narrow (erasures m) d =
          rw (left, one-fatal (sheet_layout z) (erasures m), lossy) in
          let (gives, shows) = disk_given z m sheet d accepted in
          (outcome ∙ sym (gives ∙ (rw left)), written ∙ same ∙ sym shows)

      -- Otherwise its repairs fit a sheet, and are what is asked for.
      module _ {count : ℕ} {list : List ℕ} (f : Reaching (sheet_layout z) (erasures m) d count list) where
        pub small : Small list count
        unfolding residual
        small =
            let (l, erased) = is_wanted z m d can in
            let (size, map, long) = one-fits z m (length sheet) ok in
            let reached = reached_of (sheet_layout z) d (repairs (sheet_layout z) (erasures m)) (erasures m) (repairs_peels (sheet_layout z) (erasures m)) erased f.fine in
            let w = wanted_is (sheet_layout z) (layout-two z narrow.base (rows-below z size)) (erasures m) d reached in
            listed-fits (peels_fitting z size (erasures m) _ w.allowed_all) list count f.entries

        pub reaches : (after : List ℕ) → after ≡ sheet_of narrow 1 (listed list count) → Answers (Repairs count) after
        unfolding disk_outcome disk_sheet
        reaches after written =
            let left = f.fine in
            let (gives, shows) = disk_given z m sheet d accepted in (
              ap Repairs f.number ∙ sym (gives ∙ (rw left)),
              written ∙ ap (sheet_of narrow 1) f.entries ∙ sym (shows ∙ (rw left)),
            )
