-- `demands::plan_and_plan_disk` meets its contract: what the two plans promise is what the theorems about them are proved of.
-- Assumes nothing.
use mathlib.Core.Path.{◌≡◌, sym, ◌∙◌, ap, subst}
use mathlib.Core.Bool.{Bool}
use mathlib.Core.List.{List}
use Prim.Native.Nat.{ℕ}
use borrow.Author.Tests.{eqb-true, eqb-false}
use lib.Dec.{eqb}
use lib.ListN.{length}
use Rattle.stripes.specs.Erased.{erasures}
use Rattle.stripes.proofs.Fold.{by_cases}
use Rattle.model.specs.Refusal.{refusal}
use Rattle.model.specs.Sheet.{narrow}
use Rattle.model.specs.Plan.{outcome_status}
use Rattle.model.specs.PlanDisk.{plan_disk_tests, plan_disk_outcome, DiskDemand}
use Rattle.model.specs.Edition.{superparity}
use Rattle.model.specs.declared.Size.{Size}
use Rattle.model.specs.Outcome.{Outcome}
use Rattle.model.proofs.Accept.{plan-fits, one-fits}
use Rattle.model.proofs.PlanDisk.{disk_takes, disk_refused, disk_demand, disk-tidy, disk_look}
use Rattle.demands.proofs.plan_and_plan_disk.Goals as goal

-- A call that answers 0 was not refused.
taken : (z : Size) (m sheet : List ℕ) (d : ℕ) → outcome_status (plan_disk_outcome z m sheet d) ≡ 0
    → refusal (plan_disk_tests z m (length sheet) d) ≡ 0
unfolding outcome_status
taken z m sheet d served =
    let k : ℕ = refusal (plan_disk_tests z m (length sheet) d) in
    by_cases (λ (b : Bool). k ≡ 0) (eqb k 0) (eqb-true k 0)
    (λ q. sym (ap outcome_status (disk_refused z m sheet d (eqb-false k 0 q)).0) ∙ served)

pub returns : goal.returns
returns c =
    let a = c.args in
    let E = superparity a.size narrow.base in
    let record { outcome = planned; sheets = draft } = c.plan-planned.ensures in
    let record { outcome = wanted; sheet = sheet } = c.plan_disk-wanted.ensures in
    record {
      planned = planned;
      draft = draft;
      wanted = wanted;
      sheet = sheet;
      demand = λ planOk diskOk.
          let long = (plan-fits _ 1 _ _ planOk).3 in
          let long₂ = (one-fits _ _ _ ((disk_takes _ _ _ _).0 diskOk).0).2 in
          subst
          (λ (p : Outcome × List ℕ × Outcome × List ℕ). DiskDemand E narrow (erasures a.map.now) a.disk p.0 p.1 p.2 p.3)
          (sym (λ i. (planned i, draft i, wanted i, sheet i)))
          (disk_demand a.size a.map.now a.sheet.now a.disk diskOk a.draft.now (long ∙ sym long₂));
      tidy = λ served.
          let zero = sym (ap outcome_status wanted) ∙ served in
          rw sheet (disk-tidy a.size a.map.now a.sheet.now a.disk (taken _ _ _ _ zero) zero);
      look = λ served B array fits.
          let zero = sym (ap outcome_status wanted) ∙ served in
          rw sheet (disk_look a.size a.map.now a.sheet.now a.disk (taken _ _ _ _ zero) zero B array fits);
    }
