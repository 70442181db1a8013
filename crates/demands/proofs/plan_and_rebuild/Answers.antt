-- `demands::plan_and_rebuild` meets its contract: what plan and the turns promise is what demand 3 is proved of.
-- Assumes nothing.
use mathlib.Core.Path.{sym, subst, ap}
use Rattle.series.specs.Total.{Total}
use mathlib.Core.List.{List}
use Prim.Native.Nat.{ℕ}
use native.Mathlib.Omega.{arith}
use Rattle.stripes.specs.System.{Bytes}
use Rattle.stripes.specs.Erased.{erasures}
use Rattle.model.specs.Sheet.{narrow}
use Rattle.model.specs.Edition.{superparity}
use Rattle.model.specs.Demand3.{Planned}
use Rattle.model.specs.Outcome.{Outcome}
use Rattle.model.proofs.Demand3.{plan-planned}
use Rattle.demands.proofs.Promised.{promised}
use Rattle.model.proofs.Single.{plan_single, plan-alone}
use Rattle.model.proofs.Tidy.{plan_reads, plan_usable}
use Rattle.demands.proofs.plan_and_rebuild.Goals as goal

pub returns : goal.returns
returns c =
    let a = c.args in
    let E = superparity a.size narrow.base in
    let record { outcome = planned; sheets = draft } = c.plan-planned.ensures in
    let record { turns = rebuilt; array = array; map = map; sheets = sheets } = c.rebuild_in_turns-rebuilt.ensures in
    let small : Bytes a.array.now = λ i l. omega (arith, c.slice_known-1.given i) in
    record {
      planned = planned;
      draft = draft;
      rebuilt = (
        ap (λ (t : Total). t.last) rebuilt,
        ap (λ (t : Total). t.turns) rebuilt,
        ap (λ (t : Total). t.made) rebuilt,
        ap (λ (t : Total). t.left) rebuilt,
      );
      array = array;
      map = map;
      sheets = sheets;
      plan = λ planOk.
          subst (λ (p : Outcome × List ℕ). Planned a.sectors E narrow (erasures a.map.now) p.0 p.1)
          (sym (λ i. (planned i, draft i)))
          (plan-planned a.size a.sectors a.map.now a.draft.now planOk);
      demand3 = λ cut planOk rebuildOk enough.
          promised a.size a.block a.sector a.limit a.array.now a.map.now a.draft.now a.sheets.now small rebuildOk
          _ _ _ _ _ _ rebuilt array map sheets a.sectors cut planned draft planOk enough;
      single = λ one.
          let (same, left) = plan_single a.size a.map.now a.draft.now in
          rw (planned, draft, one) (same, left);
      alone = λ planOk. rw (planned, draft) (plan-alone a.size a.sectors a.map.now a.draft.now planOk);
      read = λ planOk fine.
          rw draft (
            plan_reads a.size a.sectors a.map.now a.draft.now planOk fine,
            plan_usable a.size a.sectors a.map.now a.draft.now planOk fine,
          );
    }
