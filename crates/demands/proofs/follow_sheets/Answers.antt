-- `demands::follow_sheets` meets its contract: what follow promises is what the theorems about it are proved of.
-- Assumes nothing.
use mathlib.Core.Path.{◌≡◌, refl, ◌∙◌, sym, ap, subst}
use mathlib.Core.Logic.{◌↔◌}
use Prim.Native.Nat.{ℕ, ◌/◌, ◌<◌}
use native.Mathlib.Omega.{arith}
use Rattle.stripes.specs.System.{whole, Bytes}
use Rattle.stripes.specs.Erased.{erasures, Belongs}
use Rattle.model.specs.Plan.{outcome_status}
use Rattle.model.specs.Sheet.{narrow, sheet_at}
use Rattle.model.specs.Chain.{Leftover, chain_refusal}
use Rattle.model.specs.Follow.{Usable}
use Rattle.model.specs.Outcome.{Outcome}
use Rattle.model.proofs.Follow.{sectors, follow_any, follow_contradicted, follow_fourteen, follow_fatal}
use Rattle.model.proofs.Single.{follow_single}
use Rattle.model.proofs.ByPosition.{follow_alone}
use Rattle.demands.proofs.follow_sheets.Goals as goal

pub returns : goal.returns
returns c =
    let a = c.args in
    let found = c.slice_known-1.given in
    let small : Bytes a.array.now = λ i l. omega (arith, found i) in
    let record { outcome = outcome; array = array } = c.follow.ensures in
    record {
      outcome = outcome;
      array = array;
      rebuilt = λ usable k some enough.
          let (answer, left) =
          follow_any a.size a.block a.sector a.array.now a.map.now a.sheets.now a.sheets.now refl small usable k some enough in
          (outcome ∙ answer, array ∙ left);
      contradicted = λ ok.
          subst
          (λ (o : Outcome). (outcome_status o ≡ 7)
          ↔ (Usable a.size (a.block / a.sector) a.map.now a.sheets.now
          × (Belongs (sectors a.size a.block a.sector) (whole a.sector) (erasures a.map.now) a.array.now → ⊥)))
          (sym outcome) (follow_contradicted a.size a.block a.sector a.array.now a.map.now a.sheets.now ok small);
      leftovers = λ ok.
          subst
          (λ (o : Outcome). (outcome_status o ≡ 14)
          ↔ (((p : ℕ) → p < a.block / a.sector → chain_refusal narrow (sheet_at narrow p a.sheets.now) ≡ 0)
          × ((p : ℕ) × (p < a.block / a.sector) × ((i : ℕ) × Leftover narrow (sheet_at narrow p a.sheets.now) i))))
          (sym outcome) (follow_fourteen a.size a.block a.sector a.array.now a.map.now a.sheets.now ok);
      kept = λ lossy. array ∙ (follow_fatal a.size a.block a.sector a.array.now a.map.now a.sheets.now lossy).0;
      single = λ one.
          let (same, left) = follow_single a.size a.block a.array.now a.map.now a.sheets.now in
          rw (outcome, array, one) (same, left);
      alone = λ accepted.
          rw array
          (follow_alone a.size a.block a.sector a.array.now a.map.now a.sheets.now
          (sym (ap outcome_status outcome) ∙ accepted));
    }
