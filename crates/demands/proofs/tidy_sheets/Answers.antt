-- `demands::tidy_sheets` meets its contract: what tidy promises is what the theorems about it are proved of.
-- Assumes nothing.
use mathlib.Core.Path.{sym, ◌∙◌}
use native.Mathlib.Omega.{arith}
use Rattle.stripes.specs.System.{Bytes}
use Rattle.model.specs.Sheet.{narrow}
use Rattle.model.proofs.Tidy.{tidy_demand, same-form}
use Rattle.demands.proofs.tidy_sheets.Goals as goal

pub returns : goal.returns
returns c =
    let a = c.args in
    let one : Bytes a.one.now = λ i l. omega (arith, c.slice_known-1.given i) in
    let other : Bytes a.other.now = λ i l. omega (arith, c.slice_known-2-1.given i) in
    let record { status = status; sheet = sheet } = c.tidy-first.ensures in
    let record { status = status₂; sheet = sheet₂ } = c.tidy-second.ensures in
    record {
      statuses = (status, status₂);
      sheets = (sheet, sheet₂);
      demand = (
        λ taken. rw sheet (tidy_demand narrow (omega arith) (omega arith) _ one (sym status ∙ taken)),
        λ taken. rw sheet₂ (tidy_demand narrow (omega arith) (omega arith) _ other (sym status₂ ∙ taken)),
      );
      same = λ taken taken₂.
          rw (sheet, sheet₂) (same-form narrow (omega arith) (omega arith) _ _ one other (sym status ∙ taken) (sym status₂ ∙ taken₂));
    }
