-- `demands::tidy_and_follow` meets its contract: what the two calls promise is what the theorem about both is proved of.
-- Assumes nothing.
use mathlib.Core.Path.{◌∙◌, ap}
use Prim.Native.Nat.{◌/◌}
use native.Mathlib.Omega.{arith}
use Rattle.stripes.specs.System.{Bytes}
use Rattle.model.specs.Sheet.{narrow}
use Rattle.model.specs.Follow.{follow_outcome, follow_array}
use Rattle.model.proofs.Tidy.{tidied_sheets, follow_tidied}
use Rattle.demands.proofs.tidy_and_follow.Goals as goal

pub returns : goal.returns
returns c =
    let a = c.args in
    let bytes : Bytes a.sheets.now = λ i l. omega (arith, c.slice_known-2-1.given i) in
    let tidied = c.tidy_each.ensures in
    let record { outcome = outcome; array = array } = c.follow-followed.ensures in
    let (answer, left) =
    follow_tidied a.size a.block a.sector a.array.now a.map.now a.sheets.now _ bytes
    (tidied_sheets narrow (a.block / a.sector) a.sheets.now) in
    record {
      sheets = tidied;
      outcome = outcome ∙ ap (follow_outcome a.size a.block a.sector a.array.now a.map.now) tidied ∙ answer;
      array = array ∙ ap (follow_array a.size a.block a.sector a.array.now a.map.now) tidied ∙ left;
    }
