-- `sheet::zero` meets its contract.
-- Assumes nothing.
use Rattle.std.proofs.Common.{ap, ◌∙◌, ℕ}
use lib.ListN.{replicate}
use Rattle.stripes.specs.Fold.{tabulate}
use Rattle.model.specs.Sheet.{blank_sheet}
use Rattle.sheet.proofs.zero.Goals as goal

pub returns : goal.returns
unfolding blank_sheet tabulate
returns c = c.fill.ensures.after (λ y e. e) ∙ ap (λ (n : ℕ). replicate n 0) c.requires
