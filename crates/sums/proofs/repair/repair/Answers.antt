-- `sums::repair::repair` meets its contract: what fill makes of the run of the stripe.
-- Assumes nothing.
use mathlib.Core.Path.{◌∙◌}
use native.Mathlib.Omega.{arith}
use Rattle.sums.proofs.Runs.{Repair, repair_is}
use Rattle.sums.proofs.repair.repair.Goals.{After-place_on-own}
use Rattle.sums.proofs.repair.repair.Goals as goal

known : (c : goal.After-place_on-own) → let a = c.args in
    Repair a.grid.size a.grid.base a.stretch a.array.now a.disk a.stripe c.disks_on-run.result c.place_on-own.result
known c =
    let a = c.args in
    repair_is a.grid.size a.grid.base c.args.grid.numbered a.stretch a.array.now c.requires.held a.disk a.stripe c.requires.disk_bound c.requires.stripe_value
    _ c.disks_on-run.ensures _ c.place_on-own.ensures

pub overflow_mul-run : goal.overflow_mul-run
overflow_mul-run c = let h = (known (goal.at.overflow_mul-run c).After-place_on-own).start in omega arith

pub overflow_add-run : goal.overflow_add-run
overflow_add-run c = let h = (known (goal.at.overflow_add-run c).After-place_on-own).start in omega arith

pub overflow_mul-run-2 : goal.overflow_mul-run-2
overflow_mul-run-2 c = let h = (known (goal.at.overflow_mul-run-2 c).After-place_on-own).stride in omega arith

pub fill-requires : goal.fill-requires
fill-requires c = (known (goal.at.fill-requires c).After-place_on-own).spaced

pub returns : goal.returns
returns c = c.fill.ensures ∙ (known (goal.at.returns c).After-place_on-own).made
