-- `restore::repair::repair_all` meets its contract: after k turns the first k repairs are made.
-- Assumes nothing.
use mathlib.Core.Path.{◌∙◌, ap}
use Prim.Native.Nat.{ℕ}
use native.Mathlib.Omega.{arith}
use Rattle.stripes.specs.Repair.{rebuilt}
use Rattle.model.specs.Grid.{layout_of}
use Rattle.entries.specs.Listed.{listed}
use Rattle.restore.proofs.Steps.{steps_none, steps_next}
use Rattle.restore.proofs.repair.repair_all.Goals.{In-loop-k}
use Rattle.restore.proofs.repair.repair_all.Goals as goal

pub loop-k-init : goal.loop-k-init
loop-k-init c =
    let a = c.args in
    steps_none (layout_of a.grid.size a.grid.base) a.stretch a.array.now a.list.now

pub loop-k-preserved : goal.loop-k-preserved
loop-k-preserved c =
    let a = c.args in
    let l = c.loop-k in
    c.repair.ensures
    ∙ steps_next (layout_of a.grid.size a.grid.base) a.stretch a.array.now a.list.now l.k l.array l.invariant _ _
    c.disk_of-disk.ensures c.stripe_of-stripe.ensures

pub returns : goal.returns
returns c =
    let a = c.args in
    let l = c.loop-k in
    l.invariant
    ∙ ap (λ (n : ℕ). rebuilt (layout_of a.grid.size a.grid.base) a.stretch a.array.now (listed a.list.now n)) (omega arith)
