-- `layout::is_data` meets its contract: each test is one of the definition's.
-- Assumes nothing.
use mathlib.Core.Path.{◌∙◌, sym, ap}
use mathlib.Core.Bool.{Bool, ◌&&◌}
use Prim.Native.Nat.{ℕ, ◌/◌, ◌%◌}
use native.Mathlib.Omega.{arith}
use borrow.Author.Tests.{lt-ltb, le-ltb}
use lib.Dec.{ltb}
use Rattle.model.specs.Grid.{rows, columns, across, is_data}
use Rattle.model.proofs.Grid.{across_positive}
use Rattle.layout.proofs.is_data.Goals as goal

pub nonzero_div-disk : goal.nonzero_div-disk
nonzero_div-disk c = let h = across_positive c.args.size in let e = c.across-across.ensures in omega arith

pub nonzero_rem-result : goal.nonzero_rem-result
nonzero_rem-result c = let h = across_positive c.args.size in let e = c.across-across.ensures in omega arith

pub returns-then-disk-across : goal.returns-then-disk-across
unfolding is_data rows columns
returns-then-disk-across c =
    let a = c.args in
    let w = c.across-across.ensures in
    let row = ap (λ (w : ℕ). ltb (a.disk / w) a.size.rows) (sym w) ∙ lt-ltb _ _ c.if-disk-across.true in
    ap (λ (w : ℕ). ltb (a.disk % w) a.size.columns) w
    ∙ ap (λ (t : Bool). t && ltb (a.disk % across a.size) a.size.columns) (sym row)

pub returns : goal.returns
unfolding is_data rows columns
returns c =
    let a = c.args in
    let row = ap (λ (w : ℕ). ltb (a.disk / w) a.size.rows) (sym c.across-across.ensures) ∙ le-ltb _ _ c.if-disk-across.false in
    ap (λ (t : Bool). t && ltb (a.disk % across a.size) a.size.columns) (sym row)
