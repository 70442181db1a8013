-- `raid2d::raid2d_look` meets its contract: a part that is not empty is the block.
-- Assumes nothing.
use mathlib.Core.Path.{◌≡◌, ◌∙◌, sym, ap}
use native.Mathlib.Omega.{arith}
use lib.ListN.{length}
use Rattle.model.specs.Grid.{rectangle}
use Rattle.model.specs.Array.{look_length}
use Rattle.raid2d.proofs.Looked.{Found, part_length, look_none, look_some}
use Rattle.raid2d.proofs.raid2d_look.Goals.{Else-len-eq0}
use Rattle.raid2d.proofs.raid2d_look.Goals as goal

-- The part's length, which the code tests.
part_is : (c : goal.Else-len-eq0) →
    let a = c.args in
    length c.look-part.result.now ≡ look_length (rectangle a.rows a.columns) a.block a.sector a.array.now a.map.now a.disk
unfolding rectangle
part_is c =
    let a = c.args in
    ap length c.look-part.ensures.bytes ∙ part_length (rectangle a.rows a.columns) a.block a.sector a.array.now a.map.now a.disk

found : (c : goal.Else-len-eq0) →
    let a = c.args in
    Found (rectangle a.rows a.columns) a.block a.sector a.array.now a.map.now a.disk
unfolding rectangle
found c =
    let a = c.args in
    look_some (rectangle a.rows a.columns) a.block a.sector a.array.now a.map.now a.disk (λ e. c.if-len-eq0.false (part_is c ∙ sym e))

pub returns-then-len-eq0 : goal.returns-then-len-eq0
unfolding rectangle
returns-then-len-eq0 c =
    let a = c.args in
    let z = rectangle a.rows a.columns in
    let length_is = part_length z a.block a.sector a.array.now a.map.now a.disk in
    let e = sym c.if-len-eq0.true ∙ ap length c.look-part.ensures.bytes ∙ length_is in
    record {
      length = e;
      offset = look_none z a.block a.sector a.array.now a.map.now a.disk e a.offset.now;
    }

pub overflow_mul-offset : goal.overflow_mul-offset
unfolding rectangle
overflow_mul-offset c = let h = (found (goal.at.overflow_mul-offset c).Else-len-eq0).within in omega arith

pub returns-clause-length : goal.returns-clause-length
unfolding rectangle
returns-clause-length c = part_is (goal.at.returns-clause-length c).Else-len-eq0

pub returns-clause-offset : goal.returns-clause-offset
unfolding rectangle
returns-clause-offset c = sym ((found (goal.at.returns-clause-offset c).Else-len-eq0).offset_is c.args.offset.now)
