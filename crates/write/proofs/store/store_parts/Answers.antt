-- `write::store::store_parts` meets its contract: after each turn one part more of the four blocks is done.
-- Assumes nothing.
use mathlib.Core.Path.{refl, ◌∙◌}
use Prim.Native.Nat.{◌+◌, ◌*◌}
use Rattle.write.specs.Store.{parts}
use Rattle.write.proofs.Turns.{part_is, parts_next}
use Rattle.write.proofs.store.store_parts.Goals as goal

pub loop-i-init : goal.loop-i-init
unfolding parts
loop-i-init g c = refl

pub loop-i-preserved : goal.loop-i-preserved
loop-i-preserved g c =
    let a = c.args in
    let l = c.loop-i in
    part_is a.at a.«data».now g.row.W l.array (a.from + g.row.W * l.i) c.difference-change.result c.add.new.a c.add-in-loop-i.new.a c.add-in-loop-i-2.new.a
    c.add-in-loop-i-3.new.a c.difference-change.ensures c.add.ensures c.add-in-loop-i.ensures c.add-in-loop-i-2.ensures c.add-in-loop-i-3.ensures
    ∙ parts_next a.at a.«data».now g.row.W a.from a.array.now l.array l.i l.invariant
