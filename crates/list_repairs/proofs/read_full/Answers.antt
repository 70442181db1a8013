-- `list_repairs::read_full` meets its contract: what a read gave stands behind what earlier reads gave.
use Rattle.std.proofs.Common.{◌≡◌, ◌-◌, ◌++◌, rules, sym, ap, ap₂, ◌∙◌, subst, le_refl, length, take, drop, drop_at, length-take-le}
use Rattle.std.proofs.Math.Seq.{take-add, take-append-le}
use Rattle.std.proofs.lemmas.Slice.{take-put_mid_below}
use Rattle.std.proofs.KnownBytes.{Consumes-trans}
use Rattle.std.specs.Io.KnownBytes.{Consumes}
use borrow.Rule.Slice.PartMut.{put_mid, post_of}
use Rattle.list_repairs.proofs.read_full.Goals as goal

pub loop-done-preserved : goal.loop-done-preserved
loop-done-preserved g c =
    let from = c.loop-done.done in
    let before = c.loop-done.buffer in
    let part = c.read.new.buf in
    let room = length before - from in
    let within = c.loop-done.invariant.1 in
    let whole = put_mid from room before part in
    let first : take from whole ≡ take from before = take-put_mid_below from room before part from (le_refl from) within in
    let rest = drop_at (take from before) (part ++ post_of from room before) from (length-take-le from before within) in
    let next : take c.in-Ok.came (drop from whole) ≡ take c.in-Ok.came part =
    ap (take c.in-Ok.came) rest ∙ take-append-le c.in-Ok.came part (post_of from room before) c.in-Ok.ensures.bound.0 in
    let joined = take-add from c.in-Ok.came whole ∙ ap₂ (λ a b. a ++ b) first next in
    (search rules, search rules, subst (Consumes _ _) (sym joined) (Consumes-trans _ _ _ _ _ c.loop-done.invariant.2 c.in-Ok.ensures.bytes.0))
