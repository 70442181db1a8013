-- `refusal::bytes_fit` meets its contract: the bytes so far are 0 or 1 exactly if what was gathered is.
-- Assumes nothing.
use mathlib.Core.Path.{◌∙◌, sym, ap, refl}
use mathlib.Core.Bool.{Bool, ◌&&◌}
use Prim.Native.Nat.{ℕ}
use native.Mathlib.Omega.{arith}
use borrow.Author.Tests.{eq-eqb, ne_eqb}
use lib.ListN.{length, get_or}
use Rattle.stripes.specs.Fold.{every}
use Rattle.model.specs.Grid.{map_fits}
use Rattle.refusal.proofs.Gathered.{small-next}
use Rattle.refusal.proofs.bytes_fit.Invariants.{small}
use Rattle.refusal.proofs.bytes_fit.Goals as goal

pub returns-then-map-len : goal.returns-then-map-len
unfolding map_fits
returns-then-map-len c =
    let a = c.args in
    sym (ap (λ (t : Bool). t && every (length a.map.now) (small a.map.now)) (ne_eqb _ _ c.if-map-len.true))

pub loop-byte-init : goal.loop-byte-init
unfolding every
loop-byte-init c = refl

pub loop-byte-preserved : goal.loop-byte-preserved
loop-byte-preserved c =
    let m = c.args.map.now in
    let l = c.loop-byte in
    small-next (λ d. get_or m d 0) l.byte-index l.any l.invariant

pub returns : goal.returns
unfolding map_fits
returns c =
    let m = c.args.map.now in
    let l = c.loop-byte in
    l.invariant ∙ ap (λ (n : ℕ). every n (small m)) (omega arith)
    ∙ sym (ap (λ (t : Bool). t && every (length m) (small m)) (eq-eqb _ _ c.if-map-len.false))
