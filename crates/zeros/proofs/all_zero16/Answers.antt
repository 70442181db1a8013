-- `zeros::all_zero16` meets its contract: the bytes so far are all zero exactly if nothing was gathered.
-- Assumes nothing.
use Rattle.std.proofs.Common.{refl, ◌∙◌, ◌+◌, ◌-◌, ap, ℕ, get_or, arith}
use lib.ListN.{drop, length-take, length-drop}
use Rattle.std.proofs.lemmas.List.{get_or-take, get_or-drop}
use Rattle.stripes.specs.Fold.{every}
use Rattle.zeros.proofs.Gathered.{zero-next_by}
use Rattle.zeros.proofs.all_zero16.Invariants.{zero_at}
use Rattle.zeros.proofs.all_zero16.Goals as goal

pub loop-b-init : goal.loop-b-init
unfolding every
loop-b-init c = refl

pub loop-b-preserved : goal.loop-b-preserved
loop-b-preserved c =
    let a = c.args in
    let l = c.loop-b in
    zero-next_by (λ j. get_or a.a.now (a.at + j) 0) l.b-index l.any _ (grind (arith, get_or-take, get_or-drop)) l.invariant

pub returns : goal.returns
returns c =
    let l = c.loop-b in
    l.invariant ∙ ap (λ (n : ℕ). every n (zero_at c.args.a.now c.args.at)) (omega (arith, length-take (c.args.at + 16 - c.args.at) (drop c.args.at c.args.a.now), length-drop c.args.at c.args.a.now))
