-- `look::all_present` meets its contract: what the call of `all` says of the disk's part of the map.
-- Assumes nothing.
use mathlib.Core.Path.{◌≡◌}
use Prim.Native.Nat.{◌+◌, ◌*◌, ◌-◌}
use native.Mathlib.Nat.{add-sub_cancel_left}
use borrow.Author.Rules.{rules}
use borrow.Author.Tests.{tests}
use Rattle.std.proofs.lemmas.Iterator.{cases_from_all, YieldsList-from_slice}
use Rattle.stripes.specs.Sectors.{sector_at}
use Rattle.model.specs.Array.{all_present}
use Rattle.look.proofs.Present.{part, all_zero}
use Rattle.look.proofs.all_present.Goals as goal

pub returns : goal.returns
unfolding all_present sector_at
returns c =
    let m = c.args.map.now in
    let n = c.args.sectors in
    let first = c.args.disk * n in
    let cut : first + n - first ≡ n = add-sub_cancel_left first n in
    all_zero m first n c.requires _
    (cases_from_all _ _ _ (λ x. x ≡ 0) (λ x. x ≡ 0 → ⊥) c.all.ensures.ran (YieldsList-from_slice (part m first n c.requires) (cc c.iter.ensures.rest))
    (λ x q k. search (rules, tests)) (λ x q k. search (rules, tests)))
