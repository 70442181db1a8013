-- `zeros::wipe` meets its contract.
-- Assumes nothing.
use Rattle.std.proofs.Common.{◌∙◌, ◌+◌, ◌-◌, ap, List, ℕ, replicate, arith}
use borrow.Rule.Slice.PartMut.{put_mid}
use Rattle.zeros.proofs.Stored.{stored_all}
use Rattle.zeros.proofs.wipe.Goals as goal

pub returns : goal.returns
returns c =
    let a = c.args in
    ap (λ (part : List ℕ). put_mid a.at (a.at + a.len - a.at) a.a.now part) (c.fill.ensures.after (λ y e. e) ∙ ap (λ (n : ℕ). replicate n 0) (grind arith))
    ∙ stored_all a.a.now a.at a.len 0 c.requires
