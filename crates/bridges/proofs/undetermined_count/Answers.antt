-- `bridges::undetermined_count` meets its contract: all erased disks but those of the links that are not closed are undetermined.
-- Assumes nothing.
use mathlib.Core.Path.{◌≡◌, sym, ◌∙◌, ap}
use Prim.Native.Nat.{ℕ, ◌+◌}
use native.Mathlib.Omega.{arith}
use Rattle.stripes.specs.Fold.{count}
use Rattle.stripes.specs.Erased.{erasures}
use Rattle.stripes.specs.Undetermined.{lost}
use Rattle.stripes.proofs.Fold.{count_ext}
use Rattle.stripes.proofs.Degree.{on-bound}
use Rattle.stripes.proofs.Joined.{lower-bound, higher-bound}
use Rattle.model.specs.Grid.{layout_of}
use Rattle.model.proofs.Grid.{layout-disks}
use Rattle.layout.proofs.Runs.{numbered_two, stripes_few}
use Rattle.reach.specs.Reached.{word_stripes}
use Rattle.reach.proofs.Words.{has-without}
use Rattle.bridges.proofs.Counted.{bridges_lost}
use Rattle.bridges.proofs.undetermined_count.Goals.{After-members}
use Rattle.bridges.proofs.undetermined_count.Goals as goal

-- The disks that are found determined and all that are not are the erased ones.
all : (c : goal.After-members) →
    lost (layout_of c.args.grid.size c.args.grid.base) (erasures c.args.work.now) + c.members.result ≡ c.args.erased
all c =
    let two = numbered_two c.args.grid.numbered in
    let reached = c.reach_all-all in
    let f = reached.ensures.grown.forest in
    let found =
    bridges_lost (layout_of c.args.grid.size c.args.grid.base) two (erasures c.args.work.now) f
    (λ d l h. reached.ensures.all _ (lower-bound _ two d l)) (λ d l h. reached.ensures.all _ (higher-bound _ two d l))
    (λ t l. let few = stripes_few c.args.grid.numbered in let less = on-bound _ two (f.disk t) (f.inside t l) t (f.here t l) in omega arith) in
    let words = count_ext word_stripes (λ t l. has-without reached.result.links reached.result.closed t) in
    ap (λ (n : ℕ). lost (layout_of c.args.grid.size c.args.grid.base) (erasures c.args.work.now) + n) (c.members.ensures ∙ words) ∙ found
    ∙ ap (λ (n : ℕ). count n (erasures c.args.work.now)) (layout-disks c.args.grid.size c.args.grid.base) ∙ sym c.requires.erased_value

pub overflow_sub-result : goal.overflow_sub-result
overflow_sub-result c = let sum = all (goal.at.overflow_sub-result c).After-members in omega arith

pub returns : goal.returns
returns c = let sum = all (goal.at.returns c).After-members in omega arith
