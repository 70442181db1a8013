-- `reach::levels` meets its contract: each turn of the loop is a step of the search, and marks what it reaches first.
-- Assumes nothing.
use Rattle.std.proofs.Common.{◌∙◌, ◌+◌, length}
use native.Mathlib.Omega.{arith}
use Rattle.std.proofs.lemmas.List.{get_or-replicate}
use Rattle.reach.proofs.Steps.{unreached}
use Rattle.reach.proofs.Search.{searched_none, searched_next, searched_all}
use Rattle.reach.proofs.Levelled.{levelled-none, levelled-next, levelled_all}
use Rattle.reach.proofs.levels.Goals as goal

pub loop-level-init : goal.loop-level-init
loop-level-init c =
    let filled = c.fill in
    let long = filled.auto.self ∙ c.requires.levels_len in
    let same = filled.ensures.after (λ y e. e) in (
      searched_none _ _ _ c.one-done.ensures,
      levelled-none _ _ _ filled.new.self long c.requires.from_lt_word_stripes (λ t w. rw same (get_or-replicate (length c.args.levels.now) t (c.args.limit + 1) 0 (omega arith))),
    )

pub returns-then-front-eq0 : goal.returns-then-front-eq0
returns-then-front-eq0 c =
    let (searched, levelled) = c.loop-level.invariant in
    levelled_all levelled (λ t out. searched_all searched _ c.fresh-front.ensures c.if-front-eq0.true _ c.loop-level.auto.level-end t ∙ out)

pub mark-requires : goal.mark-requires
mark-requires c = c.loop-level.invariant.1.long

pub loop-level-preserved : goal.loop-level-preserved
loop-level-preserved c =
    let mark = c.mark in
    let turn = c.loop-level-test.true in
    let (searched, levelled) = c.loop-level.invariant in (
      searched_next searched _ c.fresh-front.ensures,
      levelled-next levelled turn searched _ c.fresh-front.ensures _ mark.auto.levels mark.ensures,
    )

pub returns : goal.returns
returns c =
    let (searched, levelled) = c.loop-level.invariant in
    levelled_all levelled (λ t out. unreached _ _ _ _ _ _ c.loop-level-test.false out)
