-- `smallest::way::level_of` meets its contract: each answer is that of the tests before it.
-- Assumes nothing.
use mathlib.Core.Path.{◌≡◌, sym, ◌∙◌}
use mathlib.Core.Bool.{true}
use native.Mathlib.Omega.{arith}
use Rattle.reach.specs.Reached.{next_in}
use Rattle.smallest.proofs.Levels.{level_absent, level_first, level_second, level_none}
use Rattle.smallest.proofs.way.level_of.Goals.{Else-not-has}
use Rattle.smallest.proofs.way.level_of.Goals as goal

pub returns-then-not-has : goal.returns-then-not-has
unfolding next_in
returns-then-not-has c =
    let a = c.args in
    level_absent a.near.now a.levels.now a.pair.low a.pair.high a.others
    (sym c.has.ensures ∙ c.if-not-has.true)

-- From here on the table has the disk.
held : (c : goal.Else-not-has) → let a = c.args in next_in a.near.now a.pair.low a.pair.high ≡ true
unfolding next_in
held c = sym c.has.ensures ∙ c.if-not-has.false

pub returns-then-here-from : goal.returns-then-here-from
returns-then-here-from c =
    let a = c.args in
    c.from-here.ensures
    ∙ level_first a.near.now a.levels.now a.pair.low a.pair.high a.others (held (goal.at.returns-then-here-from c).Else-not-has) (omega arith)

pub returns-then-there-from : goal.returns-then-there-from
returns-then-there-from c =
    let a = c.args in
    c.from-there.ensures
    ∙ level_second a.near.now a.levels.now a.pair.low a.pair.high a.others (held (goal.at.returns-then-there-from c).Else-not-has) (omega arith) (omega arith)

pub returns : goal.returns
returns c =
    let a = c.args in
    level_none a.near.now a.levels.now a.pair.low a.pair.high a.others (held (goal.at.returns c).Else-not-has) (omega arith) (omega arith)
