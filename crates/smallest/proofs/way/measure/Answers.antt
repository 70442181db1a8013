-- `smallest::way::measure` meets its contract: each half of the table is filled in its turn.
-- Assumes nothing.
use mathlib.Core.Path.{◌≡◌, sym, ◌∙◌}
use mathlib.Core.List.{List}
use Prim.Native.Nat.{ℕ}
use native.Mathlib.Omega.{arith}
use borrow.Author.Rules.{rules}
use lib.ListN.{length, take, length-take, length-drop, length-append}
use lib.Seq.{length-take-le}
use Rattle.smallest.proofs.Levels.{levelled_both}
use Rattle.smallest.proofs.way.measure.Goals as goal

-- The first half has a place for each stripe.
first : (levels : List ℕ) → length levels ≡ 128 → length (take 64 levels) ≡ 64
first levels room = length-take-le 64 levels (omega arith)

pub slice_bounds-levels-end-2 : goal.slice_bounds-levels-end-2
slice_bounds-levels-end-2 c = sym (first c.args.levels.now c.requires.levels_len)

pub levels-requires-clause-levels_len : goal.levels-requires-clause-levels_len
levels-requires-clause-levels_len c = first c.args.levels.now c.requires.levels_len

pub returns : goal.returns
returns c =
    let here = c.levels in
    let there = c.levels-2 in
    let long : length here.new.levels ≡ 64 = here.auto.levels ∙ first c.args.levels.now c.requires.levels_len in
    let wide : length there.new.levels ≡ 64 = there.auto.levels ∙ simp (length-take, length-drop, length-append) (omega arith) in
    levelled_both here.new.levels there.new.levels _ _ long here.ensures wide there.ensures (search rules)
