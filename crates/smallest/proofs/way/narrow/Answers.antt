-- `smallest::way::narrow` meets its contract: the table is cut, or the test says that no other disk leads on from the level.
-- Assumes nothing.
use mathlib.Core.Path.{refl, sym, ◌∙◌, ap, ap₂}
use mathlib.Core.Logic.{inl, inr}
use Prim.Native.Nat.{ℕ}
use lib.Bits.{bit_or}
use Rattle.reach.specs.Reached.{has}
use Rattle.smallest.proofs.way.narrow.Goals as goal

pub returns-then-crossing-one : goal.returns-then-crossing-one
returns-then-crossing-one c =
    let ball = c.ball-inside in
    let pair = c.if-crossing-one.true ∙ ap₂ bit_or c.one.ensures c.one-2.ensures in
    record {
      cut = record {
        inside = ball.result;
        reaches = ball.ensures;
        cut = inr (refl, λ y. ap (λ (w : ℕ). has w y) (sym pair) ∙ c.crossing.ensures y);
      };
      levels = c.requires.levelled;
    }

pub returns : goal.returns
returns c =
    let ball = c.ball-inside in
    record {
      cut = record { inside = ball.result; reaches = ball.ensures; cut = inl c.cut.ensures };
      levels = c.measure.ensures;
    }
