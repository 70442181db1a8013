-- `bridges::reach_one` meets its contract: the lowest neighbour that is reached is what the stripe is reached from.
-- Assumes nothing.
use Prim.Native.Nat.{ℕ, ◌-◌, ◌^◌, ◌<◌}
use native.Mathlib.Omega.{arith}
use lib.Bits.{bit_and, and_le_r}
use lib.Count.{count_trailing_zeros}
use lib.ListN.{get_or}
use Rattle.layout.proofs.Runs.{numbered_two}
use Rattle.reach.proofs.Words.{Without, lowest_out}
use Rattle.neighbours.proofs.Neighbours.{grid-apart}
use Rattle.bridges.proofs.Reaching.{with_one, back_some, reached-one}
use Rattle.bridges.proofs.reach_one.Goals.{Start}
use Rattle.bridges.proofs.reach_one.Goals as goal

-- The neighbours that are reached, and the lowest of them.
abbrev back : goal.Start → ℕ
back s = bit_and (get_or s.args.near.now s.args.stripe 0) s.args.before.seen

out : (s : goal.Start) → s.args.before.seen < 2 ^ 64 → let w = back s in Without w (count_trailing_zeros 64 w) (bit_and w (w - 1))
out s fits =
    let p = s.requires in
    let less = and_le_r (get_or s.args.near.now s.args.stripe 0) s.args.before.seen in
    lowest_out _
    (back_some _ (numbered_two s.args.grid.numbered) (grid-apart s.args.grid.numbered) p.near fits p.growing_2 p.stripe_lt_word_stripes p.beside)
    (omega arith)

pub bounds-ways-from : goal.bounds-ways-from
bounds-ways-from c = omega (arith, (out (goal.at.bounds-ways-from c).Start (omega arith)).small, c.requires.growing_2.room)

pub overflow_sub-back : goal.overflow_sub-back
overflow_sub-back c = omega (arith, (out (goal.at.overflow_sub-back c).Start (omega arith)).less)

pub returns : goal.returns
returns c =
    let p = c.requires in
    let fits : c.args.before.seen < 2 ^ 64 = omega arith in
    let shut = c.closing-closed in
    rw c.one-own.ensures
    record {
      growing =
          reached-one _ (numbered_two c.args.grid.numbered) (grid-apart c.args.grid.numbered) p.near fits p.growing_2 p.stripe_lt_word_stripes p.beside
          (out (goal.at.returns c).Start fits) shut.result (rw c.one-own.ensures at shut.ensures);
      seen = (with_one c.args.before.seen c.args.stripe).is;
    }
