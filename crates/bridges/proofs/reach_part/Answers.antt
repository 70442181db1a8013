-- `bridges::reach_part` meets its contract: each turn of the loop reaches one of the stripes ahead.
-- Assumes nothing.
use Prim.Native.Nat.{◌-◌, ◌<◌, ◌^◌}
use native.Mathlib.Omega.{arith}
use lib.Bits.{bit_and, or_lt, xor_lt}
use lib.Count.{count_trailing_zeros}
use lib.Pow.{pow-lt}
use Rattle.layout.proofs.Runs.{numbered_two}
use Rattle.reach.proofs.Words.{Without, lowest_out}
use Rattle.neighbours.proofs.Neighbours.{grid-apart}
use Rattle.bridges.proofs.Forest.{with_u, with_old}
use Rattle.bridges.proofs.Reaching.{with_one, spread_begin, spread_next, spread_end, fewer_unseen}
use Rattle.bridges.proofs.reach_part.Goals.{In-loop-ahead}
use Rattle.bridges.proofs.reach_part.Goals as goal

pub loop-ahead-init : goal.loop-ahead-init
loop-ahead-init c =
    let p = c.requires in
    let one = c.one.ensures in
    let power = pow-lt {i = c.args.stripe} {j = 64} p.stripe_lt_word_stripes in
    let fits : c.args.before.seen < 2 ^ 64 = omega arith in
    rw one
    (spread_begin _ (numbered_two c.args.grid.numbered) (grid-apart c.args.grid.numbered) p.near p.grown_2 c.args.stripe p.stripe_lt_word_stripes p.stripe_value
    (or_lt 64 _ _ fits power) (c.type_inv.near c.args.stripe).fits)

-- The stripe of a turn, which is ahead.
out : (c : goal.In-loop-ahead) → let w = c.loop-ahead.ahead in Without w (count_trailing_zeros 64 w) (bit_and w (w - 1))
out c = lowest_out _ c.loop-ahead-test.true c.loop-ahead.invariant.ahead_fits

pub reach_one-done-requires : goal.reach_one-done-requires
reach_one-done-requires c =
    let p = c.requires in
    let h = c.loop-ahead.invariant in
    record {
      near = p.near;
      growing_2 = h.growing;
      stripe_lt_word_stripes = (out (goal.at.reach_one-done-requires c).In-loop-ahead).small;
      beside = h.offered _ (out (goal.at.reach_one-done-requires c).In-loop-ahead).member;
    }

pub loop-ahead-smaller : goal.loop-ahead-smaller
loop-ahead-smaller c =
    fewer_unseen _ _ _ (out (goal.at.loop-ahead-smaller c).In-loop-ahead).small (c.loop-ahead.invariant.offered _ (out (goal.at.loop-ahead-smaller c).In-loop-ahead).member).unseen c.reach_one-done.ensures.seen

pub loop-ahead-preserved : goal.loop-ahead-preserved
loop-ahead-preserved c =
    let p = c.requires in
    let more = c.reach_one-done in
    let fits : more.result.seen < 2 ^ 64 = omega arith in
    spread_next _ (numbered_two c.args.grid.numbered) (grid-apart c.args.grid.numbered) p.near c.loop-ahead.invariant _ (out (goal.at.loop-ahead-preserved c).In-loop-ahead).small more.ensures.growing fits more.ensures.seen
    (xor_lt 64 _ _ (or_lt 64 _ _ (or_lt 64 _ _ c.loop-ahead.invariant.ahead_fits (c.type_inv.near _).fits) fits) fits)

pub returns : goal.returns
returns c =
    let h = c.loop-ahead.invariant in
    let p = c.requires in
    let first = rw c.one.ensures at h.kept in
    record {
      grown = spread_end _ (numbered_two c.args.grid.numbered) (grid-apart c.args.grid.numbered) p.near h c.loop-ahead-test.false;
      own = first c.args.stripe (with_u (with_one c.args.before.seen c.args.stripe));
      others = λ t k. first t (with_old (with_one c.args.before.seen c.args.stripe) t k);
    }
