-- `bridges::reach_all` meets its contract: each turn of the loop reaches one stripe, with its part if it is not reached yet.
-- Assumes nothing.
use mathlib.Core.Path.{sym, ◌∙◌}
use native.Mathlib.Nat.{not-suc-le-zero}
use native.Mathlib.Omega.{arith}
use borrow.Author.Count.{below_more}
use Rattle.layout.proofs.Runs.{stripes_few}
use Rattle.bridges.proofs.Reaching.{none_grown}
use Rattle.bridges.proofs.reach_all.Goals.{then-not-has, else-not-has}
use Rattle.bridges.proofs.reach_all.Goals as goal

pub loop-s-init : goal.loop-s-init
loop-s-init c = (none_grown _ _ _ c.requires.ways_len, λ i l. absurd (not-suc-le-zero l))

pub has-requires : goal.has-requires
has-requires c =
    let few = stripes_few c.args.grid.numbered in
    omega (arith, c.loop-s-test.true, c.bound-s-end.ensures)

pub reach_part-done-requires : goal.reach_part-done-requires
reach_part-done-requires c =
    let few = stripes_few c.args.grid.numbered in
    record {
      near = c.requires.near;
      grown_2 = c.loop-s.invariant.0;
      stripe_lt_word_stripes = omega (arith, c.loop-s-test.true, c.bound-s-end.ensures);
      stripe_value = sym c.has.ensures ∙ c.if-not-has.true;
    }

pub loop-s-preserved : goal.loop-s-preserved
loop-s-preserved c =
    let h = c.loop-s.invariant in
    elim c.if-not-has.branch [
      | then-not-has w ↦
          let part = w.reach_part-done.ensures in
          rw (w.ways-is, w.done-is) (part.grown, below_more _ _ (λ i l. part.others i (h.1 i l)) part.own)
      | else-not-has w ↦
          rw (w.ways-is, w.done-is) (h.0, below_more _ _ h.1 (sym c.has.ensures ∙ w.if-not-has.false))
    ]
