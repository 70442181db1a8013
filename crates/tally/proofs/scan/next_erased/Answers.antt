-- `tally::scan::next_erased` meets its contract: past the zeros, the loop looks for the next byte that is 1.
-- Assumes nothing.
use native.Mathlib.Nat.{le_refl}
use native.Mathlib.Omega.{arith}
use Rattle.stripes.proofs.Erased.{is_erased}
use Rattle.tally.proofs.Scanned.{passed_next, next_is}
use Rattle.tally.proofs.scan.next_erased.Goals as goal

pub returns-then-map-from : goal.returns-then-map-from
returns-then-map-from c = let h = c.if-map-from.true in next_is _ _ _ (le_refl _) (λ i a b. absurd (omega arith)) (λ l. absurd (omega arith))

pub returns-then-map-from-eq1 : goal.returns-then-map-from-eq1
returns-then-map-from-eq1 c =
    let h = c.if-map-from.false in
    next_is _ _ _ (omega arith) (λ i a b. absurd (omega arith)) (λ l. (le_refl _, is_erased _ _ c.if-map-from-eq1.true))

pub loop-d-init : goal.loop-d-init
loop-d-init c = c.pass_zeros-d.ensures

pub returns-then-map-d-eq1 : goal.returns-then-map-d-eq1
returns-then-map-d-eq1 c = let p = c.loop-d.invariant in next_is _ _ _ p.within p.none (λ l. (p.after, is_erased _ _ c.if-map-d-eq1.true))

pub loop-d-preserved : goal.loop-d-preserved
loop-d-preserved c = passed_next c.loop-d.invariant c.loop-d-test.true c.if-map-d-eq1.false

pub returns : goal.returns
returns c = let p = c.loop-d.invariant in next_is _ _ _ (omega arith) (λ i a b. p.none i a (omega arith)) (λ l. absurd (omega arith))
