-- `tally::scan::Scan` meets its contract: a step finds the next erased disk.
-- Assumes nothing.
use mathlib.Core.Path.{refl}
use native.Mathlib.Omega.{arith}
use Rattle.tally.specs.Tally.{Passed}
use Rattle.tally.proofs.Scanned.{next_passed, next_erased_lem}
use Rattle.tally.proofs.scan.ScanIterator.next.Goals.{After-next_erased-d}
use Rattle.tally.proofs.scan.ScanIterator.next.Goals as goal

-- The disks that the step passes over.
passed : (c : goal.After-next_erased-d) → Passed c.args.self.now.map.now c.args.self.now.from c.next_erased-d.result
passed c = next_passed _ _ c.next_erased-d.ensures c.args.self.now.within

pub returns-then-self-d-clause-steps : goal.returns-then-self-d-clause-steps
returns-then-self-d-clause-steps c =
    let p = passed (goal.at.returns-then-self-d-clause-steps c).After-next_erased-d in
    (refl, record { after = c.args.self.now.within; within = omega arith; none = λ i a b. p.none i a (omega (arith, c.if-self-d.true)) })

pub returns-clause-steps : goal.returns-clause-steps
returns-clause-steps c =
    let here = c.if-self-d.false in
    (refl, (passed (goal.at.returns-clause-steps c).After-next_erased-d, omega arith, next_erased_lem _ _ c.next_erased-d.ensures (omega arith), refl))

pub returns-clause-goes : goal.returns-clause-goes
returns-clause-goes c =
    let p = passed (goal.at.returns-clause-goes c).After-next_erased-d in
    let l = c.if-self-d.false in
    record { on = λ _. (tt, tt, omega (arith, p.after)); keeps = tt; rests = λ _. tt }
