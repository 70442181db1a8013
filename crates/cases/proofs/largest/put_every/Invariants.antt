-- `cases::largest::put_every` stays within the bytes.
use Rattle.std.proofs.Common.{◌≡◌, length}
use Rattle.cases.proofs.largest.put_every.Given as goal

abbrev pub invariant-loop-at : goal.invariant-loop-at
invariant-loop-at l = length l.bytes ≡ length l.initial.bytes
