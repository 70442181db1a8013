-- `cases::largest::spoil` goes over 256 disks, whose blocks lie within the array.
use Rattle.std.proofs.Common.{◌≡◌, length}
use Rattle.cases.proofs.largest.spoil.Given as goal

abbrev pub invariant-loop-d : goal.invariant-loop-d
invariant-loop-d l = length l.array ≡ 1048576
