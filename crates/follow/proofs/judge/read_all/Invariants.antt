-- `follow::judge::read_all` meets its contract: after p turns the sheets of the first p positions are read.
-- Assumes nothing.
use mathlib.Core.Path.{◌≡◌}
use lib.ListN.{length}
use Rattle.model.specs.Answers.{number_if}
use Rattle.follow.proofs.Judged.{SoFar}
use Rattle.follow.proofs.judge.read_all.Given as goal

abbrev pub invariant-loop-p : goal.invariant-loop-p
invariant-loop-p l = (length l.list ≡ 32) × SoFar l.sectors l.sheets l.p (number_if l.refused) l.number
