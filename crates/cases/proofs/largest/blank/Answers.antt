-- `cases::largest::blank` meets its contract: the length of a repeat by its law, since computing it would count to a million.
use Rattle.std.proofs.Common.{ℕ}
use Rattle.std.proofs.lemmas.List.{length-replicate}
use Rattle.cases.proofs.largest.blank.Goals as goal

pub returns : goal.returns
returns c = length-replicate {A = ℕ} 1048576 0
