-- `wanted::can_be_wanted` meets its contract: the map has a byte for each disk of the array.
-- Assumes nothing.
use Rattle.wanted.proofs.Answers.{outside, inside}
use Rattle.wanted.proofs.can_be_wanted.Goals as goal

pub returns-then-map-disk : goal.returns-then-map-disk
returns-then-map-disk c = outside _ _ _ c.requires c.if-map-disk.true

pub returns : goal.returns
returns c = inside _ _ _ c.requires c.if-map-disk.false
