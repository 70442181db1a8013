-- `text::word` meets its contract.
-- Assumes nothing.
use Rattle.std.proofs.Common.{refl, ap, ◌∙◌, ◌+◌, ◌-◌, length}
use borrow.Rule.Slice.PartMut.{put_mid}
use Rattle.text.proofs.Joined.{part_written}
use Rattle.text.proofs.word.Goals as goal

pub returns : goal.returns
returns c =
    let a = c.args in
    record {
      bytes = ap (put_mid a.at (a.at + length a.letters.now - a.at) a.out.now) c.copy_from_slice.ensures.after ∙ part_written a.out.now a.at a.letters.now c.requires;
      end = refl;
      within = c.requires;
    }
