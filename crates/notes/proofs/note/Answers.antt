-- `notes::note` meets its contract.
-- Assumes nothing.
use borrow.Author.Tests.{lt-ltb, le-ltb}
use Rattle.notes.specs.Notes.{noted}
use Rattle.notes.proofs.note.Goals as goal

pub returns-then-count-lt-ROOM : goal.returns-then-count-lt-ROOM
unfolding noted
returns-then-count-lt-ROOM c = rw (lt-ltb _ _ c.if-count-lt-ROOM.true)

pub returns-else-count-lt-ROOM : goal.returns-else-count-lt-ROOM
unfolding noted
returns-else-count-lt-ROOM c = rw (le-ltb _ _ c.if-count-lt-ROOM.false)
