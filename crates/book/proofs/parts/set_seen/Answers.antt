-- `book::parts::set_seen` meets its contract: the store at the place of the stamp seen.
-- Assumes nothing.
use Rattle.book.proofs.parts.set_seen.Goals as goal

pub returns : goal.returns
returns c = rw (c.index.ensures, c.seen_at.ensures)
