-- `book::parts::clock_of` meets its contract: the word at the clock's place.
-- Assumes nothing.
use Rattle.book.proofs.parts.clock_of.Goals as goal

pub returns : goal.returns
returns c = rw c.clock_at.ensures
