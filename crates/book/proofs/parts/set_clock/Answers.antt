-- `book::parts::set_clock` meets its contract: the store at the clock's place.
-- Assumes nothing.
use Rattle.book.proofs.parts.set_clock.Goals as goal

pub returns : goal.returns
returns c = rw c.clock_at.ensures
