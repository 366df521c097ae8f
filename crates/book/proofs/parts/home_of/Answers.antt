-- `book::parts::home_of` meets its contract: the word at the home's place.
-- Assumes nothing.
use Rattle.book.proofs.parts.home_of.Goals as goal

pub returns : goal.returns
returns c = rw c.home_at.ensures
