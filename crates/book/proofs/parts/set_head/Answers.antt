-- `book::parts::set_head` meets its contract: the stores at the two places of the head.
-- Assumes nothing.
use lib.ListN.{length-set}
use borrow.Author.Rules.{rules}
use Rattle.book.proofs.parts.set_head.Goals as goal

pub returns : goal.returns
returns c = rw (c.taken_at.ensures, c.held_at.ensures)

pub bounds-book-taken_at : goal.bounds-book-taken_at
bounds-book-taken_at c = simp length-set (search rules)

pub shape_of-book : goal.shape_of-book
shape_of-book c = simp length-set
