-- `messages::slot_of` meets its contract: the part of the book at the slot's place.
-- Assumes nothing.
use Rattle.book.proofs.WordsLaws.{part_from}
use borrow.Author.Rules.{rules}
use Rattle.messages.proofs.slot_of.Goals as goal

pub returns : goal.returns
returns c = (part_from c.args.book.now 10 c.slot_at-at.ensures, search rules)
