-- `book::parts::held_of` meets its contract: the word at the place of the count.
-- Assumes nothing.
use mathlib.Core.Path.{◌∙◌}
use Rattle.book.proofs.parts.held_of.Goals as goal

pub returns : goal.returns
returns c = c.wide.ensures ∙ rw c.held_at.ensures
