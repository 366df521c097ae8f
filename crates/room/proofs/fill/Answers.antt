-- `room::fill` meets its contract: the words fit, or nothing is written.
-- Assumes nothing.
use mathlib.Core.Path.{sym, ◌∙◌}
use borrow.Author.Tests.{le-leb, lt-leb}
use Rattle.loops.proofs.BoolLaws.{pick_true, pick_false}
use Rattle.book.specs.Words.{put}
use Rattle.room.specs.Room.{filled}
use Rattle.room.proofs.fill.Goals as goal

pub returns-then-words-out : goal.returns-then-words-out
unfolding filled put
returns-then-words-out c = c.write_words.ensures ∙ sym (pick_true _ _ (le-leb _ _ c.if-words-out.true))

pub returns-else-words-out : goal.returns-else-words-out
unfolding filled
returns-else-words-out c = sym (pick_false _ _ (lt-leb _ _ c.if-words-out.false))
