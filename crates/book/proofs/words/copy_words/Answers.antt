-- `book::words::copy_words` meets its contract: the words of one run are put in the place of the other.
-- Assumes nothing.
use mathlib.Core.Path.{◌∙◌, refl}
use Rattle.book.proofs.WordsLaws.{put_copied}
use Rattle.book.proofs.words.copy_words.Goals as goal

pub returns : goal.returns
returns c = c.copy_within.ensures.after ∙ put_copied _ _ _ _ _ refl c.requires.0 c.requires.1
