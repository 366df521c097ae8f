-- `book::words::write_words` meets its contract: the words that are copied into the run are put there.
-- Assumes nothing.
use native.Mathlib.Omega.{arith}
use Rattle.book.proofs.WordsLaws.{put_run}
use Rattle.book.proofs.words.write_words.Goals as goal

pub returns : goal.returns
returns c = put_run _ _ _ _ c.copy_from_slice.ensures.after (omega arith) c.requires
