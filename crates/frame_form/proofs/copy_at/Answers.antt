-- `frame_form::copy_at` meets its contract: word by word.
-- Assumes nothing.
use Rattle.frame.specs.Frame.{copy_at}
use Rattle.frame_form.proofs.copy_at.Goals as goal

pub returns : goal.returns
unfolding copy_at
returns c =
    rw (
      c.word_of_byte.ensures,
      c.word_of_byte-2.ensures,
      c.word_at.ensures,
      c.word_at-2.ensures,
      c.word_at-3.ensures,
      c.index.ensures,
      c.entry_at.ensures,
      c.entry_at-2.ensures,
      c.entry_at-3.ensures,
      c.entry_at-4.ensures,
    )
