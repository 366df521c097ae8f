-- `record_writer::put_plain` meets its contract: the kind's byte, then the numbers.
-- Assumes nothing.
use mathlib.Core.Path.{◌∙◌, ap}
use lib.ListN.{length}
use Rattle.book.proofs.WordsLaws.{length_put}
use Rattle.record_writer.proofs.WritingLaws.{plain_bytes}
use Rattle.record_writer.proofs.put_plain.Goals as goal

pub returns : goal.returns
returns c = plain_bytes _ _ _ c.byte_of.ensures c.put_words.ensures

pub shape_of-out : goal.shape_of-out
shape_of-out c = ap length (plain_bytes _ _ _ c.byte_of.ensures c.put_words.ensures) ∙ length_put _ _ _
