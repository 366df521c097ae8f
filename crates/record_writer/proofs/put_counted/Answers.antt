-- `record_writer::put_counted` meets its contract: the kind's byte, the byte that counts, then the numbers.
-- Assumes nothing.
use native.Mathlib.Omega.{arith}
use mathlib.Core.Path.{◌≡◌, ◌∙◌, ap}
use lib.ListN.{length, length-set}
use Rattle.book.proofs.WordsLaws.{length_put}
use Rattle.record_writer.proofs.WritingLaws.{counted_numbers}
use Rattle.record_writer.proofs.put_counted.Goals as goal

pub bounds-out-at-2 : goal.bounds-out-at-2
bounds-out-at-2 c = simp length-set (omega (arith, c.requires.0))

pub put_words-requires : goal.put_words-requires
put_words-requires c = simp length-set (omega (arith, c.requires.0))

pub put_words-requires-2 : goal.put_words-requires-2
put_words-requires-2 c =
    let call = c.put_words in
    let same : length call.new.out ≡ length c.args.out.now = ap length call.ensures ∙ length_put _ _ _ ∙ simp length-set in
    omega (arith, c.requires.0, same)

pub returns : goal.returns
returns c =
    let args = c.args in
    counted_numbers _ args.at _ _ _ c.byte_of.ensures
    c.put_words.ensures c.put_words-2.ensures

pub shape_of-out : goal.shape_of-out
shape_of-out c = ap length (counted_numbers _ c.args.at _ _ _ c.byte_of.ensures
    c.put_words.ensures c.put_words-2.ensures) ∙ length_put _ _ _
