-- `image::load_judged` meets its contract: the header is that of the words behind it, these are fit, and only then are they the book's.
-- Assumes nothing.
use Rattle.loops.proofs.BoolLaws.{test_passed, test_failed}
use Rattle.image.specs.Image.{image_number, number_in}
use Rattle.image.proofs.ImageLaws.{book_read, load_wrong, load_unfit, load_done}
use Rattle.image.proofs.load_judged.Goals as goal

pub returns-then-not-head_is : goal.returns-then-not-head_is
unfolding number_in image_number
returns-then-not-head_is c =
    let given = c.requires in
    load_wrong _ _ given.0 given.1 (book_read _ given.2 c.read_words.ensures) (test_failed c.head_is.ensures c.if-not-head_is.true-raw)

pub returns-then-not-is_fit : goal.returns-then-not-is_fit
unfolding number_in image_number
returns-then-not-is_fit c =
    let given = c.requires in
    load_unfit _ _ given.0 given.1 (book_read _ given.2 c.read_words.ensures) (test_passed c.head_is.ensures c.if-not-head_is.false-raw)
    (test_failed c.is_fit.ensures c.if-not-is_fit.true-raw)

pub returns : goal.returns
unfolding number_in image_number
returns c =
    let given = c.requires in
    load_done _ _ given.0 given.1 (book_read _ given.2 c.read_words.ensures) (test_passed c.head_is.ensures c.if-not-head_is.false-raw)
    (test_passed c.is_fit.ensures c.if-not-is_fit.false-raw) c.write_words.ensures
