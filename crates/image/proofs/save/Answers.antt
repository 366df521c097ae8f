-- `image::save` meets its contract: the book is fit, there is room, and header and words are put one behind the other.
-- Assumes nothing.
use native.Mathlib.Omega.{arith}
use Rattle.loops.proofs.BoolLaws.{test_passed, test_failed}
use Rattle.image.specs.Image.{image_number, number_in}
use Rattle.image.proofs.ImageLaws.{fit_long, save_unfit, save_short, save_done}
use Rattle.image.proofs.save.Goals as goal

pub returns-then-not-is_fit : goal.returns-then-not-is_fit
unfolding number_in image_number
returns-then-not-is_fit c = save_unfit _ _ (test_failed c.is_fit.ensures c.if-not-is_fit.true-raw)

pub returns-then-out-lt-IMAGE_BYTES : goal.returns-then-out-lt-IMAGE_BYTES
unfolding number_in image_number
returns-then-out-lt-IMAGE_BYTES c = save_short _ _ (test_passed c.is_fit.ensures c.if-not-is_fit.false-raw) c.if-out-lt-IMAGE_BYTES.true

pub head_of-head-requires : goal.head_of-head-requires
head_of-head-requires c = fit_long _ (test_passed c.is_fit.ensures c.if-not-is_fit.false-raw)

pub put_words-requires-2 : goal.put_words-requires-2
put_words-requires-2 c =
    omega (arith, fit_long c.args.book.now (test_passed c.is_fit.ensures c.if-not-is_fit.false-raw))

pub returns : goal.returns
unfolding number_in image_number
returns c =
    save_done _ _ (test_passed c.is_fit.ensures c.if-not-is_fit.false-raw) c.if-out-lt-IMAGE_BYTES.false
    c.head_of-head.ensures
    c.put_words.ensures c.put_words-2.ensures
