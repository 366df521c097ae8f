-- `image::load` meets its contract: both lengths are right, and the rest is `load_judged`.
-- Assumes nothing.
use Rattle.image.specs.Image.{image_number, number_in}
use Rattle.image.proofs.ImageLaws.{load_other, load_short}
use Rattle.image.proofs.load.Goals as goal

pub returns-then-book-ne-BOOK_WORDS : goal.returns-then-book-ne-BOOK_WORDS
unfolding number_in image_number
returns-then-book-ne-BOOK_WORDS c = load_other _ _ c.if-book-ne-BOOK_WORDS.true

pub returns-then-image-ne-IMAGE_BYTES : goal.returns-then-image-ne-IMAGE_BYTES
unfolding number_in image_number
returns-then-image-ne-IMAGE_BYTES c = load_short _ _ c.if-book-ne-BOOK_WORDS.false c.if-image-ne-IMAGE_BYTES.true

pub returns : goal.returns
returns c = c.load_judged.ensures
