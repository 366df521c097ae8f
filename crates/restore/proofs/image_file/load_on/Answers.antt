-- `restore::image_file::load_on` meets its contract: an image that is loaded has a fit book, and any other leaves the book.
-- Assumes nothing.
use Rattle.restore.proofs.RestoreLaws.{began_loaded}
use Rattle.restore.proofs.image_file.load_on.Goals as goal

pub returns : goal.returns
returns c = began_loaded c.load.ensures c.requires
