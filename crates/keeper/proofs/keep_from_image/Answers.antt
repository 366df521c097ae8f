-- `keeper::keep_from_image` meets its contract: it begins with a book of zeros.
-- Assumes nothing.
use Rattle.stream.proofs.Theorems.{began_zeros}
use Rattle.keeper.proofs.keep_from_image.Goals as goal

pub keep_behind-requires : goal.keep_behind-requires
keep_behind-requires g c = began_zeros
