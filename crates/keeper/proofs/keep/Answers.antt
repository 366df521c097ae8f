-- `keeper::keep` meets its contract: it begins with a book of zeros.
-- Assumes nothing.
use Rattle.stream.proofs.Theorems.{began_zeros}
use Rattle.keeper.proofs.keep.Goals as goal

pub keep_on-requires : goal.keep_on-requires
keep_on-requires g c = began_zeros
