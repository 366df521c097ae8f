-- `snapshot::save_behind_image` meets its contract: it begins with a book of zeros.
-- Assumes nothing.
use Rattle.stream.proofs.Theorems.{began_zeros}
use Rattle.snapshot.proofs.save_behind_image.Goals as goal

pub save_behind-requires : goal.save_behind-requires
save_behind-requires g c = began_zeros
