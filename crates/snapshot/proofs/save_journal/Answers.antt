-- `snapshot::save_journal` meets its contract: it begins with a book of zeros.
-- Assumes nothing.
use Rattle.stream.proofs.Theorems.{began_zeros}
use Rattle.snapshot.proofs.save_journal.Goals as goal

pub save_on-requires : goal.save_on-requires
save_on-requires g c = began_zeros
