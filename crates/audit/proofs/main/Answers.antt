-- `audit::main` meets its contract: buffers of zeros hold what was read before any piece.
-- Assumes nothing.
use Rattle.history.proofs.StreamLaws.{seen_start}
use Rattle.audit.proofs.main.Goals as goal

pub read_all-requires : goal.read_all-requires
read_all-requires c = seen_start
