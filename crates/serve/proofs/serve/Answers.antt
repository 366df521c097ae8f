-- `serve::serve` meets its contract: it begins with a book of zeros.
-- Assumes nothing.
use Rattle.stream.proofs.Theorems.{began_zeros}
use Rattle.serve.proofs.serve.Goals as goal

pub serve_on-requires : goal.serve_on-requires
serve_on-requires g c = began_zeros
