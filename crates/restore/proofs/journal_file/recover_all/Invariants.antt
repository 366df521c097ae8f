-- What the loop keeps: the book is one that a desk may begin with.
-- Assumes nothing.
use Rattle.stream.specs.Stream.{Began}
use Rattle.restore.proofs.journal_file.recover_all.Given as goal

abbrev pub invariant-buffers : goal.invariant-buffers
invariant-buffers g l = Began l.book
