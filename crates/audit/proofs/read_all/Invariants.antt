-- What the loop keeps: the buffers hold what was read. Answers.antt has the rest.
-- Assumes nothing.
use Rattle.history.specs.Stream.{Seen}
use Rattle.audit.proofs.read_all.Given as goal

abbrev pub invariant-pieces : goal.invariant-pieces
invariant-pieces g l = Seen l.words l.line l.kept l.lines
