-- What the loop keeps. Answers.antt has the idea.
-- Assumes nothing.
use Rattle.history.specs.Stream.{Seen}
use Rattle.audit_answers.proofs.tell.Given as goal

abbrev pub invariant-times : goal.invariant-times
invariant-times g l = Seen l.words l.line l.place.kept l.place.lines
