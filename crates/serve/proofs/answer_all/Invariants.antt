-- What the loop keeps: the book and the line so far are those after the pieces. Answers.antt has the rest.
-- Assumes nothing.
use Rattle.stream.specs.Stream.{Served}
use Rattle.serve.proofs.answer_all.Given as goal

abbrev pub invariant-pieces : goal.invariant-pieces
invariant-pieces g l = Served l.initial.book l.book l.line
