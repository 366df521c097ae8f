-- What the loop keeps. Answers.antt has the idea.
-- Assumes nothing.
use Rattle.script.specs.Script.{fed_lines}
use Rattle.script.proofs.ScriptLaws.{Rerun}
use Rattle.script.proofs.repeated.Given as goal

abbrev pub invariant-times : goal.invariant-times
invariant-times l = Rerun l.initial.book (fed_lines l.script) l.counter l.good l.book
