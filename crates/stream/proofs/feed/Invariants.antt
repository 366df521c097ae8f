-- What the loop keeps. Answers.antt has the idea.
-- Assumes nothing.
use Rattle.reply.specs.Printed.{answer_room}
use Rattle.events.specs.Answering.{answer_to, record_to, record_room}
use Rattle.stream.specs.Stream.{line_in}
use Rattle.stream.proofs.StreamLaws.{Fed, Given}
use Rattle.stream.proofs.feed.Given as goal

abbrev pub invariant-loop-i : goal.invariant-loop-i
invariant-loop-i l =
    Fed l.initial.book (line_in l.initial.line) l.piece l.book l.line l.i
    × Given answer_to answer_room l.initial.book (line_in l.initial.line) l.piece l.initial.out l.out l.next.out l.i
    × Given record_to record_room l.initial.book (line_in l.initial.line) l.piece l.initial.log l.log l.next.log l.i
