-- What the loop keeps. Answers.antt has the idea.
-- Assumes nothing.
use Rattle.paper.specs.Answers.{told_all}
use Rattle.line.specs.Printing.{Wrote}
use Rattle.reply.specs.Printed.{page_bytes}
use Rattle.reply.proofs.page.say_page.Given as goal

abbrev pub invariant-loop-i : goal.invariant-loop-i
invariant-loop-i l = Wrote l.initial.out l.at (page_bytes (told_all l.depots l.i l.words)) l.out l.next
