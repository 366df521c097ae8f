-- What the loop keeps, and what falls. Answers.antt has the idea.
-- Assumes nothing.
use lib.ListN.{take}
use Rattle.line.specs.Grammar.{spaced}
use Rattle.line.specs.Printing.{Wrote}
use Rattle.line.proofs.printer.print_numbers.Given as goal

abbrev pub invariant-loop-i : goal.invariant-loop-i
invariant-loop-i l = Wrote l.initial.out l.at (spaced (take l.i l.numbers)) l.out l.next
