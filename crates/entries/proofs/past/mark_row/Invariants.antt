-- What the loop keeps. Answers.antt has the idea.
-- Assumes nothing.
use Rattle.entries.specs.Rests.{rests_on}
use Rattle.chains.specs.Table.{Adds, turns, direct}
use Rattle.entries.proofs.past.mark_row.Given as goal

abbrev pub invariant-loop-j : goal.invariant-loop-j
invariant-loop-j l = Adds l.initial.past (turns l.j (direct (rests_on l.h) l.i)) l.past
