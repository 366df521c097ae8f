-- What the loop keeps. Answers.antt has the idea.
-- Assumes nothing.
use Rattle.entries.specs.Rests.{rests_on}
use Rattle.chains.specs.Table.{Adds, turns, direct}
use Rattle.entries.proofs.past.mark_all.Given as goal

abbrev pub invariant-loop-i : goal.invariant-loop-i
invariant-loop-i l = Adds l.initial.past (turns l.i (λ x. turns l.n (direct (rests_on l.h) x))) l.past
