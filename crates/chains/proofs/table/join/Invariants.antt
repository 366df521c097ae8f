-- What the loop keeps. Answers.antt has the idea.
-- Assumes nothing.
use Rattle.chains.specs.Table.{bit, Adds, joins, turns}
use Rattle.chains.proofs.table.join.Given as goal

abbrev pub invariant-loop-p : goal.invariant-loop-p
invariant-loop-p l = Adds l.initial.table (turns l.p (joins (bit l.initial.table) l.k)) l.table
