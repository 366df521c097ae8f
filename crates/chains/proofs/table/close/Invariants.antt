-- What the loop keeps. Answers.antt has the idea.
-- Assumes nothing.
use mathlib.Core.Path.{◌≡◌}
use lib.ListN.{length}
use Rattle.chains.specs.Table.{bit}
use Rattle.chains.proofs.Closing.{Closing}
use Rattle.chains.proofs.table.close.Given as goal

abbrev pub invariant-loop-k : goal.invariant-loop-k
invariant-loop-k l = (length l.table ≡ 1024) × Closing l.n (bit l.initial.table) l.k (bit l.table)
