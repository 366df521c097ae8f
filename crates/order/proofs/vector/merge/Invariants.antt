-- What the loop keeps. Answers.antt has the idea.
-- Assumes nothing.
use mathlib.Core.Path.{◌≡◌}
use lib.ListN.{length}
use Rattle.order.specs.Vector.{vector_in, merged_at}
use Rattle.order.proofs.vector.merge.Given as goal

abbrev pub invariant-loop-x : goal.invariant-loop-x
invariant-loop-x l = (length l.to ≡ length l.initial.to) × (l.to ≡ merged_at l.x l.own (vector_in l.offered) l.at l.initial.to)
