-- What the loop keeps. Answers.antt has the idea.
-- Assumes nothing.
use Prim.Native.Nat.{◌≤◌, ◌*◌}
use mathlib.Core.Path.{◌≡◌}
use Rattle.order.specs.Vector.{vector_in, sum}
use Rattle.order.proofs.vector.sum_of.Given as goal

abbrev pub invariant-loop-x : goal.invariant-loop-x
invariant-loop-x l = (l.total ≡ sum l.x-index (vector_in l.u)) × (l.total ≤ l.x-index * 4294967295)
