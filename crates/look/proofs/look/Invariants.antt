-- What the loop keeps. Answers.antt has the idea.
-- Assumes nothing.
use mathlib.Core.Path.{◌≡◌}
use Rattle.order.specs.Record.{vector_of}
use Rattle.look.specs.Look.{highest}
use Rattle.look.proofs.look.Given as goal

abbrev pub invariant-loop-x : goal.invariant-loop-x
invariant-loop-x l = l.highest ≡ highest l.x (vector_of l.version)
