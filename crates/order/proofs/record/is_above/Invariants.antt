-- What the loop keeps. Answers.antt has the idea.
-- Assumes nothing.
use Prim.Native.Nat.{ℕ, ◌<◌}
use mathlib.Core.Path.{◌≡◌}
use Rattle.order.specs.Record.{vector_of}
use Rattle.order.proofs.record.is_above.Given as goal

abbrev pub invariant-loop-x : goal.invariant-loop-x
invariant-loop-x l = (y : ℕ) → y < l.x → vector_of l.a y ≡ vector_of l.b y
