-- What the loop keeps. Answers.antt has the idea.
-- Assumes nothing.
use mathlib.Core.Path.{◌≡◌}
use Rattle.loops.specs.Loops.{times}
use Rattle.order.specs.Vector.{vector_in}
use Rattle.register.proofs.PageReady.{page_turn}
use Rattle.moment.proofs.settle_all.Given as goal

abbrev pub invariant-loop-s : goal.invariant-loop-s
invariant-loop-s l = l.book ≡ times l.s (page_turn l.n l.d.0 (vector_in l.offered)) l.initial.book
