-- What the loop keeps. Answers.antt has the idea.
-- Assumes nothing.
use mathlib.Core.Path.{◌≡◌}
use Rattle.shelf.specs.Show.{swept}
use Rattle.shelf.proofs.show.sweep.Given as goal

abbrev pub invariant-loop-i : goal.invariant-loop-i
invariant-loop-i l = swept l.n l.d.0 l.s.0 l.q.0 l.i l.initial.book ≡ record { words = l.book; kept = l.kept }
