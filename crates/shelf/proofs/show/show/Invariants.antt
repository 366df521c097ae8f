-- What the loop keeps. Answers.antt has the idea.
-- Assumes nothing.
use mathlib.Core.Path.{◌≡◌}
use Rattle.loops.specs.Loops.{times}
use Rattle.shelf.proofs.ShowFrame.{show_turn}
use Rattle.shelf.proofs.show.show.Given as goal

abbrev pub invariant-loop-number : goal.invariant-loop-number
invariant-loop-number l = l.book ≡ times l.number (show_turn l.n l.d.0 l.s.0) l.initial.book
