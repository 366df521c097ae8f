-- What the loop keeps. Answers.antt has the idea.
-- Assumes nothing.
use mathlib.Core.Path.{◌≡◌}
use mathlib.Core.Bool.{true}
use Rattle.loops.specs.Loops.{every}
use mathlib.Core.Bool.{◌||◌}
use lib.Dec.{eqb}
use Rattle.book.specs.Layout.{link_of}
use Rattle.fit.specs.Fit.{link_fit}
use Rattle.whole.proofs.links_of_fit.Given as goal

abbrev pub invariant-loop-i : goal.invariant-loop-i
invariant-loop-i l = every l.i (λ x. every l.n.depots (λ to. eqb x to || link_fit l.n l.book l.s.0 x (link_of l.s.0 x to))) ≡ true
