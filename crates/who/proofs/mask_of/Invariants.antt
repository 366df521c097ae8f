-- What the loop keeps. Answers.antt has the idea.
-- Assumes nothing.
use mathlib.Core.Path.{◌≡◌}
use Rattle.who.specs.Bits.{mask_of}
use Rattle.who.specs.Who.{has_it}
use Rattle.who.proofs.mask_of.Given as goal

abbrev pub invariant-loop-x : goal.invariant-loop-x
invariant-loop-x l = l.mask ≡ mask_of l.x (has_it l.n l.book l.d.0 l.k.0)
