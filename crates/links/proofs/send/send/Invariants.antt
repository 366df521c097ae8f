-- What the loop keeps. Answers.antt has the idea.
-- Assumes nothing.
use mathlib.Core.Path.{◌≡◌}
use Rattle.loops.specs.Loops.{times}
use Rattle.links.specs.Send.{sent_to}
use Rattle.links.proofs.send.send.Given as goal

abbrev pub invariant-loop-to : goal.invariant-loop-to
invariant-loop-to l = l.book ≡ times l.to (sent_to l.d.0 l.s.0 l.message) l.initial.book
