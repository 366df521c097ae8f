-- What the loop keeps. Answers.antt has the idea.
-- Assumes nothing.
use mathlib.Core.Path.{◌≡◌}
use lib.ListN.{drop}
use Rattle.history.specs.Stream.{Fits, state, through}
use Rattle.history.proofs.stream.feed.Given as goal

abbrev pub invariant-loop-byte : goal.invariant-loop-byte
invariant-loop-byte l =
    Fits l.words l.line l.place.kept l.place.lines × (through (state l.words l.line l.place.kept l.place.lines) (drop l.byte-index l.input) ≡ through (state l.initial.words l.initial.line l.kept l.lines) l.input)
