-- What the loop keeps. Answers.antt has the idea.
-- Assumes nothing.
use Prim.Native.Nat.{◌+◌}
use mathlib.Core.Path.{◌≡◌}
use lib.ListN.{drop}
use Rattle.script.specs.Script.{line_size}
use Rattle.script.proofs.line_end.Given as goal

abbrev pub invariant-loop-i : goal.invariant-loop-i
invariant-loop-i l = l.i + line_size (drop l.i l.s) ≡ l.at + line_size (drop l.at l.s)
