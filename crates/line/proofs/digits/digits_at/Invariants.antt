-- What the loop keeps. Answers.antt has the idea.
-- Assumes nothing.
use Prim.Native.Nat.{◌+◌}
use mathlib.Core.Path.{◌≡◌}
use lib.ListN.{drop}
use Rattle.line.specs.Number.{digit_run}
use Rattle.line.proofs.digits.digits_at.Given as goal

abbrev pub invariant-loop-i : goal.invariant-loop-i
invariant-loop-i l = l.i + digit_run (drop l.i l.s) ≡ l.at + digit_run (drop l.at l.s)
