-- What the loop keeps. Answers.antt has the idea.
-- Assumes nothing.
use Prim.Native.Nat.{◌+◌, ◌-◌, ◌^◌, ◌<◌}
use mathlib.Core.Path.{◌≡◌}
use lib.ListN.{drop}
use Rattle.line.specs.Number.{digit_run, value_from}
use Rattle.line.proofs.digits.value_at.Given as goal

abbrev pub invariant-loop-i : goal.invariant-loop-i
invariant-loop-i l = (l.i + digit_run (drop l.i l.s) ≡ l.at + digit_run (drop l.at l.s)) × (l.v < 10 ^ (l.i - l.at)) × (value_from l.v (drop l.i l.s) ≡ value_from 0 (drop l.at l.s))
