-- What the loop keeps, and what falls. Answers.antt has the idea.
-- Assumes nothing.
use Prim.Native.Nat.{◌-◌}
use mathlib.Core.Path.{◌≡◌}
use lib.ListN.{length}
use Rattle.script.proofs.ScriptLaws.{Far}
use Rattle.script.proofs.runs.Given as goal

abbrev pub invariant-loop-at : goal.invariant-loop-at
invariant-loop-at l = (length l.book ≡ length l.initial.book) × (length l.out ≡ length l.initial.out) × Far l.initial.book l.script l.good l.book l.at

abbrev pub decreases-loop-at : goal.decreases-loop-at
decreases-loop-at l = length l.script - l.at
