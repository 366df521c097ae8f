-- What the loop keeps, and what falls. Answers.antt has the idea.
-- Assumes nothing.
use Prim.Native.Nat.{◌-◌, ◌≤◌}
use mathlib.Core.Path.{◌≡◌}
use lib.ListN.{length}
use Rattle.recovery.proofs.RecoveryLaws.{Far}
use Rattle.recovery.proofs.replay_all.Given as goal

abbrev pub invariant-loop-at : goal.invariant-loop-at
invariant-loop-at l =
    (l.at ≤ length l.bytes) × (l.done ≤ l.at) × (length l.book ≡ length l.initial.book) × (length l.numbers ≡ length l.initial.numbers) × Far l.initial.book l.bytes l.book l.done l.at

abbrev pub decreases-loop-at : goal.decreases-loop-at
decreases-loop-at l = length l.bytes - l.at
