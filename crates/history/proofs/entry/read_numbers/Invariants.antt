-- What the loop keeps, and what falls. Answers.antt has the idea.
-- Assumes nothing.
use Prim.Native.Nat.{◌-◌, ◌≤◌}
use mathlib.Core.Path.{◌≡◌}
use lib.ListN.{length, drop}
use Rattle.line.specs.Reading.{numbers_in}
use Rattle.history.specs.Entry.{kinded}
use Rattle.history.proofs.ReadLaws.{filled}
use Rattle.history.proofs.entry.read_numbers.Given as goal

abbrev pub invariant-loop-at : goal.invariant-loop-at
invariant-loop-at l =
    (l.n ≤ l.count) × (filled l.count l.words l.n (numbers_in (l.count - l.n) (drop l.at l.s)) ≡ kinded l.kind l.count (numbers_in l.count (drop 1 l.s)))

abbrev pub decreases-loop-at : goal.decreases-loop-at
decreases-loop-at l = length l.s - l.at
