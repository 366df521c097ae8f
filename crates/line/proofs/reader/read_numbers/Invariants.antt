-- What the loop keeps, and what falls. Answers.antt has the idea.
-- Assumes nothing.
use Prim.Native.Nat.{◌-◌, ◌≤◌}
use mathlib.Core.Path.{◌≡◌}
use lib.ListN.{length, drop}
use Rattle.line.specs.Reading.{numbers_in, counted, line_of}
use Rattle.line.proofs.ReadingLaws.{answered}
use Rattle.line.proofs.reader.read_numbers.Given as goal

abbrev pub invariant-loop-at : goal.invariant-loop-at
invariant-loop-at l =
    (l.count ≤ l.most) × (answered l.event l.least l.numbers l.count (numbers_in (l.most - l.count) (drop l.at l.s)) ≡ line_of (counted l.event l.least (numbers_in l.most (drop 1 l.s))))

abbrev pub decreases-loop-at : goal.decreases-loop-at
decreases-loop-at l = length l.s - l.at
