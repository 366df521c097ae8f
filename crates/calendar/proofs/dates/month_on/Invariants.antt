-- What the loop keeps, and what falls. Answers.antt has the idea.
-- Assumes nothing.
use Prim.Native.Nat.{◌-◌, ◌≤◌, ◌<◌}
use Rattle.months.specs.Months.{start}
use Rattle.calendar.proofs.dates.month_on.Given as goal

abbrev pub invariant-loop-low : goal.invariant-loop-low
invariant-loop-low l = (l.low < l.high) × (l.high ≤ 4800) × (start l.low ≤ l.day) × (l.day < start l.high)

abbrev pub decreases-loop-low : goal.decreases-loop-low
decreases-loop-low l = l.high - l.low
