-- What the loop keeps: each entry is the lowest stamp of the shelves passed.
-- Assumes nothing.
use mathlib.Core.Path.{◌≡◌}
use Rattle.links.specs.Send.{lowest}
use Rattle.lowest.proofs.lowest_seen.Given as goal

abbrev pub invariant-loop-s : goal.invariant-loop-s
invariant-loop-s l =
    (l.first ≡ lowest l.s l.d.0 0 l.book) × (l.second ≡ lowest l.s l.d.0 1 l.book) × (l.third ≡ lowest l.s l.d.0 2 l.book) × (l.fourth ≡ lowest l.s l.d.0 3 l.book)
