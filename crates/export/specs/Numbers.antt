-- Which of two records is the greater, as a number.
-- Assumes nothing.
use Rattle.std.specs.Prelude.{ℕ, List, ◌||◌, eqb, ltb}
use Rattle.loops.specs.Loops.{pick}
use Rattle.order.specs.Order.{above}
use Rattle.order.specs.Record.{most_depots, rank_in}

-- which of the records a and b is the greater, with so many depots: 1 if it is b, else 0, and 0 where the depots are not 1 to 4
unfoldable pub greater_number : ℕ → List ℕ → List ℕ → ℕ
greater_number depots a b = pick (eqb depots 0 || ltb most_depots depots) 0 (pick (above depots (rank_in b) (rank_in a)) 1 0)
