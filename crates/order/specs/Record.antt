-- The version record: nine words, of which the last four have room for the vector's entries.
--   0 bearing · 1 value · 2, 3 the card: the bits of diameter and width · 4 origin · 5 .. 8 the vector, one entry a depot
-- Assumes nothing.
use Rattle.std.specs.Prelude.{ℕ, List, eqb, length, get_or}
use Rattle.loops.specs.Loops.{pick}
use Rattle.order.specs.Vector.{Vec, vector_at}
use Rattle.order.specs.Order.{Rank}

abbrev pub record_words : ℕ
record_words = 9

-- how many entries a record has room for: the most depots there can be
abbrev pub most_depots : ℕ
most_depots = 4

abbrev pub bearing_of : List ℕ → ℕ
bearing_of r = get_or r 0 0

abbrev pub value_of : List ℕ → ℕ
value_of r = get_or r 1 0

abbrev pub diameter_of : List ℕ → ℕ
diameter_of r = get_or r 2 0

abbrev pub width_of : List ℕ → ℕ
width_of r = get_or r 3 0

abbrev pub origin_of : List ℕ → ℕ
origin_of r = get_or r 4 0

abbrev pub vector_of : List ℕ → Vec
vector_of r = vector_at r 5

-- what the order looks at of a record
abbrev pub rank_of : List ℕ → Rank
rank_of r = record { vector = vector_of r; origin = origin_of r }

-- an unwritten bearing has the zero vector
abbrev pub unwritten : Rank
unwritten = record { vector = λ x. 0; origin = 0 }

-- the same of any words that are handed in as a record: one of the wrong length counts as unwritten
unfoldable pub rank_in : List ℕ → Rank
rank_in r = pick (eqb (length r) record_words) (rank_of r) unwritten
