-- What a look at a record's entries finds: the highest entry, and the stamp.
-- Assumes nothing.
use Rattle.std.specs.Prelude.{ℕ, max, ltb}
use Rattle.loops.specs.Loops.{times, pick}
use Rattle.order.specs.Vector.{Vec}

-- the highest of the n entries
unfoldable pub highest : ℕ → Vec → ℕ
highest n v = times n (λ x m. max m (v x)) 0

-- the entry of depot o, or 0 where o is none of the n depots
unfoldable pub entry_of : ℕ → ℕ → Vec → ℕ
entry_of n o v = pick (ltb o n) (v o) 0
