-- What rests on what in a history, circles, and low reads.
-- Assumes nothing.
use Rattle.std.specs.Prelude.{ℕ, ◌≡◌, Bool, true, ◌&&◌, ◌||◌, List, eqb}
use Rattle.order.specs.Order.{above}
use Rattle.order.specs.Record.{most_depots}
use Rattle.chains.specs.Chain.{Chain}
use Rattle.entries.specs.Entries.{entries, bearing, rank, is_write, is_read, wrote, earlier}

-- entry i rests directly on entry j: an earlier one of its crew, or the write that it reads
unfoldable pub rests_on : List ℕ → ℕ → ℕ → Bool
rests_on h i j = earlier h i j || is_read h i && wrote h i j

-- entry j is in the past of entry i
abbrev pub Past : List ℕ → ℕ → ℕ → Type 0
Past h i j = Chain (entries h) (rests_on h) i j

-- entry i lies on a circle of what rests on what
abbrev pub OnCircle : List ℕ → ℕ → Type 0
OnCircle h i = Past h i i

-- entry i is a read, entry j a write to the same bearing, and the read is the lower
unfoldable pub lower_than : List ℕ → ℕ → ℕ → Bool
lower_than h i j = is_read h i && (is_write h j && (eqb (bearing h i) (bearing h j) && above most_depots (rank h j) (rank h i)))

-- entry i is a read that is lower than a write to the same bearing in its past
pub record LowRead (h : List ℕ) (i : ℕ) : Type 0 where
  pub write : ℕ
  pub past : Past h i write
  pub lower : lower_than h i write ≡ true
